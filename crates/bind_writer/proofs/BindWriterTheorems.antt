-- What is proved of the writer of a BIND.
use Prim.Native.Nat.{ℕ, ◌-◌, ◌^◌, ◌≤◌, ◌<◌}
use mathlib.Core.Path.{◌≡◌, refl, sym, ap, ap₂, subst, ◌∙◌}
use mathlib.Core.Bool.{true}
use mathlib.Core.List.{List, [], ◌∷◌, ◌++◌, map}
use native.Mathlib.Omega.{arith}
use lib.Dec.{leb}
use lib.ListN.{length, drop, replicate, length-map}
use borrow.Author.Tests.{leb-true, le-leb}
use Rattle.fields.specs.Bytes.{Bytes}
use Rattle.fields.specs.Lists.{all_of, Each, flat}
use Rattle.fields.specs.Text.{is_text}
use Rattle.fields.specs.Received.{Fills}
use Rattle.fields.proofs.Laws.Received.{zero-fills}
use Rattle.fields.specs.Checks.{or_else}
use Rattle.fields.specs.Answer.{Checked, Wrote, written_number, written_count, room_fault}
use Rattle.fields.proofs.Laws.Checks.{and_split, and-join, zero-else}
use Rattle.fields.proofs.Laws.Tests.{is_false}
use Rattle.fields.proofs.Laws.Lists.{each_all}
use Rattle.fields.proofs.Laws.Text.{is-text, text-is}
use Rattle.fields.specs.Writers.{WriterTheorems}
use Rattle.fields.proofs.Laws.Writers.{answer-wrote, writer-theorems}
use Rattle.bind_layout.specs.Children.{Child, padded, child_name, child_data, name_table, encode_children, WellChild, WellBundle}
use Rattle.bind_layout.proofs.Laws.Written.{length-encode}
use Rattle.bind_layout.proofs.Laws.BundleTheorems.{bundle-unique}
use Rattle.content.specs.Tree.{Children, none, more, bind, type_text, encode, child_list, WellFormed, WellChildren, cleaned, cleaned_children}
use Rattle.content.specs.ContentCheck.{bind_fault, bind_checked, deepest, nested_levels}
use Rattle.content.specs.ContentTheorems.{first_fault}
use Rattle.content.specs.Kinds.{bind_text}
use Rattle.content.proofs.Laws.Kinds.{kind-bind}
use Rattle.content.proofs.Laws.ChildrenWalk.{kind-bound}
use Rattle.content.proofs.Laws.Faults.{bind-content, bind-written}
use Rattle.content.proofs.Laws.Contents.{content-well}
use Rattle.content.proofs.Laws.Cleaned.{cleaned-type}
use Rattle.content.proofs.ContentTheorems.{content-theorems}
use Rattle.cleaning.specs.CleanBytes.{clean_bytes}
use Rattle.cleaning.proofs.Laws.CleaningTheorems.{cleaning-theorems}
use Rattle.bind_writer.specs.ChildLists.{children, types_of, names_of, contents_of, SizesFit}
use Rattle.bind_writer.specs.BindWriter.{type_ok, texts_ok, lists_ok, child_fault, given_fault, clean_child, written, bind_bytes, bind_written, bind_out}
use Rattle.bind_writer.specs.BindWriterTheorems.{Writable, bytes_of, ReadBack, BindWriterTheorems}
use Rattle.bind_writer.proofs.Laws.Children.{lists_of, plain, children-of}
use Rattle.bind_writer.proofs.Laws.Layout.{lists-passed, lists-pass}
use Rattle.bind_writer.proofs.Laws.Encoding.{length-children, length-cleaned}
use Rattle.bind_writer.proofs.Laws.Faults.{by-lists, past-lists, passed}

-- ---- which lists can be written

-- zeros stand after the type
abbrev ZeroRest : Child → Type 0
ZeroRest c = c.rest ≡ replicate (12 - length c.type_text) 0

-- the test of a child's texts, and the rules that it tests
well-child : (c : Child) → texts_ok c ≡ true → length c.content < 256 ^ 8 → ZeroRest c → WellChild c
well-child c h s z =
    let k = and_split (type_ok c.type_text) (is_text c.name) h in
    let t = and_split (leb (length c.type_text) _) (is_text c.type_text) k.0 in
    record {
      type_fills = subst (Fills 12 c.type_text) (sym z) (zero-fills 12 c.type_text (is-text c.type_text t.1) (leb-true (length c.type_text) _ t.0));
      name_text = is-text c.name k.1;
      size_fits = s;
    }

child-ok : (c : Child) → WellChild c → texts_ok c ≡ true
child-ok c w =
    and-join (type_ok c.type_text) (is_text c.name)
    (and-join (leb (length c.type_text) _) (is_text c.type_text) (le-leb (length c.type_text) _ (omega (arith, w.type_fills.width))) (text-is c.type_text w.type_fills.text))
    (text-is c.name w.name_text)

well-children : (cs : List Child) → all_of texts_ok cs ≡ true → SizesFit (contents_of cs) → Each ZeroRest cs → Each WellChild cs
unfolding all_of
well-children [] h s z = tt
well-children (c ∷ cs) h s z =
    let k = and_split (texts_ok c) (all_of texts_ok cs) h in
    (well-child c k.0 s.0 z.0, well-children cs k.1 s.1 z.1)

children-zeros : (ts ns ds : List (List ℕ)) → Each ZeroRest (children ts ns ds)
unfolding children
children-zeros [] ns ds = tt
children-zeros (t ∷ ts) [] ds = tt
children-zeros (t ∷ ts) (n ∷ ns) [] = tt
children-zeros (t ∷ ts) (n ∷ ns) (d ∷ ds) = (refl, children-zeros ts ns ds)

module _ (ts ns ds : List (List ℕ)) where
  lists-writable : SizesFit ds → lists_ok ts ns ds ≡ true → Writable ts ns ds
  lists-writable s h =
      let l = lists-passed ts ns ds h in
      let n = length-children ts ns ds l.count in
      record {
        count = l.count;
        well =
            record {
              count_fits = omega (arith, leb-true (length ts) _ l.few, n);
              table_fits = omega (arith, leb-true (length (name_table (children ts ns ds))) _ l.table);
              each = well-children (children ts ns ds) l.texts (subst SizesFit (sym (lists_of ts ns ds l.count).2) s) (children-zeros ts ns ds);
            };
      }

  writable-pass : Writable ts ns ds → lists_ok ts ns ds ≡ true
  writable-pass w =
      lists-pass ts ns ds
      (record {
        count = w.count;
        few = le-leb (length ts) _ (omega (arith, w.well.count_fits, length-children ts ns ds w.count));
        texts = each_all texts_ok WellChild child-ok (children ts ns ds) w.well.each;
        table = le-leb (length (name_table (children ts ns ds))) _ (omega (arith, w.well.table_fits));
      })

-- ---- the numbers

module _ (ts ns ds : List (List ℕ)) where
  abbrev laws : WriterTheorems (given_fault ts ns ds) (bind_bytes ts ns ds)
  laws = writer-theorems (given_fault ts ns ds) (bind_bytes ts ns ds)

  number-refused : (room : ℕ) → SizesFit ds → (Writable ts ns ds → ⊥) → written_number (bind_written ts ns ds room) ≡ 10
  number-refused room s n = laws.number room ∙ by-lists ts ns ds room (is_false (lists_ok ts ns ds) (λ e. n (lists-writable ts ns ds s e)))

  -- the reader's number for what would be written is the first fault of the children
  reader : Writable ts ns ds → given_fault ts ns ds ≡ bind_fault deepest (encode_children (children ts ns ds))
  reader w =
      past-lists ts ns ds (writable-pass ts ns ds w)
      ∙ sym (sym (bind-content deepest (encode_children (children ts ns ds))) ∙ bind-written _ (children ts ns ds) w.well)

  number-reader : (room : ℕ) → Writable ts ns ds
      → written_number (bind_written ts ns ds room)
      ≡ or_else (bind_fault deepest (encode_children (children ts ns ds))) (room_fault (length (encode_children (children ts ns ds))) room)
  number-reader room w =
      laws.number room ∙ ap₂ (λ (n k : ℕ). or_else n (room_fault k room)) (reader w) (length-cleaned (children ts ns ds))

-- ---- the trees of children

-- the children written are those of the cleaned tree
tree-children : (levels : ℕ) → levels ≡ nested_levels → (cs : Children) → WellChildren cs levels → Each WellChild (child_list cs)
    → map clean_child (map plain (child_list cs)) ≡ child_list (cleaned_children cs)
unfolding WellFormed encode cleaned
tree-children levels e none w v = refl
tree-children levels e (more rest name x cs) w v =
    let t = cleaned-type x in
    let f = v.0.type_fills in
    let k : 12 - length (type_text x) ≡ length rest = omega (arith, f.width) in
    let y = ap (λ (l : ℕ). clean_bytes l (type_text x) (encode x)) (sym e) ∙ cleaning-theorems.cleaned_bytes levels x w.0 in
    λ i.
    record { type_text = sym t i; rest = replicate (k i) 0; name = name; content = y i } ∷ tree-children levels e cs w.1 v.1 i

module _ (cs : Children) (w : WellFormed (bind cs) deepest) where
  tree-written : written (types_of (child_list cs)) (names_of (child_list cs)) (contents_of (child_list cs)) ≡ child_list (cleaned_children cs)
  unfolding WellFormed
  tree-written = ap (map clean_child) (children-of (child_list cs)) ∙ tree-children nested_levels refl cs w.1 w.0.each

  -- the cleaned one is well formed, accepted and clean
  clean-well : WellFormed (cleaned (bind cs)) deepest
  clean-well = content-theorems.cleaned_well deepest (bind cs) w

  clean-bundle : WellBundle (child_list (cleaned_children cs))
  unfolding WellFormed cleaned
  clean-bundle = clean-well.0

  clean-accepted : bind_fault deepest (encode_children (child_list (cleaned_children cs))) ≡ 0
  unfolding encode cleaned
  clean-accepted = sym (bind-content deepest _) ∙ (content-theorems.two_way deepest bind_text).well_accepted (cleaned (bind cs)) (clean-well, refl)

  clean-marked : (bind_checked deepest (encode_children (child_list (cleaned_children cs)))).clean ≡ true
  unfolding encode cleaned
  clean-marked =
      sym (ap (λ (k : Checked). k.clean) (kind-bound deepest bind_text (encode (cleaned (bind cs))) kind-bind))
      ∙ (content-theorems.mark deepest (cleaned (bind cs)) clean-well).1 (content-theorems.cleaned_clean (bind cs))

-- children without a fault are those of some tree
tree_of : (cs : List Child) → Each Bytes (contents_of cs) → first_fault child_fault cs ≡ 0
    → (tree : Children) × (child_list tree ≡ cs) × WellChildren tree nested_levels
unfolding WellFormed encode
tree_of [] b z = (none, refl, tt)
tree_of (c ∷ cs) b z =
    let k = zero-else (child_fault c) (first_fault child_fault cs) z in
    let x = (content-theorems.two_way nested_levels c.type_text).accepted c.content b.0 k.0 in
    let r = tree_of cs b.1 k.1 in (
      more c.rest c.name x.0 r.0,
      λ i. record { type_text = x.1.1 i; rest = c.rest; name = c.name; content = x.2 i } ∷ r.1 i,
      (x.1.0, r.2),
    )

-- ---- the buffer

module _ (ts ns ds : List (List ℕ)) (out : List ℕ) where
  wrote : written_number (bind_written ts ns ds (length out)) ≡ 0 → SizesFit ds → Each Bytes ds → ReadBack ts ns ds out
  unfolding WellFormed
  wrote h s b =
      let z = sym ((laws ts ns ds).number (length out)) ∙ h in
      let p = passed ts ns ds (length out) z in
      let l = lists_of ts ns ds (lists-passed ts ns ds p.lists).count in
      let r = tree_of (children ts ns ds) (subst (Each Bytes) (sym l.2) b) p.faultless in
      let t = r.0 in
      let w : WellFormed (bind t) deepest = (subst WellBundle (sym r.1) (lists-writable ts ns ds s p.lists).well, r.2) in
      let e : written ts ns ds ≡ child_list (cleaned_children t) =
      (λ i. written (sym l.0 i) (sym l.1 i) (sym l.2 i))
      ∙ ap (λ (k : List Child). written (types_of k) (names_of k) (contents_of k)) (sym r.1)
      ∙ tree-written t w in
      let bytes : bytes_of ts ns ds out ≡ bind_bytes ts ns ds = (laws ts ns ds).front out h in
      record {
        count = ap written_count (answer-wrote (given_fault ts ns ds) (bind_bytes ts ns ds) (length out) z) ∙ length-cleaned (children ts ns ds);
        bytes = bytes;
        beyond = (laws ts ns ds).beyond out;
        accepted = ap (bind_fault deepest) (bytes ∙ ap encode_children e) ∙ clean-accepted t w;
        clean = ap (λ (k : List ℕ). (bind_checked deepest k).clean) (bytes ∙ ap encode_children e) ∙ clean-marked t w;
        only = λ xs v q. bundle-unique xs (child_list (cleaned_children t)) v (clean-bundle t w) (q ∙ bytes ∙ ap encode_children e) ∙ sym e;
      }

-- ---- every BIND

plain-well : (c : Child) → WellChild c → WellChild (plain c)
plain-well c w =
    record {
      type_fills = zero-fills 12 c.type_text w.type_fills.text (omega (arith, w.type_fills.width));
      name_text = w.name_text;
      size_fits = w.size_fits;
    }

plain-each : (cs : List Child) → Each WellChild cs → Each WellChild (map plain cs)
plain-each [] w = tt
plain-each (c ∷ cs) w = (plain-well c w.0, plain-each cs w.1)

plain-names : (cs : List Child) → flat child_name (map plain cs) ≡ flat child_name cs
unfolding flat child_name
plain-names [] = refl
plain-names (c ∷ cs) = ap (λ (l : List ℕ). child_name c ++ l) (plain-names cs)

plain-datas : (cs : List Child) → flat child_data (map plain cs) ≡ flat child_data cs
unfolding flat child_data
plain-datas [] = refl
plain-datas (c ∷ cs) = ap (λ (l : List ℕ). child_data c ++ l) (plain-datas cs)

plain-faults : (cs : List Child) → first_fault child_fault (map plain cs) ≡ first_fault child_fault cs
plain-faults [] = refl
plain-faults (c ∷ cs) = ap (or_else (child_fault c)) (plain-faults cs)

plain-bundle : (cs : List Child) → WellBundle cs → WellBundle (map plain cs)
unfolding name_table
plain-bundle cs w =
    record {
      count_fits = subst (λ (n : ℕ). n < 256 ^ 2) (sym (length-map cs plain)) w.count_fits;
      table_fits = subst (λ (l : List ℕ). length (padded l) < 256 ^ 2) (sym (plain-names cs)) w.table_fits;
      each = plain-each cs w.each;
    }

plain-length : (cs : List Child) → length (encode_children (map plain cs)) ≡ length (encode_children cs)
unfolding name_table
plain-length cs =
    omega (
      arith,
      length-encode (map plain cs),
      length-encode cs,
      length-map cs plain,
      ap (λ (l : List ℕ). length (padded l)) (plain-names cs),
      ap length (plain-datas cs),
    )

-- the lists of children that can be written
own-lists : (cs : List Child) → WellBundle cs → Writable (types_of cs) (names_of cs) (contents_of cs)
own-lists cs w =
    record {
      count =
          record {
            names = length-map cs (λ c. c.name) ∙ sym (length-map cs (λ c. c.type_text));
            contents = length-map cs (λ c. c.content) ∙ sym (length-map cs (λ c. c.type_text));
          };
      well = subst WellBundle (sym (children-of cs)) (plain-bundle cs w);
    }

module _ (cs : Children) (out : List ℕ) (w : WellFormed (bind cs) deepest) (h : length (encode (bind cs)) ≤ length out) where
  abbrev ts : List (List ℕ)
  ts = types_of (child_list cs)

  abbrev ns : List (List ℕ)
  ns = names_of (child_list cs)

  abbrev ds : List (List ℕ)
  ds = contents_of (child_list cs)

  same_length : length (encode_children (children ts ns ds)) ≡ length (encode (bind cs))
  unfolding encode
  same_length = ap (λ (l : List Child). length (encode_children l)) (children-of (child_list cs)) ∙ plain-length (child_list cs)

  same_bytes : bind_bytes ts ns ds ≡ encode (cleaned (bind cs))
  unfolding encode cleaned
  same_bytes = ap encode_children (tree-written cs w)

  tree-faultless : given_fault ts ns ds ≡ 0
  unfolding WellFormed encode
  tree-faultless =
      past-lists ts ns ds (writable-pass ts ns ds (own-lists (child_list cs) w.0))
      ∙ ap (first_fault child_fault) (children-of (child_list cs))
      ∙ plain-faults (child_list cs)
      ∙ sym (bind-written nested_levels (child_list cs) w.0)
      ∙ content-well deepest (bind cs) w

  tree-wrote : (bind_written ts ns ds (length out) ≡ Wrote (length (encode (bind cs)))) × (bind_out ts ns ds out ≡ encode (cleaned (bind cs)) ++ drop (length (encode (bind cs))) out)
  tree-wrote =
      let n : length (bind_bytes ts ns ds) ≡ length (encode (bind cs)) = length-cleaned (children ts ns ds) ∙ same_length in (
        (laws ts ns ds).wrote (length out) tree-faultless (omega (arith, h, n)) ∙ ap Wrote n,
        (laws ts ns ds).buffer out tree-faultless (omega (arith, h, n)) ∙ ap₂ (λ (x : List ℕ) (k : ℕ). x ++ drop k out) same_bytes n,
      )

pub bind-writer-theorems : BindWriterTheorems
bind-writer-theorems =
    record {
      passed = lists-writable;
      passes = writable-pass;
      refused = number-refused;
      as_reader = number-reader;
      promised = λ ts ns ds out left answer p. (p.written, p.buffer);
      untouched = λ ts ns ds out. (laws ts ns ds).untouched out;
      read_back = λ ts ns ds out s b h. wrote ts ns ds out h s b;
      writes = tree-wrote;
    }
