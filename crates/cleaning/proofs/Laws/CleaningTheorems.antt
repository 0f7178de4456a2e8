-- The cleaned bytes of a well formed content are those of the content with its rests zeroed.
use Prim.Native.Nat.{ℕ, zero, suc, ◌+◌, ◌%◌, ◌≤◌}
use mathlib.Core.Path.{◌≡◌, refl, sym, ap, ap₂, ◌∙◌}
use mathlib.Core.Bool.{Bool, false, cond}
use mathlib.Core.List.{List, [], ◌∷◌, ◌++◌, map, append_assoc}
use native.Mathlib.Omega.{arith}
use lib.ListN.{length, take, drop, replicate}
use lib.Seq.{sets-eq}
use borrow.Author.Tests.{eq-eqb}
use Rattle.fields.specs.Bytes.{part, same}
use Rattle.fields.specs.Lists.{Each, flat}
use Rattle.fields.specs.Numbers.{be_bytes}
use Rattle.fields.specs.Text.{text_bytes}
use Rattle.fields.specs.Received.{field_bytes, zeroed}
use Rattle.fields.proofs.Laws.Bytes.{same-eq}
use Rattle.fields.proofs.Laws.Lists.{flat-cons}
use Rattle.fields.proofs.Laws.Tests.{is_false}
use Rattle.fields.proofs.Laws.Received.{field_bytes-fills, received-fields, zeroed-fills}
use Rattle.bind_layout.specs.Children.{Child, padded, child_header, child_name, child_data, name_table, encode_children, WellChild, WellBundle}
use Rattle.bind_layout.specs.BindLayout.{child_count, headers, after_headers, table_size, data_of, type_of, size_of, after_block, layout_fault}
use Rattle.bind_layout.proofs.Laws.Children.{header-type, header-size, header-bytes, header-rest, block-data, block-pad, block-rest}
use Rattle.bind_layout.proofs.Laws.Written.{encode-front, count-bytes, headers-written, count-written, table-bytes, data-of-written, layout-written}
use Rattle.content.specs.Kinds.{bind_text}
use Rattle.content.specs.Tree.{Content, Children, transform, position, image, bind, other, none, more, type_text, encode, child_list, WellFormed, WellChildren, cleaned, cleaned_children}
use Rattle.content.proofs.Laws.Cleaned.{cleaned-type}
use Rattle.cleaning.specs.CleanBytes.{clean_headers, clean_front, clean_as, clean_blocks, clean_bind, clean_bytes, bounded_levels}
use Rattle.cleaning.specs.CleaningTheorems.{CleaningTheorems}
use Rattle.cleaning.proofs.Laws.Lengths.{Keeps, length-as, length-bind, length-clean}
use Rattle.cleaning.proofs.Laws.CleaningWalk.{put-fits, put-short}

-- ---- a list of children, their contents cleaned by f

abbrev clean_child : (List ℕ → List ℕ) → Child → Child
clean_child f c = record { type_text = c.type_text; rest = zeroed c.rest; name = c.name; content = clean_as f c.type_text c.content }

-- the field of a type with its rest zeroed is the text in a field of zeros
clean-type : (c : Child) → WellChild c → text_bytes 12 c.type_text ≡ field_bytes 12 c.type_text (zeroed c.rest)
clean-type c w =
    sym
    (field_bytes-fills 12 c.type_text (zeroed c.rest) (zeroed-fills 12 c.type_text c.rest w.type_fills)
    ∙ received-fields.cleaned 12 c.type_text c.rest w.type_fills)

headers-cleaned : (f : List ℕ → List ℕ) → Keeps f → (cs : List Child) → Each WellChild cs → (r : List ℕ)
    → clean_headers (length cs) (flat child_header cs ++ r) ≡ flat child_header (map (clean_child f) cs)
unfolding clean_headers flat child_header
headers-cleaned f k [] w r = refl
headers-cleaned f k (c ∷ cs) w r =
    let l = flat child_header cs ++ r in
    let e = flat-cons child_header c cs r in
    let n : length (clean_as f c.type_text c.content) ≡ length c.content = length-as f k c.type_text c.content in
    ap (λ (h : List ℕ). text_bytes 12 (type_of h) ++ (part 8 12 h ++ clean_headers (length cs) (drop 20 h))) e
    ∙ ap₂ (λ (x y : List ℕ). text_bytes 12 x ++ (y ++ clean_headers (length cs) (drop 20 (child_header c ++ l)))) (header-type c l w.0) (header-bytes c l)
    ∙ ap₂ (λ (x y : List ℕ). x ++ (be_bytes 8 (length c.content) ++ clean_headers (length cs) y)) (clean-type c w.0) (header-rest c l)
    ∙ ap₂ (λ (m : ℕ) (x : List ℕ). field_bytes 12 c.type_text (zeroed c.rest) ++ (be_bytes 8 m ++ x)) (sym n) (headers-cleaned f k cs w.1 r)
    ∙ sym (append_assoc (field_bytes 12 c.type_text (zeroed c.rest)) (be_bytes 8 (length (clean_as f c.type_text c.content))) (flat child_header (map (clean_child f) cs)))

datas-cleaned : (f : List ℕ → List ℕ) → Keeps f → (cs : List Child) → Each WellChild cs → (r : List ℕ)
    → clean_blocks f (length cs) (flat child_header cs ++ r) (flat child_data cs) ≡ flat child_data (map (clean_child f) cs)
unfolding clean_blocks flat child_data padded
datas-cleaned f k [] w r = refl
datas-cleaned f k (c ∷ cs) w r =
    let l = flat child_header cs ++ r in
    let x = c.content in
    let d = flat child_data cs in
    let y = clean_as f c.type_text x in
    let g : List ℕ → List ℕ → ℕ → List ℕ → List ℕ =
    λ t v n h. clean_as f t (take n v) ++ (part (n % 2) n v ++ clean_blocks f (length cs) h (after_block n v)) in
    ap (λ (h : List ℕ). g (type_of h) (padded x ++ d) (size_of h) (drop 20 h)) (flat-cons child_header c cs r)
    ∙ ap₂ (λ (t : List ℕ) (n : ℕ). g t (padded x ++ d) n (drop 20 (child_header c ++ l))) (header-type c l w.0) (header-size c l w.0)
    ∙ ap (g c.type_text (padded x ++ d) (length x)) (header-rest c l)
    ∙ ap₂ (λ (u v : List ℕ). clean_as f c.type_text u ++ (v ++ clean_blocks f (length cs) l (after_block (length x) (padded x ++ d)))) (block-data x d) (block-pad x d)
    ∙ ap (λ (u : List ℕ). y ++ (replicate (length x % 2) 0 ++ clean_blocks f (length cs) l u)) (block-rest x d)
    ∙ ap₂ (λ (m : ℕ) (u : List ℕ). y ++ (replicate (m % 2) 0 ++ u)) (sym (length-as f k c.type_text x)) (datas-cleaned f k cs w.1 r)
    ∙ sym (append_assoc y (replicate (length y % 2) 0) (flat child_data (map (clean_child f) cs)))

names-cleaned : (f : List ℕ → List ℕ) (cs : List Child) → flat child_name (map (clean_child f) cs) ≡ flat child_name cs
unfolding flat child_name
names-cleaned f [] = refl
names-cleaned f (c ∷ cs) = ap (λ (l : List ℕ). child_name c ++ l) (names-cleaned f cs)

count-cleaned : (f : List ℕ → List ℕ) (cs : List Child) → length (map (clean_child f) cs) ≡ length cs
count-cleaned f [] = refl
count-cleaned f (c ∷ cs) = ap suc (count-cleaned f cs)

-- a written BIND is cleaned into its children, cleaned
bind-cleaned : (levels : ℕ) (cs : List Child) → WellBundle cs → clean_bind (suc levels) (encode_children cs) ≡ encode_children (map (clean_child (clean_bind levels)) cs)
unfolding clean_bind clean_front name_table
bind-cleaned levels cs w =
    let s = encode_children cs in
    let f = clean_bind levels in
    let k = length-bind levels in
    let ds = map (clean_child f) cs in
    let t = name_table cs in
    let front = take 2 s ++ (clean_headers (child_count s) (headers s) ++ take (2 + table_size s) (after_headers s)) in
    let h = flat child_header ds in
    let b = be_bytes 2 (length t) in
    ap (λ (x : Bool). cond x (front ++ clean_blocks f (child_count s) (headers s) (data_of s)) s) (eq-eqb (layout_fault s) 0 (layout-written cs w))
    ∙ ap₂ (λ (n : ℕ) (x : List ℕ). (take 2 s ++ (clean_headers n (headers s) ++ take (2 + table_size s) (after_headers s))) ++ clean_blocks f n (headers s) x) (count-written cs w) (data-of-written cs w)
    ∙ ap (λ (x : List ℕ). (take 2 s ++ (clean_headers (length cs) x ++ take (2 + table_size s) (after_headers s))) ++ clean_blocks f (length cs) x (flat child_data cs)) (headers-written cs)
    ∙ ap₂ (λ (x y : List ℕ). (take 2 s ++ (x ++ take (2 + table_size s) (after_headers s))) ++ y) (headers-cleaned f k cs w.each _) (datas-cleaned f k cs w.each _)
    ∙ ap₂ (λ (x y : List ℕ). (x ++ (h ++ y)) ++ flat child_data ds) (count-bytes cs) (table-bytes cs w)
    ∙ append_assoc (be_bytes 2 (length cs)) (h ++ (b ++ t)) (flat child_data ds)
    ∙ ap (λ (x : List ℕ). be_bytes 2 (length cs) ++ x) (append_assoc h (b ++ t) (flat child_data ds) ∙ ap (λ (x : List ℕ). h ++ x) (append_assoc b t (flat child_data ds)))
    ∙ ap₂ (λ (n : ℕ) (x : List ℕ). be_bytes 2 n ++ (h ++ (be_bytes 2 (length x) ++ (x ++ flat child_data ds)))) (sym (count-cleaned f cs)) (sym (ap padded (names-cleaned f cs)))
    ∙ sym (encode-front ds)

-- ---- contents

opaque-differs : (t : List ℕ) → (t ≡ bind_text → ⊥) → same t bind_text ≡ false
opaque-differs t n = is_false (same t bind_text) (λ e. n (same-eq t bind_text e))

mutual
  unfolding WellFormed encode cleaned same

  pub content-cleaned : (levels : ℕ) (x : Content) → WellFormed x levels → clean_as (clean_bind levels) (type_text x) (encode x) ≡ encode (cleaned x)
  content-cleaned levels (transform ws) w = refl
  content-cleaned levels (position ws) w = refl
  content-cleaned levels (image x) w = refl
  content-cleaned zero (bind cs) w = absurd w
  content-cleaned (suc levels) (bind cs) w =
      bind-cleaned levels (child_list cs) w.0 ∙ ap encode_children (children-cleaned levels cs w.1)
  content-cleaned levels (other t s) w = ap (λ (b : Bool). cond b (clean_bind levels s) s) (opaque-differs t w.0.no-bind)

  children-cleaned : (levels : ℕ) (cs : Children) → WellChildren cs levels → map (clean_child (clean_bind levels)) (child_list cs) ≡ child_list (cleaned_children cs)
  children-cleaned levels none w = refl
  children-cleaned levels (more rest name x cs) w =
      λ i.
      record {
        type_text = sym (cleaned-type x) i;
        rest = zeroed rest;
        name = name;
        content = content-cleaned levels x w.0 i;
      }
      ∷ children-cleaned levels cs w.1 i

pub cleaning-theorems : CleaningTheorems
unfolding clean_bytes
cleaning-theorems =
    record {
      cleaned_bytes = content-cleaned;
      others = λ levels t s n. ap (λ (b : Bool). cond b (clean_bind levels s) s) (opaque-differs t n);
      length_kept = length-clean;
      written = λ levels t s at out h.
          let k = bounded_levels levels in
          let n = length-clean k t s in
          let x = clean_bytes k t s in
          let g : at + length x ≤ length out = omega (arith, n) in
          put-fits levels t s at out h
          ∙ sets-eq x out at g
          ∙ append_assoc (take at out) x (drop (at + length x) out)
          ∙ ap (λ (m : ℕ). take at out ++ (x ++ drop (at + m) out)) n;
      untouched = put-short;
    }
