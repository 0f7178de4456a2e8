-- Children as three lists, and the loops over them.
use Prim.Native.Nat.{ℕ, zero, suc, ◌+◌, ◌-◌, ◌*◌, ◌%◌, ◌<◌}
use mathlib.Core.Path.{◌≡◌, refl, sym, ap, ap₂, ◌∙◌}
use mathlib.Core.Bool.{Bool, true, false, ◌&&◌}
use mathlib.Core.List.{List, [], ◌∷◌, ◌++◌, map}
use native.Mathlib.Omega.{arith}
use denote.Ref.{Bor}
use lib.ListN.{length, get_or, take, drop, replicate, length-append}
use lib.Seq.{sets, length-take-le}
use Rattle.fields.specs.Numbers.{be_bytes}
use Rattle.fields.specs.Text.{is_text, text_bytes}
use Rattle.fields.specs.Lists.{flat, all_of}
use Rattle.fields.proofs.Laws.Lists.{all-step, all-stop, length-flat}
use Rattle.fields.proofs.Laws.Numbers.{length-be_bytes}
use Rattle.fields.proofs.Laws.Text.{length-text_bytes}
use Rattle.fields.proofs.Laws.Stores.{sets-flat-next}
use Rattle.bind_layout.specs.Children.{Child, padded}
use Rattle.bind_layout.proofs.Laws.Children.{length-padded}
use Rattle.cleaning.proofs.Laws.Lengths.{length-clean}
use Rattle.content.specs.ContentTheorems.{first_fault}
use Rattle.content.proofs.Laws.Faults.{no_child, first-stop, first_next}
use Rattle.bind_writer.specs.ChildLists.{children, types_of, names_of, contents_of, SameCount}
use Rattle.bind_writer.specs.BindWriter.{type_ok, texts_ok, child_fault, clean_content, plain_header, clean_data}
use Rattle.bind_writer.proofs.Laws.Slices.{none, length-given, given-at}

-- ---- the lists of the children that three lists give, and the children of their own lists

pub lists_of : (ts ns ds : List (List ℕ)) → SameCount ts ns ds
    → (types_of (children ts ns ds) ≡ ts) × (names_of (children ts ns ds) ≡ ns) × (contents_of (children ts ns ds) ≡ ds)
unfolding children
lists_of [] [] [] h = (refl, refl, refl)
lists_of [] (n ∷ ns) ds h = absurd (omega (arith, h.names))
lists_of [] [] (d ∷ ds) h = absurd (omega (arith, h.contents))
lists_of (t ∷ ts) [] ds h = absurd (omega (arith, h.names))
lists_of (t ∷ ts) (n ∷ ns) [] h = absurd (omega (arith, h.contents))
lists_of (t ∷ ts) (n ∷ ns) (d ∷ ds) h =
    let r = lists_of ts ns ds (record { names = omega (arith, h.names); contents = omega (arith, h.contents) }) in (
      ap {B = List (List ℕ)} (λ l. t ∷ l) r.0,
      ap {B = List (List ℕ)} (λ l. n ∷ l) r.1,
      ap {B = List (List ℕ)} (λ l. d ∷ l) r.2,
    )

-- a child with zeros after its type
abbrev pub plain : Child → Child
plain c = record { type_text = c.type_text; rest = replicate (12 - length c.type_text) 0; name = c.name; content = c.content }

pub children-of : (cs : List Child) → children (types_of cs) (names_of cs) (contents_of cs) ≡ map plain cs
unfolding children
children-of [] = refl
children-of (c ∷ cs) = ap {B = List Child} (λ l. plain c ∷ l) (children-of cs)

-- ---- lengths of what is written

pub length-plain : (cs : List Child) → length (flat plain_header cs) ≡ 20 * length cs
length-plain cs =
    length-flat plain_header 20
    (λ c.
    length-append (text_bytes 12 c.type_text) (be_bytes 8 (length c.content))
    ∙ ap₂ (λ (m n : ℕ). m + n) (length-text_bytes 12 c.type_text) (length-be_bytes 8 (length c.content)))
    cs

pub length-content : (t d : List ℕ) → length (clean_content t d) ≡ length d
length-content t d = length-clean _ t d

length-data : (c : Child) → length (clean_data c) ≡ length (padded c.content)
length-data c =
    length-padded (clean_content c.type_text c.content)
    ∙ ap (λ (n : ℕ). n + n % 2) (length-content c.type_text c.content)
    ∙ sym (length-padded c.content)

pub length-datas : (i : ℕ) (cs : List Child) → length (flat clean_data (take i cs)) ≡ length (flat padded (take i (contents_of cs)))
unfolding flat
length-datas zero cs = refl
length-datas (suc i) [] = refl
length-datas (suc i) (c ∷ cs) =
    length-append (clean_data c) (flat clean_data (take i cs))
    ∙ ap₂ (λ (m n : ℕ). m + n) (length-data c) (length-datas i cs)
    ∙ sym (length-append (padded c.content) (flat padded (take i (contents_of cs))))

-- ---- a loop over the children by two of their lists

module _ (ts : List (Bor (List ℕ))) (i : ℕ) (h : i < length ts) (cs : List Child) (p : types_of cs ≡ map (λ x. x.now) ts) where
  below : i < length cs
  below = omega (arith, length-given (λ c. c.type_text) cs ts p)

  type_at : (get_or cs i no_child).type_text ≡ (get_or ts i none).now
  type_at = given-at (λ c. c.type_text) cs ts p i no_child refl

  -- by types and names
  module _ (ns : List (Bor (List ℕ))) (q : names_of cs ≡ map (λ x. x.now) ns) where
    name-at : (get_or cs i no_child).name ≡ (get_or ns i none).now
    name-at = given-at (λ c. c.name) cs ns q i no_child refl

    texts-at : texts_ok (get_or cs i no_child) ≡ (type_ok (get_or ts i none).now && is_text (get_or ns i none).now)
    texts-at = ap₂ (λ (x y : Bool). x && y) (ap type_ok type_at) (ap is_text name-at)

    pub texts-next : (type_ok (get_or ts i none).now && is_text (get_or ns i none).now) ≡ true → all_of texts_ok (drop i cs) ≡ all_of texts_ok (drop (i + 1) cs)
    texts-next a = all-step texts_ok cs i no_child below (texts-at ∙ a)

    pub texts-stop : (type_ok (get_or ts i none).now && is_text (get_or ns i none).now) ≡ false → all_of texts_ok (drop i cs) ≡ false
    texts-stop a = all-stop texts_ok cs i no_child below (texts-at ∙ a)

  -- by types and contents
  module _ (ds : List (Bor (List ℕ))) (q : contents_of cs ≡ map (λ x. x.now) ds) where
    content-at : (get_or cs i no_child).content ≡ (get_or ds i none).now
    content-at = given-at (λ c. c.content) cs ds q i no_child refl

    module _ (r : ℕ) (e : r ≡ child_fault (record { type_text = (get_or ts i none).now; rest = []; name = []; content = (get_or ds i none).now })) where
      fault-at : child_fault (get_or cs i no_child) ≡ r
      fault-at = ap₂ (λ (t d : List ℕ). child_fault (record { type_text = t; rest = []; name = []; content = d })) type_at content-at ∙ sym e

      pub faults-stop : (r ≡ 0 → ⊥) → first_fault child_fault (drop i cs) ≡ r
      faults-stop n = first-stop child_fault cs i below (λ z. n (sym fault-at ∙ z)) ∙ fault-at

      pub faults-next : r ≡ 0 → first_fault child_fault (drop i cs) ≡ first_fault child_fault (drop (i + 1) cs)
      faults-next z = first_next child_fault cs i below (fault-at ∙ z)

    pub headers-next : (out : List ℕ)
        → sets (sets out 2 (flat plain_header (take i cs))) (2 + 20 * i) (text_bytes 12 (get_or ts i none).now ++ be_bytes 8 (length (get_or ds i none).now))
        ≡ sets out 2 (flat plain_header (take (i + 1) cs))
    headers-next out =
        let k : 2 + 20 * i ≡ 2 + length (flat plain_header (take i cs)) = omega (arith, length-plain (take i cs), length-take-le i cs (omega (arith, below))) in
        ap₂ (λ (n : ℕ) (x : List ℕ). sets (sets out 2 (flat plain_header (take i cs))) n x) k
        (ap₂ (λ (t d : List ℕ). text_bytes 12 t ++ be_bytes 8 (length d)) (sym type_at) (sym content-at))
        ∙ sets-flat-next plain_header out 2 cs i no_child below

    -- one content more
    pub datas-next : (out : List ℕ) (at : ℕ)
        → sets (sets out at (flat clean_data (take i cs))) (at + length (flat padded (take i (map (λ x. x.now) ds)))) (padded (clean_content (get_or ts i none).now (get_or ds i none).now))
        ≡ sets out at (flat clean_data (take (i + 1) cs))
    datas-next out at =
        let k : length (flat padded (take i (map (λ x. x.now) ds))) ≡ length (flat clean_data (take i cs)) =
        ap (λ (l : List (List ℕ)). length (flat padded (take i l))) (sym q) ∙ sym (length-datas i cs) in
        ap₂ (λ (n : ℕ) (x : List ℕ). sets (sets out at (flat clean_data (take i cs))) (at + n) x) k
        (ap₂ (λ (t d : List ℕ). padded (clean_content t d)) (sym type_at) (sym content-at))
        ∙ sets-flat-next clean_data out at cs i no_child below
