-- A body passes check 6 exactly when some sections are written as it; it is read as those sections.
use Prim.Native.Nat.{ℕ, ◌+◌, ◌-◌, ◌≤◌}
use mathlib.Core.Path.{◌≡◌, refl, sym, ap, ap₂, ◌∙◌, subst}
use mathlib.Core.Logic.{inl, inr, ⊎_elim}
use mathlib.Core.Bool.{Bool, true, false, cond}
use mathlib.Core.List.{List, [], ◌∷◌, append-nil}
use native.Mathlib.Omega.{arith}
use lib.Dec.{eqb, leb}
use lib.ListN.{length}
use lib.Seq.{take_all, sets}
use borrow.Author.Tests.{eqb-true, eqb-false, leb-true, le-leb, eq-eqb, ne_eqb}
use Rattle.fields.specs.Bytes.{Bytes, part}
use Rattle.fields.specs.Numbers.{be_val, be_bytes}
use Rattle.fields.specs.Layout.{join, cut, total, Widths, stores}
use Rattle.fields.proofs.Laws.Bytes.{length_part, bytes-part}
use Rattle.fields.proofs.Laws.Numbers.{be_val-be_bytes, length-be_bytes, be_bytes-be_at, be_at-lt}
use Rattle.fields.proofs.Laws.Layout.{join-cut, cut-join, length-join}
use Rattle.fields.proofs.Laws.Stores.{stores-join}
use Rattle.fields.proofs.Laws.Checks.{and_split, and-join, cond-pass}
use Rattle.fields.proofs.Laws.Tests.{is_false, by-test}
use Rattle.metadata.specs.MetadataCheck.{index_size_in}
use Rattle.message.specs.declared.Layout.{Layout}
use Rattle.message.specs.declared.extended.ExtendedNumbers.{ExtendedNumbers}
use Rattle.message.specs.declared.body.Places.{Places}
use Rattle.message.specs.Body.{Sections, extended_numbers, extended_fields, encode_body, Plain, MetadataFits, Extended, WellSections}
use Rattle.message.specs.MessageReader.{extended_size, index_at, section_size, id_at, reserved_ok, index_size_fault, extended_ok, extended_fault, sizes_fault, extended_places, plain_places, places_of, sections_at, sections_of}
use Rattle.message.specs.BodyTheorems.{IsVersion, BreaksExtended, Agrees, BodyTheorems}
use Rattle.message.proofs.Laws.Layout.{NumbersAt, numbers_fit, ReadAs, numbers_read, numbers-back, id-lt, section-fits, reserved-set, index-agreed, index-disagreed, index-seven, index-passed, agrees-1, extended-same, numbers-same}

-- ---- the version

not-two : (v : ℕ) → v ≡ 1 → v ≡ 2 → ⊥
not-two v e f = omega arith

pub body-1 : (l : Layout) (v k : ℕ) (x : Sections) → (v ≡ 2 → ⊥) → encode_body l v k x ≡ x.content
unfolding encode_body
body-1 l v k x h = ap (λ (t : Bool). cond t (join (extended_fields l k x)) x.content) (ne_eqb v 2 h)

pub body-2 : (l : Layout) (v k : ℕ) (x : Sections) → v ≡ 2 → encode_body l v k x ≡ join (extended_fields l k x)
unfolding encode_body
body-2 l v k x h = ap (λ (t : Bool). cond t (join (extended_fields l k x)) x.content) (eq-eqb v 2 h)

module _ (l : Layout) (v : ℕ) (b : List ℕ) where
  pub places-1 : (v ≡ 2 → ⊥) → places_of l v b ≡ plain_places b
  unfolding places_of
  places-1 h = ap (λ (t : Bool). cond t (extended_places l b) (plain_places b)) (ne_eqb v 2 h)

  pub places-2 : v ≡ 2 → places_of l v b ≡ extended_places l b
  unfolding places_of
  places-2 h = ap (λ (t : Bool). cond t (extended_places l b) (plain_places b)) (eq-eqb v 2 h)

  pub fault-1 : (v ≡ 2 → ⊥) → extended_fault l v b ≡ 0
  unfolding extended_fault
  fault-1 h = ap (λ (t : Bool). cond t (cond (extended_ok l b) 0 6) 0) (ne_eqb v 2 h)

  pub fault-2 : v ≡ 2 → extended_fault l v b ≡ cond (extended_ok l b) 0 6
  unfolding extended_fault
  fault-2 h = ap (λ (t : Bool). cond t (cond (extended_ok l b) 0 6) 0) (eq-eqb v 2 h)

  pub sizes-1 : (s : List ℕ) → (v ≡ 2 → ⊥) → sizes_fault l v b s ≡ 0
  unfolding sizes_fault
  sizes-1 s h = ap (λ (t : Bool). cond t (index_size_fault l b s) 0) (ne_eqb v 2 h)

  pub sizes-2 : (s : List ℕ) → v ≡ 2 → sizes_fault l v b s ≡ index_size_fault l b s
  unfolding sizes_fault
  sizes-2 s h = ap (λ (t : Bool). cond t (index_size_fault l b s) 0) (eq-eqb v 2 h)

-- ---- check 6

pub record Passed (l : Layout) (b : List ℕ) : Type 0 where
  pub long : 12 ≤ length b
  pub size : 12 ≤ extended_size b
  pub reserved : reserved_ok l b ≡ true
  pub fits : extended_size b + section_size l b ≤ length b

pub passed : (l : Layout) (b : List ℕ) → extended_ok l b ≡ true → Passed l b
unfolding extended_ok
passed l b h =
    let p = and_split (leb 12 (length b)) _ h in
    let q = and_split (leb 12 (extended_size b)) _ p.1 in
    let r = and_split (reserved_ok l b) _ q.1 in
    record { long = leb-true _ _ p.0; size = leb-true _ _ q.0; reserved = r.0; fits = leb-true _ _ r.1 }

pass : (l : Layout) (b : List ℕ) → Passed l b → extended_ok l b ≡ true
unfolding extended_ok
pass l b p =
    and-join (leb 12 (length b)) _ (le-leb 12 (length b) p.long)
    (and-join (leb 12 (extended_size b)) _ (le-leb 12 (extended_size b) p.size)
    (and-join (reserved_ok l b) _ p.reserved (le-leb (extended_size b + section_size l b) (length b) p.fits)))

pub passed-2 : (l : Layout) (v : ℕ) (b : List ℕ) → v ≡ 2 → extended_fault l v b ≡ 0 → Passed l b
passed-2 l v b e h = passed l b (cond-pass (extended_ok l b) 5 0 (sym (fault-2 l v b e) ∙ h)).0

-- ---- V 1

part-all : (b : List ℕ) → part (length b) 0 b ≡ b
part-all b = take_all (length b) b (omega arith)

plain-read : (b : List ℕ) → sections_at (plain_places b) b ≡ record { id = 0; further = []; content = b; metadata = [] }
plain-read b = λ i. record { id = 0; further = []; content = part-all b i; metadata = [] }

-- ---- V 2: the sections read, written again

extended-accepted : (l : Layout) (b : List ℕ) → Bytes b → Passed l b → Extended l (index_at b) (sections_at (extended_places l b) b)
extended-accepted l b h p =
    let m : ℕ = section_size l b in
    let lm : length (part m (length b - m) b) ≡ m = length_part m (length b - m) b (omega (arith, p.fits)) in
    record {
      id_fits = id-lt l b h;
      further_bytes = bytes-part (extended_size b - 12) 12 b h;
      further_fits = omega (arith, length_part (extended_size b - 12) 12 b (omega (arith, p.size, p.fits)), p.size, be_at-lt 2 0 b h);
      metadata_fits = subst (MetadataFits l (index_at b)) (sym lm) (section-fits l b h);
    }

abbrev pub widths : ℕ → ℕ → ℕ → List ℕ
widths e c m = 2 ∷ 2 ∷ 4 ∷ 4 ∷ e ∷ c ∷ m ∷ []

-- m is the metadata's bytes, j its length
module _ (l : Layout) (b : List ℕ) (h : Bytes b) (p : Passed l b) (j : ℕ) (lm : j ≡ section_size l b) where
  abbrev read_numbers : ExtendedNumbers
  read_numbers = extended_numbers l (index_at b) j (id_at l b)

  numbers-stand : NumbersAt b read_numbers
  numbers-stand =
      subst (λ (n : ℕ). NumbersAt b (extended_numbers l (index_at b) n (id_at l b))) (sym lm) (numbers-back l b p.reserved)

  field-2 : be_bytes 2 read_numbers.second ≡ part 2 2 b
  field-2 = ap (be_bytes 2) (sym numbers-stand.second) ∙ be_bytes-be_at 2 2 b h (omega (arith, p.long))

  field-4 : be_bytes 4 read_numbers.third ≡ part 4 4 b
  field-4 = ap (be_bytes 4) (sym numbers-stand.third) ∙ be_bytes-be_at 4 4 b h (omega (arith, p.long))

  field-8 : be_bytes 4 read_numbers.fourth ≡ part 4 8 b
  field-8 = ap (be_bytes 4) (sym numbers-stand.fourth) ∙ be_bytes-be_at 4 8 b h (omega (arith, p.long))

extended-back : (l : Layout) (b : List ℕ) → Bytes b → Passed l b → join (extended_fields l (index_at b) (sections_at (extended_places l b) b)) ≡ b
extended-back l b h p =
    let e : ℕ = extended_size b - 12 in
    let c : ℕ = length b - (extended_size b + section_size l b) in
    let m : ℕ = section_size l b in
    let le : length (part e 12 b) ≡ extended_size b - 12 = length_part e 12 b (omega (arith, p.size, p.fits)) in
    let lm : length (part m (length b - m) b) ≡ m = length_part m (length b - m) b (omega (arith, p.fits)) in
    let n0 : 12 + length (part e 12 b) ≡ extended_size b = omega (arith, le, p.size) in
    let f0 : be_bytes 2 (12 + length (part e 12 b)) ≡ part 2 0 b = ap (be_bytes 2) n0 ∙ be_bytes-be_at 2 0 b h (omega (arith, p.long)) in
    let f1 = field-2 l b h p (length (part m (length b - m) b)) lm in
    let f2 = field-4 l b h p (length (part m (length b - m) b)) lm in
    let f3 = field-8 l b h p (length (part m (length b - m) b)) lm in
    let n5 : extended_size b ≡ 12 + e = omega (arith, p.size) in
    let n6 : length b - m ≡ 12 + e + c = omega (arith, p.size, p.fits) in
    let f5 : part c (extended_size b) b ≡ part c (12 + e) b = ap (λ (k : ℕ). part c k b) n5 in
    let f6 : part m (length b - m) b ≡ part m (12 + e + c) b = ap (λ (k : ℕ). part m k b) n6 in
    let all : extended_fields l (index_at b) (sections_at (extended_places l b) b) ≡ cut 0 (widths e c m) b =
    λ i. f0 i ∷ f1 i ∷ f2 i ∷ f3 i ∷ part e 12 b ∷ f5 i ∷ f6 i ∷ [] in
    ap join all ∙ join-cut 0 (widths e c m) b ∙ take_all (total (widths e c m)) b (omega (arith, p.size, p.fits))

-- ---- the sections written, read again

module _ (l : Layout) (k : ℕ) (x : Sections) where
  abbrev numbers : ExtendedNumbers
  numbers = extended_numbers l k (length x.metadata) x.id

  abbrev sizes : List ℕ
  sizes = widths (length x.further) (length x.content) (length x.metadata)

  extended-widths : Widths (extended_fields l k x) sizes
  extended-widths = (
    length-be_bytes 2 (12 + length x.further),
    (length-be_bytes 2 numbers.second, (length-be_bytes 4 numbers.third, (length-be_bytes 4 numbers.fourth, (refl, (refl, (refl, tt)))))),
  )

  length-extended : length (join (extended_fields l k x)) ≡ 12 + length x.further + length x.content + length x.metadata
  length-extended = length-join (extended_fields l k x) sizes extended-widths ∙ omega arith

  -- a body stored at the front of a buffer
  pub extended-stored : (out : List ℕ) → stores out 0 (extended_fields l k x) sizes ≡ sets out 0 (join (extended_fields l k x))
  extended-stored out = stores-join out 0 (extended_fields l k x) sizes extended-widths

record Front (x : Sections) (e : ExtendedNumbers) (b : List ℕ) : Type 0 where
  f-size : part 2 0 b ≡ be_bytes 2 (12 + length x.further)
  f-second : part 2 2 b ≡ be_bytes 2 e.second
  f-third : part 4 4 b ≡ be_bytes 4 e.third
  f-fourth : part 4 8 b ≡ be_bytes 4 e.fourth
  s-further : part (length x.further) 12 b ≡ x.further
  s-content : part (length x.content) (12 + length x.further) b ≡ x.content
  s-metadata : part (length x.metadata) (12 + length x.further + length x.content) b ≡ x.metadata

front : (l : Layout) (k : ℕ) (x : Sections) → Front x (numbers l k x) (join (extended_fields l k x))
front l k x =
    let e : cut 0 (sizes l k x) (join (extended_fields l k x)) ≡ extended_fields l k x =
    ap (cut 0 (sizes l k x)) (sym (append-nil (join (extended_fields l k x))))
    ∙ cut-join [] (extended_fields l k x) (sizes l k x) [] 0 refl (extended-widths l k x) in
    record { f-size = cc; f-second = cc; f-third = cc; f-fourth = cc; s-further = cc; s-content = cc; s-metadata = cc }

record Read (l : Layout) (k : ℕ) (x : Sections) (b : List ℕ) : Type 0 where
  checks : Passed l b
  stand : NumbersAt b (numbers l k x)
  same : sections_at (extended_places l b) b ≡ x

from_front : (l : Layout) (k : ℕ) (x : Sections) (b : List ℕ) → Extended l k x → Front x (numbers l k x) b
    → length b ≡ 12 + length x.further + length x.content + length x.metadata → Read l k x b
from_front l k x b h p n =
    let f = numbers_fit l k (length x.metadata) x.id h.metadata_fits h.id_fits in
    let a : NumbersAt b (numbers l k x) =
    record {
      second = ap be_val p.f-second ∙ be_val-be_bytes 2 (numbers l k x).second f.second;
      third = ap be_val p.f-third ∙ be_val-be_bytes 4 (numbers l k x).third f.third;
      fourth = ap be_val p.f-fourth ∙ be_val-be_bytes 4 (numbers l k x).fourth f.fourth;
    } in
    let r : ReadAs l b (length x.metadata) x.id = numbers_read l b k (length x.metadata) x.id h.metadata_fits a in
    let m : section_size l b ≡ length x.metadata = r.size in
    let e : extended_size b ≡ 12 + length x.further = ap be_val p.f-size ∙ be_val-be_bytes 2 (12 + length x.further) h.further_fits in
    let n1 : extended_size b - 12 ≡ length x.further = omega (arith, e) in
    let n2 : length b - (extended_size b + section_size l b) ≡ length x.content = omega (arith, e, m) in
    let n3 : length b - section_size l b ≡ 12 + length x.further + length x.content = omega (arith, m) in
    let fu : part (extended_size b - 12) 12 b ≡ x.further = ap (λ (j : ℕ). part j 12 b) n1 ∙ p.s-further in
    let co : part (length b - (extended_size b + section_size l b)) (extended_size b) b ≡ x.content =
    ap₂ (λ (i j : ℕ). part i j b) n2 e ∙ p.s-content in
    let me : part (section_size l b) (length b - section_size l b) b ≡ x.metadata = ap₂ (λ (i j : ℕ). part i j b) m n3 ∙ p.s-metadata in
    record {
      checks = record { long = omega arith; size = omega arith; reserved = r.reserved; fits = omega arith };
      stand = a;
      same = λ j. record { id = r.id_same j; further = fu j; content = co j; metadata = me j };
    }

extended-read : (l : Layout) (k : ℕ) (x : Sections) → Extended l k x → Read l k x (join (extended_fields l k x))
extended-read l k x h = from_front l k x (join (extended_fields l k x)) h (front l k x) (length-extended l k x)

-- ---- both versions

sections-1 : (l : Layout) (v : ℕ) (b : List ℕ) → v ≡ 1 → sections_of l v b ≡ record { id = 0; further = []; content = b; metadata = [] }
sections-1 l v b e = ap (λ (p : Places). sections_at p b) (places-1 l v b (not-two v e)) ∙ plain-read b

sections-2 : (l : Layout) (v : ℕ) (b : List ℕ) → v ≡ 2 → sections_of l v b ≡ sections_at (extended_places l b) b
sections-2 l v b e = ap (λ (p : Places). sections_at p b) (places-2 l v b e)

module _ (l : Layout) (v : ℕ) (b : List ℕ) (h : Bytes b) (o : IsVersion v) (k : extended_fault l v b ≡ 0) where
  pub body-accepted : WellSections l v (index_at b) (sections_of l v b)
  body-accepted =
      ⊎_elim
      (λ e. inl (e, subst Plain (sym (sections-1 l v b e)) (record { no_id = refl; no_further = refl; no_metadata = refl })))
      (λ e. inr (e, subst (Extended l (index_at b)) (sym (sections-2 l v b e)) (extended-accepted l b h (passed-2 l v b e k))))
      o

  pub body_back : encode_body l v (index_at b) (sections_of l v b) ≡ b
  body_back =
      ⊎_elim
      (λ e. body-1 l v (index_at b) (sections_of l v b) (not-two v e) ∙ ap (λ (x : Sections). x.content) (sections-1 l v b e))
      (λ e.
      body-2 l v (index_at b) (sections_of l v b) e
      ∙ ap (λ (x : Sections). join (extended_fields l (index_at b) x)) (sections-2 l v b e)
      ∙ extended-back l b h (passed-2 l v b e k))
      o

plain-is : (x : Sections) → Plain x → record { id = 0; further = []; content = x.content; metadata = [] } ≡ x
plain-is x p = λ i. record { id = sym p.no_id i; further = sym p.no_further i; content = x.content; metadata = sym p.no_metadata i }

module _ (l : Layout) (v k : ℕ) (x : Sections) (w : WellSections l v k x) where
  pub body-well : extended_fault l v (encode_body l v k x) ≡ 0
  body-well =
      ⊎_elim (λ e. fault-1 l v (encode_body l v k x) (not-two v e.0))
      (λ e.
      fault-2 l v (encode_body l v k x) e.0
      ∙ ap (λ (b : List ℕ). cond (extended_ok l b) 0 6) (body-2 l v k x e.0)
      ∙ ap (λ (t : Bool). cond t 0 6) (pass l (join (extended_fields l k x)) (extended-read l k x e.1).checks))
      w

  pub body-read : sections_of l v (encode_body l v k x) ≡ x
  body-read =
      ⊎_elim
      (λ e.
      ap (sections_of l v) (body-1 l v k x (not-two v e.0)) ∙ sections-1 l v x.content e.0 ∙ plain-is x e.1)
      (λ e.
      ap (sections_of l v) (body-2 l v k x e.0) ∙ sections-2 l v (join (extended_fields l k x)) e.0 ∙ (extended-read l k x e.1).same)
      w

  written-numbers : v ≡ 2 → Extended l k x → NumbersAt (encode_body l v k x) (numbers l k x)
  written-numbers e h = subst (λ (b : List ℕ). NumbersAt b (numbers l k x)) (sym (body-2 l v k x e)) (extended-read l k x h).stand

  -- check 7 of the sizes
  pub body-agreed : (s : List ℕ) → Agrees l v k s → sizes_fault l v (encode_body l v k x) s ≡ 0
  body-agreed s a =
      let b : List ℕ = encode_body l v k x in
      ⊎_elim (λ e. sizes-1 l v b s (not-two v e.0))
      (λ e.
      sizes-2 l v b s e.0 ∙ index-agreed v k (length x.metadata) x.id b s l (written-numbers e.0 e.1) e.0 a)
      w

  pub body-disagreed : (s : List ℕ) → (Agrees l v k s → ⊥) → sizes_fault l v (encode_body l v k x) s ≡ 7
  body-disagreed s h =
      let b : List ℕ = encode_body l v k x in
      ⊎_elim (λ e. absurd (h (agrees-1 l v k s (not-two v e.0))))
      (λ e. sizes-2 l v b s e.0 ∙ index-disagreed v k (length x.metadata) x.id b s l (written-numbers e.0 e.1) h)
      w

-- it has no other number
pub sizes-seven : (l : Layout) (v : ℕ) (b s : List ℕ) → (sizes_fault l v b s ≡ 0 → ⊥) → sizes_fault l v b s ≡ 7
sizes-seven l v b s h =
    by-test (eqb v 2)
    (λ e. sizes-2 l v b s (eqb-true v 2 e) ∙ index-seven l b s (λ z. h (sizes-2 l v b s (eqb-true v 2 e) ∙ z)))
    (λ e. absurd (h (sizes-1 l v b s (eqb-false v 2 e))))

-- ---- sizes that agree with a section

pub sizes-passed : (l : Layout) (v : ℕ) (b s : List ℕ) → IsVersion v → sizes_fault l v b s ≡ 0 → Agrees l v (index_at b) s
sizes-passed l v b s o h =
    ⊎_elim (λ e. agrees-1 l v (index_at b) s (not-two v e)) (λ e. index-passed l v b s (sym (sizes-2 l v b s e) ∙ h)) o

module _ (l : Layout) (v k : ℕ) (x : Sections) (s : List ℕ) (a : Agrees l v k s) where
  pub well-same : WellSections l v k x → WellSections l v (index_size_in s) x
  well-same w = ⊎_elim (λ e. inl e) (λ e. inr (e.0, extended-same l v k s x e.0 a e.1)) w

  pub body_same : IsVersion v → encode_body l v k x ≡ encode_body l v (index_size_in s) x
  body_same o =
      ⊎_elim (λ e. body-1 l v k x (not-two v e) ∙ sym (body-1 l v (index_size_in s) x (not-two v e)))
      (λ e.
      body-2 l v k x e
      ∙ ap
      (λ (n : ExtendedNumbers).
      join
      (be_bytes 2 (12 + length x.further)
      ∷ be_bytes 2 n.second
      ∷ be_bytes 4 n.third
      ∷ be_bytes 4 n.fourth
      ∷ x.further
      ∷ x.content
      ∷ x.metadata
      ∷ []))
      (numbers-same l v k (length x.metadata) x.id s e a)
      ∙ sym (body-2 l v (index_size_in s) x e))
      o

-- ---- check 6 refuses what breaks it

breaks : (l : Layout) (b : List ℕ) → BreaksExtended l b → Passed l b → ⊥
breaks l b h p =
    ⊎_elim (λ e. omega (arith, p.long))
    (λ f.
    ⊎_elim (λ e. omega (arith, p.size))
    (λ g. ⊎_elim (λ e. reserved-set l b e.0 e.1 p.reserved) (λ e. omega (arith, p.fits)) g)
    f)
    h

pub not_extended : (l : Layout) (b : List ℕ) → (Passed l b → ⊥) → extended_ok l b ≡ false
not_extended l b h = is_false (extended_ok l b) (λ k. h (passed l b k))

pub extended-refused : (l : Layout) (v : ℕ) (b : List ℕ) → v ≡ 2 → BreaksExtended l b → extended_fault l v b ≡ 6
extended-refused l v b e h = fault-2 l v b e ∙ ap (λ (t : Bool). cond t 0 6) (not_extended l b (breaks l b h))

-- ---- the length of a body

pub length-1 : (l : Layout) (v k : ℕ) (x : Sections) → (v ≡ 2 → ⊥) → length (encode_body l v k x) ≡ length x.content
length-1 l v k x h = ap length (body-1 l v k x h)

pub length-2 : (l : Layout) (v k : ℕ) (x : Sections) → v ≡ 2 → length (encode_body l v k x) ≡ 12 + length x.further + length x.content + length x.metadata
length-2 l v k x h = ap length (body-2 l v k x h) ∙ length-extended l k x

pub body-theorems : (l : Layout) → BodyTheorems l
body-theorems l =
    record {
      accepted = body-accepted l;
      written_back = body_back l;
      well_accepted = body-well l;
      read_back = body-read l;
      refused = λ b h. extended-refused l 2 b refl h;
      agreed = λ v k x s w a. body-agreed l v k x w s a;
      disagreed = λ v k x s w h. body-disagreed l v k x w s h;
    }
