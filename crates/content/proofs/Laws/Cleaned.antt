-- A content with its rests zeroed.
use mathlib.Core.Path.{◌≡◌, refl, sym, ap, ap₂, subst, ◌∙◌}
use mathlib.Core.List.{List, [], ◌∷◌, ◌++◌}
use Prim.Native.Nat.{ℕ, zero, suc, ◌+◌, ◌%◌, ◌<◌, ◌^◌}
use native.Mathlib.Omega.{arith}
use lib.ListN.{length, length-append}
use Rattle.fields.specs.Lists.{Each, flat}
use Rattle.fields.proofs.Laws.Received.{zeroed-fills, zeroed-zeroed}
use Rattle.fields.specs.Received.{zeroed, Fills}
use Rattle.bind_layout.specs.Children.{padded, child_name, child_data, name_table, WellChild}
use Rattle.bind_layout.proofs.Laws.Children.{length-padded}
use Rattle.bind_layout.proofs.Laws.Written.{length-encode, data-front}
use Rattle.content.specs.Tree.{Content, Children, transform, position, image, bind, other, none, more, type_text, encode, child_list, WellFormed, WellChildren, RestsFill, AllFill, cleaned, cleaned_children, IsClean, AllClean}

pub cleaned-type : (x : Content) → type_text (cleaned x) ≡ type_text x
unfolding cleaned
cleaned-type (transform ws) = refl
cleaned-type (position ws) = refl
cleaned-type (image x) = refl
cleaned-type (bind cs) = refl
cleaned-type (other t s) = refl

mutual
  unfolding cleaned IsClean

  pub cleaned_clean : (x : Content) → IsClean (cleaned x)
  cleaned_clean (transform ws) = tt
  cleaned_clean (position ws) = tt
  cleaned_clean (image x) = tt
  cleaned_clean (bind cs) = all-cleaned cs
  cleaned_clean (other t s) = tt

  all-cleaned : (cs : Children) → AllClean (cleaned_children cs)
  all-cleaned none = tt
  all-cleaned (more rest name x cs) =
      (zeroed-zeroed rest, cleaned_clean x, all-cleaned cs)

mutual
  unfolding cleaned IsClean

  pub clean_same : (x : Content) → IsClean x → cleaned x ≡ x
  clean_same (transform ws) h = refl
  clean_same (position ws) h = refl
  clean_same (image x) h = refl
  clean_same (bind cs) h = ap bind (all_same cs h)
  clean_same (other t s) h = refl

  all_same : (cs : Children) → AllClean cs → cleaned_children cs ≡ cs
  all_same none h = refl
  all_same (more rest name x cs) h = λ i. more (sym h.0 i) name (clean_same x h.1 i) (all_same cs h.2 i)

-- ---- its length, and that it is well formed

count-cleaned : (cs : Children) → length (child_list (cleaned_children cs)) ≡ length (child_list cs)
unfolding cleaned encode
count-cleaned none = refl
count-cleaned (more rest name x cs) = ap suc (count-cleaned cs)

names-cleaned : (cs : Children) → flat child_name (child_list (cleaned_children cs)) ≡ flat child_name (child_list cs)
unfolding cleaned encode flat child_name
names-cleaned none = refl
names-cleaned (more rest name x cs) = ap (λ (l : List ℕ). (name ++ (0 ∷ [])) ++ l) (names-cleaned cs)

table-cleaned : (cs : Children) → name_table (child_list (cleaned_children cs)) ≡ name_table (child_list cs)
unfolding name_table
table-cleaned cs = ap padded (names-cleaned cs)

padded-alike : (x y : List ℕ) → length x ≡ length y → length (padded x) ≡ length (padded y)
padded-alike x y e = length-padded x ∙ ap (λ (n : ℕ). n + n % 2) e ∙ sym (length-padded y)

mutual
  unfolding cleaned encode

  pub length-cleaned : (x : Content) → length (encode (cleaned x)) ≡ length (encode x)
  length-cleaned (transform ws) = refl
  length-cleaned (position ws) = refl
  length-cleaned (image x) = refl
  length-cleaned (bind cs) =
      omega (
        arith,
        length-encode (child_list (cleaned_children cs)),
        length-encode (child_list cs),
        count-cleaned cs,
        ap length (table-cleaned cs),
        data-cleaned cs,
      )
  length-cleaned (other t s) = refl

  data-cleaned : (cs : Children) → length (flat child_data (child_list (cleaned_children cs))) ≡ length (flat child_data (child_list cs))
  data-cleaned none = refl
  data-cleaned (more rest name x cs) =
      let a : length (padded (encode (cleaned x))) ≡ length (padded (encode x)) = padded-alike (encode (cleaned x)) (encode x) (length-cleaned x) in
      ap length (data-front (record { type_text = type_text (cleaned x); rest = zeroed rest; name = name; content = encode (cleaned x) }) (child_list (cleaned_children cs)))
      ∙ length-append (padded (encode (cleaned x))) (flat child_data (child_list (cleaned_children cs)))
      ∙ ap₂ (λ (m n : ℕ). m + n) a (data-cleaned cs)
      ∙ sym (length-append (padded (encode x)) (flat child_data (child_list cs)))
      ∙ sym (ap length (data-front (record { type_text = type_text x; rest = rest; name = name; content = encode x }) (child_list cs)))

each-cleaned : (cs : Children) → Each WellChild (child_list cs) → Each WellChild (child_list (cleaned_children cs))
unfolding cleaned encode
each-cleaned none w = tt
each-cleaned (more rest name x cs) w = (
  record {
    type_fills = subst (λ (t : List ℕ). Fills 12 t (zeroed rest)) (sym (cleaned-type x)) (zeroed-fills 12 (type_text x) rest w.0.type_fills);
    name_text = w.0.name_text;
    size_fits = subst (λ (n : ℕ). n < 256 ^ 8) (sym (length-cleaned x)) w.0.size_fits;
  },
  each-cleaned cs w.1,
)

mutual
  unfolding cleaned encode WellFormed

  pub cleaned_well : (x : Content) (levels : ℕ) → WellFormed x levels → WellFormed (cleaned x) levels
  cleaned_well (transform ws) levels w = w
  cleaned_well (position ws) levels w = w
  cleaned_well (image x) levels w = w
  cleaned_well (bind cs) zero w = absurd w
  cleaned_well (bind cs) (suc levels) w = (
    record {
      count_fits = subst (λ (n : ℕ). n < 256 ^ 2) (sym (count-cleaned cs)) w.0.count_fits;
      table_fits = subst (λ (n : ℕ). n < 256 ^ 2) (sym (ap length (table-cleaned cs))) w.0.table_fits;
      each = each-cleaned cs w.0.each;
    },
    all-well cs levels w.1,
  )
  cleaned_well (other t s) levels w = w

  all-well : (cs : Children) (levels : ℕ) → WellChildren cs levels → WellChildren (cleaned_children cs) levels
  all-well none levels w = tt
  all-well (more rest name x cs) levels w = (cleaned_well x levels w.0, all-well cs levels w.1)

-- ---- the rests fill their fields, and may be any that do

mutual
  unfolding encode WellFormed RestsFill

  pub well-fills : (x : Content) (levels : ℕ) → WellFormed x levels → RestsFill x
  well-fills (transform ws) levels w = tt
  well-fills (position ws) levels w = tt
  well-fills (image x) levels w = tt
  well-fills (bind cs) zero w = absurd w
  well-fills (bind cs) (suc levels) w = all-fill cs levels w.0.each w.1
  well-fills (other t s) levels w = tt

  all-fill : (cs : Children) (levels : ℕ) → Each WellChild (child_list cs) → WellChildren cs levels → AllFill cs
  all-fill none levels e w = tt
  all-fill (more rest name x cs) levels e w = (e.0.type_fills, well-fills x levels w.0, all-fill cs levels e.1 w.1)

each-uncleaned : (cs : Children) → AllFill cs → Each WellChild (child_list (cleaned_children cs)) → Each WellChild (child_list cs)
unfolding cleaned encode RestsFill
each-uncleaned none f w = tt
each-uncleaned (more rest name x cs) f w = (
  record {
    type_fills = f.0;
    name_text = w.0.name_text;
    size_fits = subst (λ (n : ℕ). n < 256 ^ 8) (length-cleaned x) w.0.size_fits;
  },
  each-uncleaned cs f.2 w.1,
)

mutual
  unfolding cleaned encode WellFormed RestsFill

  pub any_rests : (x : Content) (levels : ℕ) → RestsFill x → WellFormed (cleaned x) levels → WellFormed x levels
  any_rests (transform ws) levels f w = w
  any_rests (position ws) levels f w = w
  any_rests (image x) levels f w = w
  any_rests (bind cs) zero f w = absurd w
  any_rests (bind cs) (suc levels) f w = (
    record {
      count_fits = subst (λ (n : ℕ). n < 256 ^ 2) (count-cleaned cs) w.0.count_fits;
      table_fits = subst (λ (n : ℕ). n < 256 ^ 2) (ap length (table-cleaned cs)) w.0.table_fits;
      each = each-uncleaned cs f w.0.each;
    },
    any-children cs levels f w.1,
  )
  any_rests (other t s) levels f w = w

  any-children : (cs : Children) (levels : ℕ) → AllFill cs → WellChildren (cleaned_children cs) levels → WellChildren cs levels
  any-children none levels f w = tt
  any-children (more rest name x cs) levels f w = (any_rests x levels f.1 w.0, any-children cs levels f.2 w.1)
