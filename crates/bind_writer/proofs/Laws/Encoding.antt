-- The encoding of children by their three lists: its length, and the stores that write it.
use Prim.Native.Nat.{ℕ, ◌+◌, ◌*◌, ◌%◌, ◌≤◌, ◌<◌}
use Rattle.std.specs.Prelude.{Option, Some, None, MatchOption, IsSome}
use Rattle.std.proofs.lemmas.Option.{MatchOption-at_some}
use mathlib.Core.Path.{◌≡◌, refl, sym, ap, ap₂, ◌∙◌}
use mathlib.Core.List.{List, [], ◌∷◌, ◌++◌, map, append_assoc}
use native.Mathlib.Omega.{arith}
use lib.ListN.{length, replicate, length-append, length-map}
use lib.Seq.{sets}
use Rattle.fields.specs.Numbers.{be_bytes}
use Rattle.fields.specs.Lists.{flat}
use Rattle.fields.specs.Layout.{join}
use Rattle.fields.proofs.Laws.Lists.{flat_map, flat-all}
use Rattle.fields.proofs.Laws.Received.{field_bytes-zeros}
use Rattle.fields.proofs.Laws.Numbers.{length-be_bytes}
use Rattle.fields.proofs.Laws.Stores.{sets-append, stores-join}
use Rattle.bind_layout.specs.Children.{Child, padded, child_header, child_name, child_data, name_table, encode_children, ended}
use Rattle.bind_layout.proofs.Laws.Children.{length-padded}
use Rattle.bind_layout.proofs.Laws.Written.{length-encode}
use Rattle.bind_writer.specs.ChildLists.{children, names_of, contents_of, SameCount}
use Rattle.bind_writer.specs.BindWriter.{clean_child, written, plain_header, clean_data}
use Rattle.bind_writer.proofs.Laws.Children.{lists_of, length-plain, length-content, length-datas}

names-flat : (cs : List Child) → flat child_name cs ≡ flat ended (names_of cs)
unfolding child_name
names-flat cs = sym (flat_map ended (λ c. c.name) cs)

data-flat : (cs : List Child) → flat child_data cs ≡ flat padded (contents_of cs)
unfolding child_data
data-flat cs = sym (flat_map padded (λ c. c.content) cs)

-- the length of the names as the code counts it: none where it is above the limit
module _ (r : Option ℕ) (long : ℕ) (h : MatchOption r (65535 < long) (λ n. (n ≡ long) × (n ≤ 65535))) where
  pub names-counted : (n : ℕ) → r ≡ Some n → n ≡ long
  names-counted n e = (MatchOption-at_some (65535 < long) (λ k. (k ≡ long) × (k ≤ 65535)) n e h).0

pub names-known : (r : Option ℕ) (long : ℕ) → MatchOption r (65535 < long) (λ n. (n ≡ long) × (n ≤ 65535)) → long ≤ 65535 → IsSome r
names-known (Some n) long h k = refl
names-known None long h k = absurd (omega (arith, h, k))

pub length-ended : (x : List ℕ) → length (ended x) ≡ length x + 1
length-ended x = length-append x (0 ∷ [])

-- the size of a table, its names and its pad, each stored where the one before it ends
pub table-stores : (names out : List ℕ) (at n end : ℕ) → n ≡ length names → end ≡ at + 2 + length names
    → sets (sets (sets out at (be_bytes 2 (n + n % 2))) (at + 2) names) end (replicate (n % 2) 0)
    ≡ sets out at (be_bytes 2 (length (padded names)) ++ padded names)
unfolding padded
table-stores names out at n end p q =
    let b = be_bytes 2 (length (padded names)) in
    let z = replicate {A = ℕ} (length names % 2) 0 in
    let k : n + n % 2 ≡ length (padded names) = omega (arith, length-padded names) in
    let w : at + 2 ≡ at + length b = omega (arith, length-be_bytes 2 (length (padded names))) in
    ap₂ (λ (x e : ℕ). sets (sets (sets out at (be_bytes 2 x)) (at + 2) names) e (replicate (n % 2) 0)) k q
    ∙ ap (λ (x : ℕ). sets (sets (sets out at b) (at + 2) names) (at + 2 + length names) (replicate (x % 2) 0)) p
    ∙ sym (sets-append (sets out at b) (at + 2) names z)
    ∙ ap (λ (x : ℕ). sets (sets out at b) x (names ++ z)) w
    ∙ sym (sets-append out at b (names ++ z))

-- ---- what cleaning keeps

pub names-kept : (cs : List Child) → flat child_name (map clean_child cs) ≡ flat child_name cs
unfolding flat child_name
names-kept [] = refl
names-kept (c ∷ cs) = ap (λ (l : List ℕ). child_name c ++ l) (names-kept cs)

datas-kept : (cs : List Child) → flat clean_data cs ≡ flat child_data (map clean_child cs)
unfolding flat child_data
datas-kept [] = refl
datas-kept (c ∷ cs) = ap (λ (l : List ℕ). clean_data c ++ l) (datas-kept cs)

headers-kept : (ts ns ds : List (List ℕ)) → flat plain_header (children ts ns ds) ≡ flat child_header (written ts ns ds)
unfolding children flat child_header
headers-kept [] ns ds = refl
headers-kept (t ∷ ts) [] ds = refl
headers-kept (t ∷ ts) (n ∷ ns) [] = refl
headers-kept (t ∷ ts) (n ∷ ns) (d ∷ ds) =
    ap₂ (λ (x y : List ℕ). x ++ y)
    (ap₂ (λ (x : List ℕ) (k : ℕ). x ++ be_bytes 8 k) (sym (field_bytes-zeros 12 t)) (sym (length-content t d)))
    (headers-kept ts ns ds)

-- the encoding of children whose contents are cleaned is as long
pub length-cleaned : (cs : List Child) → length (encode_children (map clean_child cs)) ≡ length (encode_children cs)
unfolding name_table child_data
length-cleaned cs =
    let d : length (flat child_data (map clean_child cs)) ≡ length (flat child_data cs) =
    ap length (sym (datas-kept cs))
    ∙ ap length (sym (flat-all clean_data cs (length cs) (omega arith)))
    ∙ length-datas (length cs) cs
    ∙ ap length (flat-all padded (contents_of cs) (length cs) (omega (arith, length-map cs (λ c. c.content))))
    ∙ ap length (sym (data-flat cs)) in
    omega (arith, length-encode (map clean_child cs), length-encode cs, length-map cs clean_child, ap (λ (l : List ℕ). length (padded l)) (names-kept cs), d)

module _ (ts ns ds : List (List ℕ)) (h : SameCount ts ns ds) where
  pub length-children : length (children ts ns ds) ≡ length ts
  length-children = sym (length-map (children ts ns ds) (λ c. c.type_text)) ∙ ap length (lists_of ts ns ds h).0

  pub names-given : flat child_name (children ts ns ds) ≡ flat ended ns
  names-given = names-flat (children ts ns ds) ∙ ap (flat ended) (lists_of ts ns ds h).1

  pub table-given : name_table (children ts ns ds) ≡ padded (flat ended ns)
  unfolding name_table
  table-given = ap padded names-given

  data-given : flat child_data (children ts ns ds) ≡ flat padded ds
  data-given = data-flat (children ts ns ds) ∙ ap (flat padded) (lists_of ts ns ds h).2

  pub length-given : length (encode_children (children ts ns ds)) ≡ 4 + 20 * length ts + length (padded (flat ended ns)) + length (flat padded ds)
  length-given = omega (arith, length-encode (children ts ns ds), length-children, ap length table-given, ap length data-given)

  -- what is written, part by part
  length-written : length (written ts ns ds) ≡ length ts
  length-written = length-map (children ts ns ds) clean_child ∙ length-children

  table-written : name_table (written ts ns ds) ≡ padded (flat ended ns)
  unfolding name_table
  table-written = ap padded (names-kept (children ts ns ds) ∙ names-given)

  four-parts : join (be_bytes 2 (length ts) ∷ flat plain_header (children ts ns ds) ∷ (be_bytes 2 (length (padded (flat ended ns))) ++ padded (flat ended ns)) ∷ flat clean_data (children ts ns ds) ∷ [])
      ≡ encode_children (written ts ns ds)
  unfolding encode_children
  four-parts =
      let cs = written ts ns ds in
      let t = padded (flat ended ns) in
      ap₂ (λ (h d : List ℕ). be_bytes 2 (length ts) ++ (h ++ ((be_bytes 2 (length t) ++ t) ++ (d ++ [])))) (headers-kept ts ns ds) (datas-kept (children ts ns ds))
      ∙ ap₂ (λ (n : ℕ) (x : List ℕ). be_bytes 2 n ++ (flat child_header cs ++ ((be_bytes 2 (length x) ++ x) ++ (flat child_data cs ++ [])))) (sym length-written) (sym table-written)
      ∙ ap (λ (l : List ℕ). be_bytes 2 (length cs) ++ (flat child_header cs ++ l)) (append_assoc (be_bytes 2 (length (name_table cs))) (name_table cs) (flat child_data cs ++ []))

  -- the table's length, by the names'
  pub length-table : length (name_table (children ts ns ds)) ≡ length (flat ended ns) + length (flat ended ns) % 2
  length-table = ap length table-given ∙ length-padded (flat ended ns)

  -- the length of the encoding, by the names' length m
  pub length_front : (m : ℕ) → m ≡ length (flat ended ns) → length (encode_children (children ts ns ds)) ≡ 4 + 20 * length ts + m + m % 2 + length (flat padded ds)
  length_front m e = omega (arith, e, length-given, length-padded (flat ended ns))

  -- the four parts, each stored where the one before it ends
  pub encode-stores : (out : List ℕ) (end : ℕ) → end ≡ 2 + 20 * length ts + (2 + length (padded (flat ended ns)))
      → sets (sets (sets (sets out 0 (be_bytes 2 (length ts))) 2 (flat plain_header (children ts ns ds)))
      (2 + 20 * length ts) (be_bytes 2 (length (padded (flat ended ns))) ++ padded (flat ended ns))) end (flat clean_data (children ts ns ds))
      ≡ sets out 0 (encode_children (written ts ns ds))
  encode-stores out end e =
      let cs = children ts ns ds in
      let n = length ts in
      let t = padded (flat ended ns) in
      let head = be_bytes 2 n in
      let table = be_bytes 2 (length t) ++ t in
      let k : end ≡ 0 + 2 + 20 * n + (2 + length t) = omega (arith, e) in
      let m : 2 + 20 * n ≡ 0 + 2 + 20 * n = omega arith in
      let w : length table ≡ 2 + length t = omega (arith, length-append (be_bytes 2 (length t)) t, length-be_bytes 2 (length t)) in
      let v : length (flat plain_header cs) ≡ 20 * n = omega (arith, length-plain cs, length-children) in
      ap₂ (λ (a b : ℕ). sets (sets (sets (sets out 0 head) 2 (flat plain_header cs)) a table) b (flat clean_data cs)) m k
      ∙ stores-join out 0 (head ∷ flat plain_header cs ∷ table ∷ flat clean_data cs ∷ []) (2 ∷ 20 * n ∷ (2 + length t) ∷ length (flat clean_data cs) ∷ [])
      (length-be_bytes 2 n, (v, (w, (refl, tt))))
      ∙ ap (sets out 0) four-parts
