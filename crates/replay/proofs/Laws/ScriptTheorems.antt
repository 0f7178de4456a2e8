-- A script of calls has those calls: each field of a call is cut from the front where it was joined, and the call by its byte.
use Prim.Native.Nat.{ℕ, zero, suc, ◌+◌, ◌/◌, ◌%◌, ◌^◌, ◌<◌}
use mathlib.Core.Path.{◌≡◌, refl, sym, ap, ap₂, ◌∙◌}
use mathlib.Core.List.{List, [], ◌∷◌, ◌++◌}
use native.Mathlib.Omega.{arith}
use lib.ListN.{length, drop, get_or, length-append, length-take}
use lib.Seq.{drop_at}
use Rattle.fields.specs.Bytes.{Bytes, part}
use Rattle.fields.specs.Lists.{Each, flat}
use Rattle.fields.specs.Numbers.{be_val, be_bytes, be_at}
use Rattle.fields.specs.Layout.{total, join, cut, Widths}
use Rattle.fields.proofs.Laws.Bytes.{bytes-nil, bytes-cons, bytes-tail, bytes-part}
use Rattle.fields.proofs.Laws.Numbers.{length-be_bytes, be_val-be_bytes, be_at-lt}
use Rattle.fields.proofs.Laws.Layout.{length-join, cut-join}
use Rattle.message.specs.declared.Layout.{Layout}
use Rattle.message.specs.declared.Layout.TheVariants.{New, Old}
use Rattle.message.specs.LayoutNumber.{layout_of, layout_number}
use Rattle.history.specs.Calls.{Call, add, link_up, link_down, message, look}
use Rattle.replay.specs.Script.{call_byte, clock_in, number_in, first_part, second_part, call_length, Fields, fields_in, call_with, call_of, calls_in}
use Rattle.replay.specs.ScriptTheorems.{fields_of, written, call_bytes, script_of, PartFits, FieldsFit, Fits, ScriptTheorems}
use Rattle.replay.proofs.Laws.Script.{calls-none, calls-next, calls-each, call-each}

-- ---- the first call of a script, and those after it

module _ (f : Fields) (rest : List ℕ) where
  abbrev script : List ℕ
  script = join (written f) ++ rest

  abbrev widths : List ℕ
  widths = 1 ∷ 8 ∷ 8 ∷ 4 ∷ 4 ∷ length f.first ∷ length f.second ∷ []

  wide : Widths (written f) widths
  wide = (
    length-be_bytes 1 f.which,
    (
      length-be_bytes 8 f.clock,
      (length-be_bytes 8 f.number, (length-be_bytes 4 (length f.first), (length-be_bytes 4 (length f.second), (refl, (refl, tt))))),
    ),
  )

  -- the field at a place
  field_at : (i : ℕ) → get_or (cut 0 widths script) i [] ≡ get_or (written f) i []
  field_at i = ap (λ (l : List (List ℕ)). get_or l i []) (cut-join [] (written f) widths rest 0 refl wide)

  -- a number's
  number_at : (i n v : ℕ) → v < 256 ^ n → get_or (written f) i [] ≡ be_bytes n v → v ≡ be_val (get_or (cut 0 widths script) i [])
  number_at i n v h e = sym (ap be_val (field_at i ∙ e) ∙ be_val-be_bytes n v h)

  -- the script begins with these fields, and the rest follows
  record Front : Type 0 where
    some : 0 < length script
    fields-are : fields_in script ≡ f
    left : drop (call_length script) script ≡ rest

  front : FieldsFit f → Front
  front h =
      let a : length f.first ≡ be_at 4 17 script = number_at 3 4 (length f.first) h.first.length_fits refl in
      let b : length f.second ≡ be_at 4 21 script = number_at 4 4 (length f.second) h.second.length_fits refl in
      let k : f.which ≡ call_byte script = number_at 0 1 f.which h.which refl in
      let c : f.clock ≡ clock_in script = number_at 1 8 f.clock h.clock refl in
      let n : f.number ≡ number_in script = number_at 2 8 f.number h.number refl in
      let x : f.first ≡ first_part script = sym (field_at 5) ∙ ap (λ (j : ℕ). part j 25 script) a in
      let y : f.second ≡ second_part script = sym (field_at 6) ∙ ap₂ (λ (i j : ℕ). part j (25 + i) script) a b in
      let t : length (join (written f)) ≡ total widths = length-join (written f) widths wide in
      record {
        some = omega (arith, t, length-append (join (written f)) rest);
        fields-are = same-fields (sym k) (sym c) (sym n) (sym x) (sym y);
        left = drop_at (join (written f)) rest (call_length script) (omega (arith, t, a, b));
      }
    where
      same-fields : {k t n : ℕ} {x y : List ℕ} → k ≡ f.which → t ≡ f.clock → n ≡ f.number → x ≡ f.first → y ≡ f.second
          → ◌≡◌ {A = Fields} (record { which = k; clock = t; number = n; first = x; second = y }) f
      same-fields a b c d e = rw (a, b, c, d, e) refl

number_fits : (l : Layout) → layout_number l < 256 ^ 8
number_fits New = omega arith
number_fits Old = omega arith

number-back : (l : Layout) → layout_of (layout_number l) ≡ l
unfolding layout_of
number-back New = refl
number-back Old = refl

-- a call is the one with its fields
call-with : (c : Call) → call_with (fields_of c) ≡ c
call-with (add t n h) = refl
call-with (link_up l t) = ap (λ (o : Layout). link_up o t) (number-back l)
call-with (link_down t) = refl
call-with (message t s) = refl
call-with (look i t) = refl

read_back : (cs : List Call) → Each Fits cs → calls_in (script_of cs) ≡ cs
unfolding script_of flat call_of
read_back [] f = calls-none [] (omega arith)
read_back (c ∷ cs) f =
    let w = front (fields_of c) (script_of cs) f.0 in
    calls-next (call_bytes c ++ script_of cs) w.some
    ∙ ap₂ (λ (x : Fields) (s : List ℕ). call_with x ∷ calls_in s) w.fields-are w.left
    ∙ ap₂ (λ (x : Call) (xs : List Call). x ∷ xs) (call-with c) (read_back cs f.1)

-- ---- bytes

bytes-append : (a b : List ℕ) → Bytes a → Bytes b → Bytes (a ++ b)
bytes-append [] b h k = k
bytes-append (x ∷ a) b h k = bytes-cons x (a ++ b) (h 0) (bytes-append a b (bytes-tail x a h) k)

number-bytes : (n v : ℕ) → Bytes (be_bytes n v)
unfolding be_bytes
number-bytes zero v = bytes-nil
number-bytes (suc n) v = bytes-cons (v / 256 ^ n % 256) (be_bytes n v) (omega arith) (number-bytes n v)

join-bytes : (xs : List (List ℕ)) → Each Bytes xs → Bytes (join xs)
join-bytes [] h = bytes-nil
join-bytes (z ∷ zs) h = bytes-append z (join zs) h.0 (join-bytes zs h.1)

call-bytes : (c : Call) → Fits c → Bytes (call_bytes c)
call-bytes c f =
    let x = fields_of c in
    join-bytes (written x) (
      number-bytes 1 x.which,
      (
        number-bytes 8 x.clock,
        (
          number-bytes 8 x.number,
          (number-bytes 4 (length x.first), (number-bytes 4 (length x.second), (f.first.bytes, (f.second.bytes, tt)))),
        ),
      ),
    )

script-bytes : (cs : List Call) → Each Fits cs → Bytes (script_of cs)
unfolding script_of flat
script-bytes [] f = bytes-nil
script-bytes (c ∷ cs) f = bytes-append (call_bytes c) (script_of cs) (call-bytes c f.0) (script-bytes cs f.1)

-- ---- the calls of any bytes

part-fits : (s : List ℕ) (n at : ℕ) → Bytes s → n < 256 ^ 4 → PartFits (part n at s)
part-fits s n at b h = record { bytes = bytes-part n at s b; length_fits = omega (arith, h, length-take n (drop at s)) }

no_part : PartFits []
no_part = record { bytes = bytes-nil; length_fits = omega arith }

call_fits : (s : List ℕ) → Bytes s → Fits (call_of s)
call_fits s b =
    let t : clock_in s < 256 ^ 8 = be_at-lt 8 1 s b in
    let n : number_in s < 256 ^ 8 = be_at-lt 8 9 s b in
    let x : PartFits (first_part s) = part-fits s (be_at 4 17 s) 25 b (be_at-lt 4 17 s b) in
    let y : PartFits (second_part s) = part-fits s (be_at 4 21 s) (25 + be_at 4 17 s) b (be_at-lt 4 21 s b) in
    call-each Fits s
    (record { which = omega arith; clock = omega arith; number = n; first = x; second = y })
    (record { which = omega arith; clock = t; number = number_fits (layout_of (number_in s)); first = no_part; second = no_part })
    (record { which = omega arith; clock = t; number = omega arith; first = no_part; second = no_part })
    (record { which = omega arith; clock = t; number = omega arith; first = x; second = no_part })
    (record { which = omega arith; clock = t; number = n; first = no_part; second = no_part })

pub script-theorems : ScriptTheorems
script-theorems =
    record {
      bytes = script-bytes;
      read_back = read_back;
      fit = calls-each Fits call_fits;
      written_again = λ s b. read_back (calls_in s) (calls-each Fits call_fits s b);
    }
