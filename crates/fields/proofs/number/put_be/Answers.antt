-- `fields::number::put_be` meets its contract: the last n of eight digits.
use Prim.Native.Nat.{ℕ, ◌-◌}
use mathlib.Core.List.{List}
use mathlib.Core.Path.{◌≡◌, ap, ◌∙◌}
use native.Mathlib.Nat.{div-one}
use Rattle.fields.specs.Numbers.{be_bytes}
use native.Mathlib.Omega.{arith}
use lib.ListN.{take, drop}
use lib.Seq.{sets}
use Rattle.fields.proofs.Laws.Numbers.{last-be_bytes}
use Rattle.fields.proofs.number.put_be.Goals as goal

pub returns : goal.returns
unfolding be_bytes
returns c =
    let a = c.args in
    let b : c.to_be_bytes-b.result ≡ be_bytes 8 a.v = c.to_be_bytes-b.ensures ∙ simp div-one in
    c.put.ensures
    ∙ ap (λ (r : List ℕ). sets a.out.now a.at (take (8 - (8 - a.n)) (drop (8 - a.n) r))) b
    ∙ ap (sets a.out.now a.at) (last-be_bytes 8 a.n a.v (omega arith))
