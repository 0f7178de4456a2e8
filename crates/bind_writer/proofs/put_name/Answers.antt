-- `bind_writer::put_name` meets its contract: two runs of bytes are one.
use Prim.Native.Nat.{ℕ, ◌+◌}
use mathlib.Core.Path.{ap, sym, ◌∙◌}
use mathlib.Core.List.{List, [], ◌∷◌}
use native.Mathlib.Omega.{arith}
use lib.ListN.{length}
use lib.Seq.{sets}
use Rattle.fields.specs.Numbers.{be_bytes}
use Rattle.fields.proofs.Laws.Stores.{sets-append}
use Rattle.bind_writer.proofs.Laws.Encoding.{length-ended}
use Rattle.bind_writer.proofs.put_name.Goals as goal

pub returns : goal.returns
unfolding be_bytes
returns c =
    let a = c.args in
    let n = a.name.now in record {
      place = omega (arith, length-ended n);
      bytes = c.put-2.ensures
          ∙ ap (λ (l : List ℕ). sets l (a.at + length n) (0 ∷ [])) c.put.ensures
          ∙ sym (sets-append a.out.now a.at n (0 ∷ []));
    }
