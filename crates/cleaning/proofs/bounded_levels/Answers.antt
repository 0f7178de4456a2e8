-- `cleaning::bounded_levels` meets its contract.
use mathlib.Core.Path.{sym, ap}
use mathlib.Core.Bool.{Bool, cond}
use native.Mathlib.Omega.{arith}
use borrow.Author.Tests.{le-leb, lt-leb}
use Rattle.content.specs.ContentCheck.{deepest}
use Rattle.cleaning.proofs.bounded_levels.Goals as goal

pub returns-then-levels-le-DEEPEST : goal.returns-then-levels-le-DEEPEST
returns-then-levels-le-DEEPEST c = let n = c.args.levels in sym (ap (λ (b : Bool). cond b n deepest) (le-leb n deepest c.if-levels-le-DEEPEST.true))

pub returns : goal.returns
returns c = let n = c.args.levels in sym (ap (λ (b : Bool). cond b n deepest) (lt-leb n deepest (omega (arith, c.if-levels-le-DEEPEST.false))))
