-- `pose::read_position` meets its contract: the law of an accepted content and that of a refused one.
use mathlib.Core.Path.{◌≡◌, sym}
use Rattle.std.proofs.Common.{rules}
use Rattle.fields.specs.Fault.{number_of}
use Rattle.pose.specs.PositionReader.{position_fault, some_position, position_of}
use Rattle.pose.proofs.Laws.{position-read, refused-position}
use Rattle.pose.proofs.read_position.Goals as goal

pub returns-in_err-position_fault : goal.returns-in_err-position_fault
returns-in_err-position_fault c =
    let s = c.args.content.now in
    let e : number_of c.from_residual.result ≡ position_fault s = search rules in
    refused-position s c.from_residual.result c.from_residual.ensures.0 e

pub returns : goal.returns
returns c =
    let s = c.args.content.now in
    let e : position_of s ≡ some_position s = position-read s (sym c.in_ok-position_fault.ensures) in
    cc
