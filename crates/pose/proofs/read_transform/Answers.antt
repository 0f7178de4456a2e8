-- `pose::read_transform` meets its contract: the law of an accepted content and that of a refused one.
use mathlib.Core.Path.{◌≡◌, sym, ◌∙◌}
use Rattle.std.proofs.Common.{rules}
use Rattle.std.proofs.lemmas.List.{map-id}
use Rattle.fields.specs.Fault.{number_of}
use Rattle.pose.specs.TransformReader.{TransformRead, transform_fault, transform_at}
use Rattle.pose.proofs.Laws.{transform-read, refused-transform}
use Rattle.pose.proofs.read_transform.Goals as goal

pub returns-in_err-transform_fault : goal.returns-in_err-transform_fault
returns-in_err-transform_fault c =
    let s = c.args.content.now in
    let e : number_of c.from_residual.result ≡ transform_fault s = search rules in
    refused-transform s c.from_residual.result c.from_residual.ensures.0 e

pub returns : goal.returns
returns c =
    let s = c.args.content.now in
    let e : ◌≡◌ {A = TransformRead} _ (record { number = 0; transform = transform_at s }) =
    λ i. record {
      number = 0;
      transform = record {
        column1 = (sym (map-id c.three.result) ∙ c.three.ensures) i;
        column2 = (sym (map-id c.three-2.result) ∙ c.three-2.ensures) i;
        column3 = (sym (map-id c.three-3.result) ∙ c.three-3.ensures) i;
        translation = (sym (map-id c.three-4.result) ∙ c.three-4.ensures) i;
      };
    } in
    e ∙ sym (transform-read s (sym c.in_ok-transform_fault.ensures))
