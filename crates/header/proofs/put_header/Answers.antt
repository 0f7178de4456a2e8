-- `header::put_header` meets its contract: six stores.
use Rattle.fields.specs.Text.{text_bytes}
use Rattle.header.proofs.put_header.Goals as goal

pub returns : goal.returns
unfolding text_bytes
returns c = cc
