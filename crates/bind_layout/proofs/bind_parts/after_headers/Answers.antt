-- `bind_layout::bind_parts::after_headers` meets its contract: the count is that of two bytes, so the sum fits.
use native.Mathlib.Omega.{arith}
use Rattle.fields.proofs.Laws.Numbers.{be_at-lt}
use Rattle.bind_layout.proofs.bind_parts.after_headers.Goals as goal

pub overflow_mul-child_count : goal.overflow_mul-child_count
overflow_mul-child_count c = omega (arith, be_at-lt 2 0 c.args.content.now (λ i. (c.type_inv.content i).fits))

pub overflow_add-child_count : goal.overflow_add-child_count
overflow_add-child_count c = omega (arith, be_at-lt 2 0 c.args.content.now (λ i. (c.type_inv.content i).fits))

pub returns : goal.returns
returns c = simp (c.rest.ensures, c.child_count.ensures)
