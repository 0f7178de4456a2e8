-- `image::product` meets its contract: no product leaves 64 bits.
use Prim.Native.Nat.{◌<◌}
use mathlib.Core.Path.{refl}
use native.Mathlib.Omega.{arith}
use Rattle.image.proofs.Rule.{product_lt, pixels-lt}
use Rattle.image.proofs.product.Goals as goal

pub overflow_mul-pixels : goal.overflow_mul-pixels
overflow_mul-pixels c = let p = product_lt c.ranges.i.fits c.ranges.j.fits in omega (arith, p)

pub overflow_mul-pixels-2 : goal.overflow_mul-pixels-2
overflow_mul-pixels-2 c =
    let p = product_lt (product_lt c.ranges.i.fits c.ranges.j.fits) c.ranges.k.fits in
    omega (arith, p)

pub overflow_mul-result : goal.overflow_mul-result
overflow_mul-result c =
    let s : c.args.scalar < 9 = omega arith in
    let p = product_lt c.ranges.components.fits s in
    omega (arith, p)

pub overflow_mul-result-2 : goal.overflow_mul-result-2
overflow_mul-result-2 c =
    let p = pixels-lt c.ranges.components.fits c.requires c.ranges.i.fits c.ranges.j.fits c.ranges.k.fits in
    omega (arith, p)

pub returns : goal.returns
returns c = record {
  value = refl;
  bound = pixels-lt c.ranges.components.fits c.requires c.ranges.i.fits c.ranges.j.fits c.ranges.k.fits;
}
