-- `evc_samples::or_strips` meets its contract. The invariant: o stands for the last sixteen columns and the first k strips. Assumes nothing.
use Prim.Native.Nat.{◌*◌, ◌+◌}
use native.Mathlib.Omega.{arith}
use Rattle.evc_samples.proofs.Samples.{or_too_large, columns_none, columns_more, columns_all}
use Rattle.evc_samples.proofs.or_strips.Goals as goal

pub loop-k-init : goal.loop-k-init
loop-k-init c = grind (arith, columns_none)

pub loop-k-preserved : goal.loop-k-preserved
loop-k-preserved c =
    let z = c.args in
    let k = c.loop-k.k in
    let e = columns_more z.s.now z.at z.stride z.h (16 * k) 16 (16 * (k + 1)) (omega arith) in
    grind (arith, or_too_large)

pub returns : goal.returns
returns c = grind (arith, columns_all)
