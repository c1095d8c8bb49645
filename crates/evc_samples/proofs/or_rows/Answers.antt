-- `evc_samples::or_rows` meets its contract. The invariant: o stands for the first y rows. Assumes nothing.
use native.Mathlib.Omega.{arith}
use Rattle.evc_int.proofs.Lists.{row_fits}
use Rattle.evc_samples.proofs.Samples.{or_too_large, rows_none, rows_more, taken}
use Rattle.evc_samples.proofs.or_rows.Goals as goal

pub loop-y-init : goal.loop-y-init
loop-y-init c = grind (arith, rows_none)

pub loop-y-preserved : goal.loop-y-preserved
loop-y-preserved c =
    let z = c.args in
    let r = row_fits z.stride c.loop-y-test.true in
    grind (arith, or_too_large, rows_more, taken)
