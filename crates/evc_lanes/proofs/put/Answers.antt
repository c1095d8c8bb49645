-- `evc_lanes::put` meets its contract. The invariant: the first x numbers are written. Assumes nothing.
use native.Mathlib.Omega.{arith}
use Rattle.std.proofs.lemmas.Grind.{common_steps}
use Rattle.evc_int.specs.Lists.{with_row}
use Rattle.evc_int.proofs.Lists.{row_step}
use Rattle.evc_lanes.proofs.put.Goals as goal

pub loop-x-init : goal.loop-x-init
unfolding with_row
loop-x-init g c = grind (arith, common_steps)

pub loop-x-preserved : goal.loop-x-preserved
loop-x-preserved g c = grind (arith, common_steps, row_step)
