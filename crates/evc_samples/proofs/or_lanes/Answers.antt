-- `evc_samples::or_lanes` meets its contract. The invariant: the lanes stand for the first y rows. Assumes nothing.
use native.Mathlib.Omega.{arith}
use Rattle.std.proofs.lemmas.List.{length-replicate}
use Rattle.evc_samples.proofs.Samples.{lanes_or, lanes_none, rows_none, rows_more, ends_all}
use Rattle.evc_samples.proofs.or_lanes.Goals as goal

pub loop-y-init : goal.loop-y-init
loop-y-init g c = grind (arith, length-replicate, lanes_none, rows_none)

pub loop-y-preserved : goal.loop-y-preserved
loop-y-preserved g c = grind (arith, rows_more, ends_all)

pub returns : goal.returns
returns g c = grind (arith, lanes_or)
