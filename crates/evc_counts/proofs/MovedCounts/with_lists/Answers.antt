-- `evc_counts::MovedCounts::with_lists` meets its contract. Assumes nothing.
use native.Mathlib.Omega.{arith}
use Rattle.evc_counts.proofs.Counts.{one_if_most}
use Rattle.evc_counts.proofs.MovedCounts.with_lists.Goals as goal

pub with-requires-2 : goal.with-requires-2
with-requires-2 c = rw c.with.ensures (omega (arith, one_if_most))
