-- `evc_counts::MovedCounts::with` meets its contract. Assumes nothing.
use native.Mathlib.Omega.{arith}
use Rattle.evc_counts.proofs.Counts.{one_if_most}
use Rattle.evc_counts.proofs.MovedCounts.with.Goals as goal

pub overflow_add-result : goal.overflow_add-result
overflow_add-result c = grind (arith, one_if_most)

pub overflow_add-result-2 : goal.overflow_add-result-2
overflow_add-result-2 c = grind (arith, one_if_most)

pub overflow_add-result-3 : goal.overflow_add-result-3
overflow_add-result-3 c = grind (arith, one_if_most)

pub overflow_add-result-4 : goal.overflow_add-result-4
overflow_add-result-4 c = grind (arith, one_if_most)
