-- `evc_counts::one_if` meets its contract. Assumes nothing.
use native.Mathlib.Omega.{arith}
use Rattle.evc_clip.proofs.Numbers.{by_number}
use Rattle.evc_counts.specs.Counts.{one_if}
use Rattle.evc_counts.proofs.one_if.Goals as goal

pub returns : goal.returns
unfolding one_if
returns c = grind (arith, by_number)
