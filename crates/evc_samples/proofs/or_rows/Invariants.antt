-- `evc_samples::or_rows` meets its contract. The invariant: o stands for the first y rows. Assumes nothing.
use Prim.Native.Nat.{◌≤◌}
use mathlib.Core.Path.{◌≡◌}
use Rattle.evc_samples.specs.Samples.{too_large, exceeds}
use Rattle.evc_samples.proofs.or_rows.Given as goal

abbrev pub invariant-loop-y : goal.invariant-loop-y
invariant-loop-y l = (l.y ≤ l.h) × (too_large l.o ≡ exceeds l.s l.at l.stride l.n l.y)
