-- `evc_samples::or_lanes` meets its contract. The invariant: the lanes stand for the first y rows. Assumes nothing.
use Prim.Native.Nat.{◌≤◌}
use mathlib.Core.Path.{◌≡◌}
use lib.ListN.{length}
use Rattle.std.specs.List.{list_any}
use Rattle.evc_samples.specs.Samples.{too_large, exceeds}
use Rattle.evc_samples.proofs.or_lanes.Given as goal

abbrev pub invariant-loop-y : goal.invariant-loop-y
invariant-loop-y g l = (l.y ≤ l.h) × (length l.o ≡ g.row.N) × (list_any too_large l.o ≡ exceeds l.s l.at l.stride l.n l.y)
