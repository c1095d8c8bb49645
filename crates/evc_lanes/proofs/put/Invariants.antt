-- `evc_lanes::put` meets its contract. The invariant: the first x numbers are written. Assumes nothing.
use Prim.Native.Nat.{ℕ, ◌≤◌}
use mathlib.Core.Path.{◌≡◌}
use lib.ListN.{length, get_or}
use Rattle.evc_int.specs.Lists.{with_row}
use Rattle.evc_lanes.proofs.put.Given as goal

abbrev pub invariant-loop-x : goal.invariant-loop-x
invariant-loop-x g l = (l.x ≤ g.row.N) × (length l.d ≡ length l.initial.d) × (l.d ≡ with_row l.initial.d l.to l.x (λ (i : ℕ). get_or l.numbers i 0))
