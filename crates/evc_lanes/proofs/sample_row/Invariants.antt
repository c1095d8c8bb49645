-- `evc_lanes::sample_row` meets its contract. The invariant: the first x samples are made. Assumes nothing.
use Prim.Native.Nat.{ℕ, ◌+◌, ◌<◌, ◌≤◌}
use mathlib.Core.Path.{◌≡◌}
use lib.ListN.{length, get_or}
use Rattle.evc_lanes.proofs.sample_row.Given as goal

abbrev pub invariant-loop-x : goal.invariant-loop-x
invariant-loop-x g l = (l.x ≤ g.row.N) × (length l.made ≡ g.row.N) × ((i : ℕ) → i < l.x → get_or l.made i 0 ≡ g.S.Stage.value l.s (l.at + i) l.f.offsets l.f.taps)
