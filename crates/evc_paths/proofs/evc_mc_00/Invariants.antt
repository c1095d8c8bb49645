-- `evc_paths::evc_mc_00` meets its contract. The invariant: the first y rows are written. Assumes nothing.
use Prim.Native.Nat.{ℕ, ◌+◌, ◌-◌, ◌*◌, ◌≤◌}
use mathlib.Core.Path.{◌≡◌}
use lib.ListN.{length, get_or}
use Rattle.evc_int.specs.Lists.{with_block}
use Rattle.evc_paths.proofs.evc_mc_00.Given as goal

abbrev pub invariant-loop-y : goal.invariant-loop-y
invariant-loop-y l = (l.y ≤ l.h) × (length l.pred ≡ length l.initial.pred) × (l.pred ≡ with_block l.initial.pred 0 l.w l.w l.y (λ (i x : ℕ). get_or l.window.plane.now (l.window.at + i * l.window.stride + x) 0))

abbrev pub decreases-loop-y : goal.decreases-loop-y
decreases-loop-y l = l.h - l.y
