-- `evc_paths::evc_mc_one` meets its contract. The invariant: the first groups of eight columns are written. Assumes nothing.
use Prim.Native.Nat.{ℕ, ◌+◌, ◌*◌, ◌/◌, ◌≤◌}
use mathlib.Core.Path.{◌≡◌}
use lib.ListN.{length}
use Rattle.evc_int.specs.Lists.{with_block}
use Rattle.evc_filter.specs.Inner.{single_at}
use Rattle.evc_paths.proofs.evc_mc_one.Given as goal

abbrev pub invariant-loop-group : goal.invariant-loop-group
invariant-loop-group l =
    (l.group ≤ l.w / 8) × (length l.pred ≡ length l.initial.pred) × (l.pred ≡ with_block l.initial.pred 0 l.w (8 * l.group) l.h (λ (y x : ℕ). single_at l.window.plane.now (l.window.at + y * l.window.stride + x) l.f.offsets l.f.taps))
