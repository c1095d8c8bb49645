-- `evc_paths::groups` meets its contract. The invariant: the first groups of eight columns are written. Assumes nothing.
use Prim.Native.Nat.{ℕ, ◌+◌, ◌*◌, ◌/◌, ◌≤◌}
use mathlib.Core.Path.{◌≡◌}
use lib.ListN.{length}
use Rattle.evc_int.specs.Lists.{with_block}
use Rattle.evc_filter.specs.Filter.{interpolated_twice}
use Rattle.evc_paths.proofs.groups.Given as goal

abbrev pub invariant-loop-group : goal.invariant-loop-group
invariant-loop-group g l =
    (l.group ≤ l.w / 8) × (length l.intermediate ≡ g.row.N) × (length l.pred ≡ length l.initial.pred) × (l.pred ≡ with_block l.initial.pred 0 l.w (8 * l.group) l.h (λ (y x : ℕ). interpolated_twice l.t l.dx l.dy l.window.plane.now (l.window.at + y * l.window.stride + x) l.window.stride))
