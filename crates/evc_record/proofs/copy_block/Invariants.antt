-- `evc_record::copy_block` meets its contract. The invariant: the first y rows are written. Assumes nothing.
use Prim.Native.Nat.{ℕ, ◌+◌, ◌-◌, ◌*◌, ◌≤◌}
use mathlib.Core.Path.{◌≡◌}
use lib.ListN.{length, get_or}
use Rattle.evc_int.specs.Lists.{with_block}
use Rattle.evc_record.proofs.copy_block.Given as goal

abbrev pub invariant-loop-y : goal.invariant-loop-y
invariant-loop-y l = (l.y ≤ l.h) × (length l.d ≡ length l.initial.d) × (l.d ≡ with_block l.initial.d l.to l.stride l.w l.y (λ (i x : ℕ). get_or l.s (l.at + i * l.w + x) 0))

abbrev pub decreases-loop-y : goal.decreases-loop-y
decreases-loop-y l = l.h - l.y
