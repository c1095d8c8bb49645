-- `evc_blocks::sample_rows` meets its contract. The invariant: the first y rows are written. Assumes nothing.
use Prim.Native.Nat.{ℕ, ◌+◌, ◌-◌, ◌*◌}
use Rattle.evc_blocks.proofs.Rows.{Written}
use Rattle.evc_blocks.proofs.sample_rows.Given as goal

abbrev pub invariant-loop-y : goal.invariant-loop-y
invariant-loop-y g l = Written l.initial.d l.to.at l.to.stride g.row.N l.h (λ (i x : ℕ). g.S.Stage.value l.s (l.from.at + i * l.from.stride + x) l.f.offsets l.f.taps) l.d l.y

abbrev pub decreases-loop-y : goal.decreases-loop-y
decreases-loop-y g l = l.h - l.y
