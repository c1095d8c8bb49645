-- `evc_samples::or_strips` meets its contract. The invariant: o stands for the last sixteen columns and the first k strips. Assumes nothing.
use Prim.Native.Nat.{◌+◌, ◌*◌, ◌-◌}
use mathlib.Core.Bool.{◌||◌}
use mathlib.Core.Path.{◌≡◌}
use Rattle.evc_samples.specs.Samples.{too_large, exceeds}
use Rattle.evc_samples.proofs.or_strips.Given as goal

abbrev pub invariant-loop-k : goal.invariant-loop-k
invariant-loop-k l = too_large l.o ≡ exceeds l.s (l.at + l.n - 16) l.stride 16 l.h || exceeds l.s l.at l.stride (16 * l.k) l.h
