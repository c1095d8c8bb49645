-- Refusals: none has the number 0. Assumes nothing.
use mathlib.Core.Path.{◌≡◌}
use Prim.Native.Nat.{◌<◌}
use native.Mathlib.Omega.{arith}
use Rattle.evc_def.specs.Refusals.{number_of}
use Rattle.evc_def.specs.declared.refusal.Refusal.{Refusal}
use Rattle.evc_def.specs.declared.refusal.Refusal.TheVariants.{Picture, Block, List, Buffer, OrderCount, Sample, Neighbour, Mark, Incomplete, Record, Slice}

pub above_0 : (r : Refusal) → 0 < number_of r
above_0 Picture = omega arith
above_0 Block = omega arith
above_0 List = omega arith
above_0 Buffer = omega arith
above_0 OrderCount = omega arith
above_0 Sample = omega arith
above_0 Neighbour = omega arith
above_0 Mark = omega arith
above_0 Incomplete = omega arith
above_0 Record = omega arith
above_0 Slice = omega arith

pub not_0 : (r : Refusal) → number_of r ≡ 0 → ⊥
not_0 r e = let p = above_0 r in absurd (omega arith)
