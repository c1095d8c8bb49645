-- Without a collocated map its numbers do not count. Assumes nothing.
use mathlib.Core.Bool.{Bool, true, false, cond}
use mathlib.Core.List.{List, []}
use mathlib.Core.Path.{◌≡◌, refl}
use Prim.Native.Nat.{ℕ}
use lib.IntN.{ℤ}
use Rattle.evc_def.specs.declared.EvcBlock.{EvcBlock}
use Rattle.evc_motion.specs.Candidates.{maps_short, candidates, get_motion}
use Rattle.evc_motion.specs.declared.EvcCandidates.{EvcCandidates}

pub absent : (b : EvcBlock) (lidx avail : ℕ) (map : List ℤ) (has : Bool) (col : List ℤ) (old : EvcCandidates) → get_motion b lidx avail map has (cond has col []) old ≡ get_motion b lidx avail map has col old
unfolding get_motion candidates maps_short
absent b lidx avail map true col old = refl
absent b lidx avail map false col old = refl
