-- Without a collocated map its numbers do not count. Assumes nothing.
use mathlib.Core.Bool.{Bool, true, false, cond}
use mathlib.Core.List.{List, []}
use mathlib.Core.Path.{◌≡◌, refl}
use lib.IntN.{ℤ}
use Rattle.evc_def.specs.declared.EvcBlock.{EvcBlock}
use Rattle.evc_direct.specs.Direct.{get_mv_dir}
use Rattle.evc_direct.specs.declared.Pocs.{Pocs}

pub absent : (b : EvcBlock) (p : Pocs) (has : Bool) (col : List ℤ) → get_mv_dir b p has (cond has col []) ≡ get_mv_dir b p has col
unfolding get_mv_dir
absent b p true col = refl
absent b p false col = refl
