-- What the checks of a direct call leave, and its answer: the number and zeros, or the vectors. Assumes nothing.
use mathlib.Core.Bool.{Bool, false, cond, ◌||◌}
use mathlib.Core.List.{List}
use mathlib.Core.Path.{◌≡◌, sym}
use Prim.Native.Nat.{◌≤◌}
use borrow.Author.Tests.{ne_eqb, ltb-false}
use lib.Dec.{ltb}
use lib.IntN.{ℤ, pos}
use lib.ListN.{length}
use Rattle.std.proofs.lemmas.Bool.{or_parts}
use Rattle.evc_def.specs.Blocks.{max_poc}
use Rattle.evc_def.specs.Codes.{first_of}
use Rattle.evc_def.specs.declared.EvcBlock.{EvcBlock}
use Rattle.evc_def.specs.declared.EvcMv.{EvcMv}
use Rattle.evc_def.specs.Refusals.{number_of}
use Rattle.evc_def.specs.declared.refusal.Refusal.{Refusal}
use Rattle.evc_def.proofs.Refusals.{not_0}
use Rattle.std.proofs.Common.{Err}
use Rattle.evc_map.specs.Maps.{mv_at, scup}
use Rattle.evc_direct.specs.Direct.{poc_too_large, direct_checks, collocated, direct_vectors, get_mv_dir, answer_of}
use Rattle.evc_direct.specs.declared.EvcDirect.{EvcDirect}
use Rattle.evc_direct.specs.declared.Pocs.{Pocs}

pub counts : (p : Pocs) → poc_too_large p ≡ false → (p.poc ≤ max_poc) × (p.poc0 ≤ max_poc) × (p.poc1 ≤ max_poc) × (p.list_poc0 ≤ max_poc)
unfolding poc_too_large
counts p e =
    let f = or_parts (ltb max_poc p.poc || ltb max_poc p.poc0 || ltb max_poc p.poc1) (ltb max_poc p.list_poc0) e in
    let g = or_parts (ltb max_poc p.poc || ltb max_poc p.poc0) (ltb max_poc p.poc1) f.0 in
    let h = or_parts (ltb max_poc p.poc) (ltb max_poc p.poc0) g.0 in
    (ltb-false _ _ h.0, ltb-false _ _ h.1, ltb-false _ _ g.1, ltb-false _ _ f.1)

module _ (b : EvcBlock) (p : Pocs) (has : Bool) (col : List ℤ) where
  pub refusal : (r : Refusal) → number_of r ≡ first_of (direct_checks b p has (length col)) → answer_of (Err r) ≡ get_mv_dir b p has col
  unfolding get_mv_dir
  refusal r e = rw (sym e, ne_eqb (number_of r) 0 (not_0 r))

  pub done : (r : EvcDirect) → first_of (direct_checks b p has (length col)) ≡ 0 → r ≡ direct_vectors p (collocated b has col) → r ≡ get_mv_dir b p has col
  unfolding get_mv_dir
  done r e q = rw e q

-- the collocated vector, or the zeros that stand for it
pub collocated_is : (b b' : EvcBlock) (has : Bool) (col : List ℤ) (z : EvcMv) → b' ≡ b → (z.x ≡ pos 0) × (z.y ≡ pos 0) → cond has (mv_at col (scup b') 0) z ≡ collocated b has col
collocated_is b b' has col z e d = rw (e, d.0, d.1)
