-- `evc_clip::mv_clip` meets its contract: refused with zeros, or clipped. Assumes nothing.
use native.Mathlib.Omega.{arith}
use Rattle.std.proofs.lemmas.Bool.Decides.{nat_tests}
use Rattle.std.proofs.lemmas.Result.{err_from_is_err_and}
use Rattle.evc_def.proofs.Refusals.{above_0}
use Rattle.evc_clip.specs.Clip.{mv_clip}
use Rattle.evc_clip.proofs.mv_clip.Goals as goal

pub returns-in_err-b : goal.returns-in_err-b
unfolding mv_clip
returns-in_err-b c =
    let p = err_from_is_err_and c.from_residual.result c.from_residual.ensures.1 in
    rw (p.1, p.2) (grind (arith, nat_tests, above_0))

pub returns : goal.returns
unfolding mv_clip
returns c = grind (arith, nat_tests)
