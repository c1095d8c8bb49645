-- `evc_camera::camera_motion` meets its contract: 1, then 4, or the reading. Assumes nothing.
use native.Mathlib.Omega.{arith}
use Rattle.std.proofs.lemmas.Bool.Decides.{nat_tests}
use Rattle.std.proofs.lemmas.Result.{err_from_is_err_and}
use Rattle.evc_def.specs.Codes.{first_of}
use Rattle.evc_def.proofs.Refusals.{above_0}
use Rattle.evc_camera.specs.Camera.{camera_motion}
use Rattle.evc_camera.proofs.camera_motion.Goals as goal

pub returns-in_err-pic : goal.returns-in_err-pic
unfolding camera_motion first_of
returns-in_err-pic c =
    let p = err_from_is_err_and c.from_residual.result c.from_residual.ensures.1 in
    rw (p.1, p.2) (grind (arith, nat_tests, above_0))

pub returns-then-map_short-words_short : goal.returns-then-map_short-words_short
unfolding camera_motion first_of
returns-then-map_short-words_short c = grind (arith, nat_tests)

pub returns : goal.returns
unfolding camera_motion first_of
returns c = grind (arith, nat_tests)
