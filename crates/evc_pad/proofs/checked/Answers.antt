-- `evc_pad::checked` meets its contract: each return is at the first check that refuses. Assumes nothing.
use native.Mathlib.Omega.{arith}
use lib.ListN.{length}
use Rattle.std.proofs.lemmas.Bool.Decides.{nat_tests}
use Rattle.std.proofs.lemmas.Result.{err_from_is_err_and}
use Rattle.evc_def.specs.Codes.{first_of}
use Rattle.evc_def.proofs.Refusals.{above_0}
use Rattle.evc_plane.specs.Planes.{config_of}
use Rattle.evc_plane.proofs.Sizes.{room}
use Rattle.evc_pad.specs.Padding.{pad_code}
use Rattle.evc_pad.proofs.checked.Goals as goal

pub returns-in_err-pic-clause-code : goal.returns-in_err-pic-clause-code
unfolding first_of pad_code
returns-in_err-pic-clause-code c =
    let x = err_from_is_err_and c.from_residual.result c.from_residual.ensures.1 in
    rw (x.1, x.2) (grind (arith, nat_tests, above_0))

pub returns-then-plane-plane_len-clause-code : goal.returns-then-plane-plane_len-clause-code
unfolding first_of pad_code
returns-then-plane-plane_len-clause-code c = grind (arith, nat_tests)

pub returns-then-exceeds-clause-code : goal.returns-then-exceeds-clause-code
unfolding first_of pad_code config_of
returns-then-exceeds-clause-code c = grind (arith, nat_tests)

pub returns-clause-code : goal.returns-clause-code
unfolding first_of pad_code config_of
returns-clause-code c = grind (arith, nat_tests)

pub overflow_mul-c : goal.overflow_mul-c
overflow_mul-c c = omega (arith, room _ _ _ _ (length c.args.plane.now) c.plane_config-c.ensures c.in_ok-pic.pic.accepted (omega (arith, c.plane_len.ensures)))

pub overflow_add-c : goal.overflow_add-c
overflow_add-c c = omega (arith, room _ _ _ _ (length c.args.plane.now) c.plane_config-c.ensures c.in_ok-pic.pic.accepted (omega (arith, c.plane_len.ensures)))

pub exceeds-requires : goal.exceeds-requires
exceeds-requires c = omega (arith, room _ _ _ _ (length c.args.plane.now) c.plane_config-c.ensures c.in_ok-pic.pic.accepted (omega (arith, c.plane_len.ensures)))
