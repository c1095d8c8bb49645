-- `evc_pad::pad` meets its contract: refused and untouched, or padded. Assumes nothing.
use native.Mathlib.Omega.{arith}
use Rattle.std.proofs.lemmas.Bool.Decides.{nat_tests}
use Rattle.evc_def.specs.Codes.{first_of}
use Rattle.evc_def.proofs.Refusals.{above_0}
use Rattle.evc_pad.specs.Padding.{pad_code, pad_after}
use Rattle.evc_pad.proofs.pad.Goals as goal

pub returns-in_err-pic-clause-plane_after : goal.returns-in_err-pic-clause-plane_after
unfolding pad_after
returns-in_err-pic-clause-plane_after c = grind (arith, nat_tests, above_0)

pub pad_plane-requires : goal.pad_plane-requires
unfolding first_of pad_code
pad_plane-requires c = grind (arith, nat_tests)

pub returns-clause-plane_after : goal.returns-clause-plane_after
unfolding pad_after
returns-clause-plane_after c = grind (arith, nat_tests)
