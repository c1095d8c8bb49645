-- `evc_def::is_accepted` meets its contract. Assumes nothing.
use native.Mathlib.Omega.{arith}
use Rattle.std.proofs.lemmas.Bool.Decides.{nat_tests}
use Rattle.evc_def.specs.Blocks.{bad_picture}
use Rattle.evc_def.proofs.Blocks.{large_enough}
use Rattle.evc_def.proofs.is_accepted.Goals as goal

pub returns : goal.returns
unfolding bad_picture
returns c = grind (arith, nat_tests, large_enough c.args.b)
