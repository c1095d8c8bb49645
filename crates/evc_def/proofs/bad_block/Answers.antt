-- `evc_def::bad_block` meets its contract. Assumes nothing.
use native.Mathlib.Omega.{arith}
use Rattle.evc_def.specs.Blocks.{bad_block}
use Rattle.evc_def.proofs.bad_block.Goals as goal

pub returns : goal.returns
unfolding bad_block
returns c = grind arith
