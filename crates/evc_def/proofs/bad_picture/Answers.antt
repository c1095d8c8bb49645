-- `evc_def::bad_picture` meets its contract. Assumes nothing.
use Rattle.evc_def.specs.Blocks.{bad_picture}
use Rattle.evc_def.proofs.bad_picture.Goals as goal

pub returns : goal.returns
unfolding bad_picture
returns c = cc
