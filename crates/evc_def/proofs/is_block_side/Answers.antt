-- `evc_def::is_block_side` meets its contract. Assumes nothing.
use Rattle.evc_def.proofs.SideBits.{sides}
use Rattle.evc_def.proofs.is_block_side.Goals as goal

pub returns : goal.returns
returns c = sides c.args.n
