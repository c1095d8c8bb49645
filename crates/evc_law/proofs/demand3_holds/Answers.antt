use Rattle.evc_law.proofs.Theorems.{demand3}
use Rattle.evc_law.proofs.demand3_holds.Goals as goal

pub returns : goal.returns
returns c = demand3
