use Rattle.evc_law.proofs.Witness.{premises_met}
use Rattle.evc_law.proofs.premises_met.Goals as goal

pub returns : goal.returns
returns c = premises_met
