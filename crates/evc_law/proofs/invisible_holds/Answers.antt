use Rattle.evc_law.proofs.Invisible.{invisible}
use Rattle.evc_law.proofs.invisible_holds.Goals as goal

pub returns : goal.returns
returns c = invisible
