use Rattle.evc_law.proofs.Edges.{edges}
use Rattle.evc_law.proofs.edges_hold.Goals as goal

pub returns : goal.returns
returns c = edges
