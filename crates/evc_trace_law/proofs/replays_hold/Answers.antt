use Rattle.evc_trace_law.proofs.Replays.{replays}
use Rattle.evc_trace_law.proofs.replays_hold.Goals as goal

pub returns : goal.returns
returns c = replays
