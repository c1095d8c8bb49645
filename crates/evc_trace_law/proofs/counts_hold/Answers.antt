use Rattle.evc_trace_law.proofs.Counts.{moved_counts}
use Rattle.evc_trace_law.proofs.counts_hold.Goals as goal

pub returns : goal.returns
returns c = moved_counts
