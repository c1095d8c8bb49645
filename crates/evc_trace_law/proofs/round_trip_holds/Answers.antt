use Rattle.evc_trace_law.proofs.RoundTrip.{round_trip}
use Rattle.evc_trace_law.proofs.round_trip_holds.Goals as goal

pub returns : goal.returns
returns c = round_trip
