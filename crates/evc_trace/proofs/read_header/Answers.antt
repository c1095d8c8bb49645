-- `evc_trace::read_header` meets its contract. Assumes nothing.
use Rattle.std.proofs.Common.{arith}
use Rattle.evc_trace.specs.Format.{header_of}
use Rattle.evc_trace.proofs.read_header.Goals as goal

pub returns : goal.returns
unfolding header_of
returns c = grind arith
