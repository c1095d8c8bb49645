-- `evc_bytes::Writer::put_u8` meets its contract. Assumes nothing.
use Rattle.std.proofs.Common.{refl, length-set}
use Rattle.evc_bytes.proofs.Written.{stored}
use Rattle.evc_bytes.proofs.Writer.put_u8.Goals as goal

pub returns : goal.returns
returns c = record {
  same_buffer = refl;
  put = stored _ _ _;
  same_length = length-set _ _ _;
  behind = refl;
}
