-- `evc_bytes::Writer::put_u16` meets its contract. Assumes nothing.
use Rattle.evc_bytes.proofs.Written.{both}
use Rattle.evc_bytes.proofs.Writer.put_u16.Goals as goal

pub returns : goal.returns
returns c = simp (c.to_le_bytes.ensures) at (both _ _ _ _ _ c.put_u8.ensures c.put_u8-2.ensures)
