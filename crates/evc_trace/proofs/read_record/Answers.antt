-- `evc_trace::read_record` meets its contract. Assumes nothing.
use Rattle.evc_trace.specs.Format.{record_of}
use Rattle.evc_trace.proofs.read_record.Goals as goal

pub returns : goal.returns
unfolding record_of
returns c = simp (c.new-bytes.ensures.0, c.new-bytes.ensures.1, c.take_u16.ensures.value, c.take_u16.ensures.moved, c.take_u16-2.ensures.value, c.take_u16-2.ensures.moved, c.take_u16-3.ensures.value, c.take_u16-3.ensures.moved, c.take_u16-4.ensures.value, c.take_u16-4.ensures.moved, c.take_u8.ensures.value, c.take_u8.ensures.moved, c.take_mv.ensures.value, c.take_mv.ensures.moved, c.take_mv-2.ensures.value, c.take_mv-2.ensures.moved, c.take_u16-5.ensures.value, c.take_u16-5.ensures.moved, c.take_u16-6.ensures.value)
