-- `evc_trace::put_record` meets its contract. Assumes nothing.
use Rattle.std.proofs.Common.{rules, sym, ◌∙◌}
use Rattle.evc_bytes.proofs.Written.{both}
use Rattle.evc_trace.proofs.Written.{from_start}
use Rattle.evc_trace.proofs.put_record.Goals as goal

pub returns : goal.returns
returns c =
    let place = both _ _ _ _ _ c.put_u16.ensures c.put_u16-2.ensures in
    let block = both _ _ _ _ _ (both _ _ _ _ _ place c.put_u16-3.ensures) c.put_u16-4.ensures in
    let kind = both _ _ _ _ _ block c.put_u8.ensures in
    let vectors = both _ _ _ _ _ (both _ _ _ _ _ kind c.put_mv.ensures) c.put_mv-2.ensures in
    let counts = both _ _ _ _ _ (both _ _ _ _ _ vectors c.put_u16-5.ensures) c.put_u16-6.ensures in
    let bytes = both _ _ _ _ _ counts c.put_u8-2.ensures in
    let all = from_start _ _ _ _ c.new-bytes.ensures.nothing_yet bytes c.requires in
    search (rules, all, sym (bytes.same_buffer ∙ c.new-bytes.ensures.same_buffer))
