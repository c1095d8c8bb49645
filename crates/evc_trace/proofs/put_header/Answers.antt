-- `evc_trace::put_header` meets its contract. Assumes nothing.
use Rattle.std.proofs.Common.{rules, sym, ◌∙◌}
use Rattle.evc_bytes.proofs.Written.{both}
use Rattle.evc_trace.proofs.Written.{from_start}
use Rattle.evc_trace.proofs.put_header.Goals as goal

pub returns : goal.returns
returns c =
    let letters = both _ _ _ _ _ (both _ _ _ _ _ c.put_u8.ensures c.put_u8-2.ensures) c.put_u8-3.ensures in
    let mark = both _ _ _ _ _ letters c.put_u16.ensures in
    let sides = both _ _ _ _ _ (both _ _ _ _ _ mark c.put_u16-2.ensures) c.put_u16-3.ensures in
    let counts = both _ _ _ _ _ (both _ _ _ _ _ sides c.put_u16-4.ensures) c.put_u16-5.ensures in
    let all = from_start _ _ _ _ c.new-bytes.ensures.nothing_yet counts c.requires in
    search (rules, all, sym (counts.same_buffer ∙ c.new-bytes.ensures.same_buffer))
