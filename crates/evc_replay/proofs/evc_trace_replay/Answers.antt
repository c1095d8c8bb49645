-- `evc_replay::evc_trace_replay` meets its contract. Assumes nothing.
use mathlib.Core.Bool.{false}
use mathlib.Core.Path.{◌≡◌, sym, subst, ◌∙◌}
use Rattle.evc_trace.specs.declared.TraceHeader.{TraceHeader}
use Rattle.evc_record.specs.Record.{planes_of, target_of, picture_short}
use Rattle.evc_def.proofs.Refusals.{not_0}
use Rattle.evc_map.specs.Maps.{is_present, numbers_of}
use Rattle.evc_replay.proofs.Counts.{none_is}
use Rattle.evc_replay.proofs.Header.{good_header, not_begun, begun, nothing_counted_lem, counted}
use Rattle.evc_replay.proofs.Records.{with_target, all_same}
use Rattle.evc_replay.proofs.evc_trace_replay.Goals as goal

pub returns-in-Err : goal.returns-in-Err
returns-in-Err c =
    let a = c.args in
    let r = a.references.now in
    let p = planes_of r.ref0 in
    let q = planes_of r.ref1 in
    let has = is_present r.col_mv in
    let col = numbers_of r.col_mv in
    let t = target_of a.target.now in
    let e = c.in-Err.ensures.code in
    let n = c.answer.ensures in
    record {
      target_after = with_target _ _ _ n.0 ∙ not_begun a.trace.now p q has col t _ e (not_0 _);
      counts = n.1 ∙ none_is c.default.result c.default.ensures ∙ nothing_counted_lem a.trace.now p q has col t _ e (not_0 _);
      same_planes = all_same a.target.now;
    }

pub replay_records-requires : goal.replay_records-requires
replay_records-requires c =
    let a = c.args in
    let r = a.references.now in
    let t = target_of a.target.now in
    let g = good_header a.trace.now (planes_of r.ref0) (planes_of r.ref1) (is_present r.col_mv) (numbers_of r.col_mv) t (sym c.in-Ok.ensures.code) in
    record { long_enough = subst (λ (h : TraceHeader). picture_short h.pic_w h.pic_h t ≡ false) (sym c.in-Ok.ensures.value) g.1; has_header = g.0 }

pub returns : goal.returns
returns c =
    let a = c.args in
    let r = a.references.now in
    let p = planes_of r.ref0 in
    let q = planes_of r.ref1 in
    let has = is_present r.col_mv in
    let col = numbers_of r.col_mv in
    let t = target_of a.target.now in
    let z = sym c.in-Ok.ensures.code in
    let eh = sym c.in-Ok.ensures.value in
    let w = c.replay_records.ensures in
    record {
      target_after = begun a.trace.now p q has col t _ _ z eh w.target_after;
      counts = counted a.trace.now p q has col t _ _ z eh w.counts;
      same_planes = w.same_planes;
    }
