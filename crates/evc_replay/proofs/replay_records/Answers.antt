-- `evc_replay::replay_records` meets its contract. Assumes nothing.
use mathlib.Core.List.{List}
use mathlib.Core.Path.{sym, ap, subst, ◌∙◌}
use Prim.Native.Nat.{ℕ, ◌+◌, ◌*◌, min}
use native.Mathlib.Omega.{arith}
use lib.ListN.{length, length-append, length-drop}
use Rattle.std.proofs.lemmas.List.{take_rest}
use Rattle.std.specs.declared.slice.Chunks.{Chunks}
use Rattle.evc_def.proofs.Refusals.{not_0}
use Rattle.evc_mc.specs.declared.EvcPredicted.{EvcPredicted}
use Rattle.evc_counts.specs.Counts.{◌plus◌}
use Rattle.evc_counts.specs.Inner.{AtMost}
use Rattle.evc_counts.specs.declared.MovedCounts.{MovedCounts}
use Rattle.evc_counts.proofs.Counts.{nothing_plus, lists_most, most_less, at_most}
use Rattle.evc_record.specs.Record.{target_of, source_of}
use Rattle.evc_replay.specs.Replay.{records_from, applied}
use Rattle.evc_replay.proofs.Counts.{counts_over, counted_on, counted_stop, counted_end, none_is}
use Rattle.evc_replay.proofs.Records.{with_target, left, next_chunk, no_more, complete, went_on, stopped, ended, still_long, all_same, still_same}
use Rattle.evc_replay.proofs.replay_records.Goals as goal

pub loop-record-init : goal.loop-record-init
loop-record-init c =
    let a = c.args in
    let from = source_of a.from.now in
    let it = c.into_iter-record-iterator.ensures.into_iter_gives in
    let e = ap (λ (i : Chunks ℕ). i.rest.now) it ∙ c.chunks-record-items.ensures.rest ∙ take_rest a.trace.now 13 in
    let whole = ap (λ (s : List ℕ). records_from s 0) e ∙ sym (left a.trace.now 13) in
    let n = none_is c.default-counts.result c.default-counts.ensures in (
      ap (λ (i : Chunks ℕ). i.size) it ∙ c.chunks-record-items.ensures.size,
      omega (arith, ap length e, length-drop 13 a.trace.now),
      c.requires.long_enough,
      all_same a.target.now,
      ap (λ (l : List (List ℕ)). applied from l 0 (target_of a.target.now)) whole,
      at_most 0 _ n,
      ap (λ (d : MovedCounts). d plus counts_over from (records_from c.into_iter-record-iterator.result.rest.now 0)) n ∙ nothing_plus _ ∙ ap (counts_over from) whole,
    )

pub returns-in-Err : goal.returns-in-Err
returns-in-Err c =
    let a = c.args in
    let i = c.loop-record.invariant in
    let l = c.loop-record in
    let from = source_of a.from.now in
    let s = c.in-Some.ensures.steps in
    let bytes = c.in-Some.record.now in
    let rest = c.next.new.self.rest.now in
    let chunk = sym (next_chunk l.record-iterator.rest.now bytes rest s.1.0 (s.1.1 ∙ ap (λ (n : ℕ). min n (length l.record-iterator.rest.now)) i.0) s.1.2) in
    let number = ap (λ (p : EvcPredicted). p.code) c.in-Err.ensures.result_value in
    let n = c.answer.ensures in
    record {
      target_after =
          with_target _ _ _ n.0 ∙ stopped from bytes (records_from rest 0) l.index (target_of l.target) _ c.in-Err.ensures.target_after _ number (not_0 _)
          ∙ ap (λ (r : List (List ℕ)). applied from r l.index (target_of l.target)) chunk ∙ i.4;
      counts =
          n.1 ∙ counted_stop from l.counts bytes (records_from rest 0) _ number (not_0 _)
          ∙ ap (λ (r : List (List ℕ)). l.counts plus counts_over from r) chunk ∙ i.6;
      same_planes = still_same _ _ _ i.3 c.in-Err.ensures.same_planes;
    }

pub with_lists-counts-requires : goal.with_lists-counts-requires
with_lists-counts-requires c = let i = c.loop-record.invariant in most_less (2 * c.loop-record.index) _ _ (let k = i.1 in omega arith) i.5

pub loop-record-preserved : goal.loop-record-preserved
loop-record-preserved c =
    let a = c.args in
    let i = c.loop-record.invariant in
    let l = c.loop-record in
    let from = source_of a.from.now in
    let h = a.from.now.header in
    let s = c.in-Some.ensures.steps in
    let bytes = c.in-Some.record.now in
    let rest = c.next.new.self.rest.now in
    let chunk = sym (next_chunk l.record-iterator.rest.now bytes rest s.1.0 (s.1.1 ∙ ap (λ (n : ℕ). min n (length l.record-iterator.rest.now)) i.0) s.1.2) in
    let z = sym (ap (λ (p : EvcPredicted). p.code) c.in-Ok.ensures.result_value) in
    let t = target_of l.target in
    let after = c.in-Ok.ensures.target_after in (
      s.0 ∙ i.0,
      omega (arith, i.1, complete from bytes (records_from rest 0) l.index t z, ap length s.1.0, length-append bytes rest),
      rw after (still_long from bytes t h.pic_w h.pic_h ∙ i.2),
      still_same _ _ _ i.3 c.in-Ok.ensures.same_planes,
      went_on from bytes (records_from rest 0) l.index t _ after z ∙ ap (λ (r : List (List ℕ)). applied from r l.index t) chunk ∙ i.4,
      most_less (2 * l.index + 2) _ _ (omega arith) (subst (AtMost (2 * l.index + 2)) (sym c.with_lists-counts.ensures) (lists_most (2 * l.index) l.counts _ _ i.5)),
      counted_on from l.counts bytes (records_from rest 0) z _ c.in-Ok.ensures.result_value _ (simp (c.from-moved0.ensures, c.from-moved1.ensures) at c.with_lists-counts.ensures) ∙ ap (λ (r : List (List ℕ)). l.counts plus counts_over from r) chunk ∙ i.6,
    )

pub returns : goal.returns
returns c =
    let a = c.args in
    let i = c.loop-record.invariant in
    let l = c.loop-record in
    let from = source_of a.from.now in
    let e = c.in-None.ensures.steps.1.0 in
    let n = c.answer-2.ensures in
    record {
      target_after = with_target _ _ _ n.0 ∙ ended from l.record-iterator.rest.now 0 l.index (target_of l.target) (omega (arith, e)) ∙ i.4;
      counts = n.1 ∙ counted_end from l.counts ∙ ap (λ (r : List (List ℕ)). l.counts plus counts_over from r) (sym (no_more l.record-iterator.rest.now 0 (omega (arith, e)))) ∙ i.6;
      same_planes = i.3;
    }
