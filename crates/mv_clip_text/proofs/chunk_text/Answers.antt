-- `mv_clip_text::chunk_text`: the lines of the records passed, and one more for an incomplete last record.
use Rattle.std.proofs.Common.{rules, arith, ◌≡◌, ◌∙◌, ap, ℕ, List, [], length, get_or}
use Rattle.mv_clip_text.specs.Records.{answer_at}
use Rattle.mv_clip_text.proofs.Chunks.{nothing_yet, one_more, whole, with_last}
use Rattle.mv_clip_text.proofs.chunk_text.Goals as goal

pub loop-record-init : goal.loop-record-init
loop-record-init c = record { bounded = omega arith; wrote = nothing_yet _ _ }

pub loop-record-preserved : goal.loop-record-preserved
loop-record-preserved c = record {
  bounded = omega arith;
  wrote =
      one_more _ _ _ _ _ c.loop-record.invariant.wrote _ _ _ _
      (omega (arith, c.loop-record-test.true, c.as_chunks.ensures.front_len))
      (c.answer.ensures.value ∙ ap (λ (w : List (List ℕ)). answer_at (get_or w c.loop-record.record-index []) 0) c.as_chunks.ensures.front)
      c.put_line-at.ensures.wrote;
}

pub returns-then-is_empty : goal.returns-then-is_empty
returns-then-is_empty c =
    let none : length c.as_chunks.result.1.now ≡ 0 = search rules in
    whole _ _ _ _ _ c.loop-record.invariant.wrote (omega (arith, c.as_chunks.ensures.front_len)) (omega (arith, none, c.as_chunks.ensures.back_len))

pub returns : goal.returns
returns c =
    let some : length c.as_chunks.result.1.now ≡ 0 → ⊥ = search rules in
    with_last _ _ _ _ _ c.loop-record.invariant.wrote _ _ _ c.from.ensures (omega (arith, c.as_chunks.ensures.front_len)) (λ z. some (omega (arith, z, c.as_chunks.ensures.back_len))) c.put_line.ensures.wrote
