-- `mv_clip_text::put_decimal`: four digits and the last one, each behind the one before.
use Rattle.mv_clip_text.specs.Decimal.{decimal}
use Rattle.mv_clip_text.proofs.Wrote.{wrote_both}
use Rattle.mv_clip_text.proofs.put_decimal.Goals as goal

pub returns-clause-wrote : goal.returns-clause-wrote
unfolding decimal
returns-clause-wrote c =
    let w₂ = wrote_both c.put_digit-thousands.ensures.wrote c.put_digit-hundreds.ensures.wrote in
    let w₄ = wrote_both (wrote_both w₂ c.put_digit-tens.ensures.wrote) c.put_digit-ones.ensures.wrote in
    wrote_both w₄ c.put.ensures
