-- `mv_clip_text::put_line`: a number and two components, with what stands between and behind them.
use Rattle.std.proofs.Common.{rules, arith, w16, SFits, to_z-of_z}
use Rattle.mv_clip_text.specs.Records.{line}
use Rattle.mv_clip_text.proofs.Wrote.{wrote_both}
use Rattle.mv_clip_text.proofs.put_line.Goals as goal

pub returns-clause-wrote : goal.returns-clause-wrote
unfolding line
returns-clause-wrote c =
    let x : SFits w16 c.args.a.mv.x = search rules in
    let y : SFits w16 c.args.a.mv.y = search rules in
    let w₁ = wrote_both c.put_decimal-after_code.ensures.wrote c.put-x.ensures in
    let w₃ = wrote_both (wrote_both w₁ c.put_signed-after_x.ensures.wrote) c.put-y.ensures in
    simp (to_z-of_z x, to_z-of_z y) at (wrote_both (wrote_both w₃ c.put_signed-after_y.ensures.wrote) c.put.ensures)

pub returns-clause-longest : goal.returns-clause-longest
returns-clause-longest c =
    let w = returns-clause-wrote c in
    omega (arith, w.ends)
