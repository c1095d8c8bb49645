-- `evc_trace::put_mv` meets its contract. Assumes nothing.
use Rattle.std.proofs.Common.{rules, w16, SFits, to_z-of_z}
use Rattle.evc_bytes.proofs.Written.{both}
use Rattle.evc_trace.proofs.put_mv.Goals as goal

pub returns : goal.returns
returns c =
    let x : SFits w16 c.args.mv.x = search rules in
    let y : SFits w16 c.args.mv.y = search rules in
    simp (to_z-of_z x, to_z-of_z y) at (both _ _ _ _ _ c.put_i16.ensures c.put_i16-2.ensures)
