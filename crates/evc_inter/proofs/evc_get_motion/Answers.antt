-- `evc_inter::evc_get_motion` meets its contract: what `get_motion` gives over the record lent. Assumes nothing.
use mathlib.Core.Bool.{Bool}
use mathlib.Core.List.{List}
use mathlib.Core.Path.{ap, ap₂, ◌∙◌}
use lib.IntN.{ℤ}
use Rattle.evc_motion.specs.Candidates.{Motion, get_motion}
use Rattle.evc_motion.proofs.Absent.{absent}
use Rattle.evc_inter.proofs.evc_get_motion.Goals as goal

pub returns-in-Ok : goal.returns-in-Ok
returns-in-Ok c =
    let a = c.args in
    let m = c.collocated-map_col.ensures in
    let e = c.in-Ok.ensures ∙ ap₂ (λ (has : Bool) (col : List ℤ). get_motion a.block a.lidx a.avail a.map_mv.now has col a.cand.now) m.0 m.1 ∙ absent a.block a.lidx a.avail a.map_mv.now a.has_col a.col_mv.now a.cand.now in
    record { code = ap (λ (m : Motion). m.code) e; record_after = ap (λ (m : Motion). m.cand) e }

pub returns-in-Err : goal.returns-in-Err
returns-in-Err c =
    let a = c.args in
    let m = c.collocated-map_col.ensures in
    let e = c.in-Err.ensures ∙ ap₂ (λ (has : Bool) (col : List ℤ). get_motion a.block a.lidx a.avail a.map_mv.now has col a.cand.now) m.0 m.1 ∙ absent a.block a.lidx a.avail a.map_mv.now a.has_col a.col_mv.now a.cand.now in
    record { code = c.number.ensures ∙ ap (λ (m : Motion). m.code) e; record_after = ap (λ (m : Motion). m.cand) e }
