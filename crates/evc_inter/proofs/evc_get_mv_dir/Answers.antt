-- `evc_inter::evc_get_mv_dir` meets its contract. Assumes nothing.
use mathlib.Core.Bool.{Bool}
use mathlib.Core.List.{List}
use mathlib.Core.Path.{ap₂, ◌∙◌}
use lib.IntN.{ℤ}
use Rattle.evc_direct.specs.Direct.{get_mv_dir}
use Rattle.evc_direct.specs.declared.Pocs.{Pocs}
use Rattle.evc_direct.proofs.Absent.{absent}
use Rattle.evc_inter.proofs.evc_get_mv_dir.Goals as goal

pub returns : goal.returns
returns c =
    let a = c.args in
    let p : Pocs = record { poc = a.poc; poc0 = a.poc0; poc1 = a.poc1; list_poc0 = a.list_poc0 } in
    let m = c.collocated.ensures in
    c.from.ensures ∙ c.get_mv_dir.ensures ∙ ap₂ (λ (has : Bool) (col : List ℤ). get_mv_dir a.block p has col) m.0 m.1 ∙ absent a.block p a.has_col a.col_mv.now
