-- `evc_interp::phase` meets its contract. Assumes nothing.
use mathlib.Core.Path.{sym, ap, ◌∙◌}
use Rattle.evc_int.specs.Whole.{◌modulo◌}
use Rattle.evc_filter.specs.Filter.{phases}
use Rattle.evc_plane.specs.declared.PlaneType.{PlaneType}
use Rattle.evc_interp.specs.Prediction.{phase_of}
use Rattle.evc_interp.proofs.phase.Goals as goal

pub returns-in-Y : goal.returns-in-Y
unfolding phase_of
returns-in-Y c = let z = c.args.z.0 in c.phase.ensures ∙ sym (ap (λ (t : PlaneType). z modulo phases t) c.in-Y.is)

pub returns-in-UV : goal.returns-in-UV
unfolding phase_of
returns-in-UV c = let z = c.args.z.0 in c.chroma_phase.ensures ∙ sym (ap (λ (t : PlaneType). z modulo phases t) c.in-UV.is)
