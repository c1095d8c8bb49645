-- `evc_interp::pel` meets its contract. Assumes nothing.
use mathlib.Core.Path.{sym, ap, ◌∙◌}
use lib.Signed.{shr_z}
use Rattle.evc_filter.specs.Filter.{phases}
use Rattle.evc_plane.specs.declared.PlaneType.{PlaneType}
use Rattle.evc_interp.specs.Prediction.{pel_of}
use Rattle.evc_interp.proofs.pel.Goals as goal

pub returns-in-Y : goal.returns-in-Y
unfolding pel_of
returns-in-Y c = let z = c.args.z.0 in c.pel.ensures ∙ sym (ap (λ (t : PlaneType). shr_z z (phases t)) c.in-Y.is)

pub returns-in-UV : goal.returns-in-UV
unfolding pel_of
returns-in-UV c = let z = c.args.z.0 in c.chroma_pel.ensures ∙ sym (ap (λ (t : PlaneType). shr_z z (phases t)) c.in-UV.is)
