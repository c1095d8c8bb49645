-- `evc_inter::evc_mc_plane` meets its contract: `evc_interp::evc_mc_plane` at the plane type of the flag. Assumes nothing.
use mathlib.Core.Path.{ap, ◌∙◌}
use Rattle.evc_def.specs.Places.{given_place}
use Rattle.evc_plane.specs.declared.PlaneType.{PlaneType}
use Rattle.evc_interp.specs.Prediction.{mc_plane_code, mc_plane_after}
use Rattle.evc_inter.proofs.evc_mc_plane.Goals as goal

pub returns : goal.returns
returns c =
    let a = c.args in
    let e = c.plane_type-t.ensures in record { result_value = c.code.ensures ∙ c.evc_mc_plane.ensures.value ∙ ap (λ (t : PlaneType). mc_plane_code t a.pic_w a.pic_h (given_place a.gmv) a.w a.h a.plane.now a.pred.now) e; pred_after = c.evc_mc_plane.ensures.pred_after ∙ ap (λ (t : PlaneType). mc_plane_after t a.pic_w a.pic_h a.ori_mv (given_place a.gmv) a.w a.h a.plane.now a.pred.now) e }
