-- `evc_interp::evc_mc_plane` meets its contract: refused, or the call of its plane. Assumes nothing.
use mathlib.Core.Path.{◌≡◌, sym, ap₂, ◌∙◌}
use Rattle.evc_def.specs.Places.{given_place}
use Rattle.evc_def.specs.declared.QpelPlace.{QpelPlace}
use Rattle.evc_plane.specs.declared.PlaneType.{PlaneType}
use Rattle.evc_interp.specs.Prediction.{mc_plane_code, mc_plane_after}
use Rattle.std.proofs.lemmas.Result.{err_from_is_err_and}
use Rattle.evc_def.specs.Codes.{first_of, picture_checks}
use Rattle.evc_def.specs.Refusals.{number_of}
use Rattle.evc_def.specs.declared.refusal.Refusal.{Refusal}
use Rattle.evc_def.proofs.Codes.{stops}
use Rattle.evc_def.proofs.Refusals.{above_0, not_0}
use mathlib.Core.List.{List}
use Prim.Native.Nat.{ℕ}
use Rattle.evc_interp.proofs.Codes.{untouched}
use Rattle.evc_interp.proofs.evc_mc_plane.Goals as goal

-- a picture side is refused first
picture : (t : PlaneType) (W H : ℕ) (gmv : QpelPlace) (w h : ℕ) (s d : List ℕ) (r : Refusal) → number_of r ≡ first_of (picture_checks W H) → number_of r ≡ mc_plane_code t W H gmv w h s d
unfolding mc_plane_code
picture t W H gmv w h s d r e = e ∙ sym (stops (picture_checks W H) _ (λ z. not_0 r (e ∙ z)))

pub returns-in_err-pic : goal.returns-in_err-pic
returns-in_err-pic c =
    let a = c.args in
    let p = err_from_is_err_and c.from_residual.result c.from_residual.ensures.1 in
    let e = picture a.t _ _ (given_place a.gmv) a.w a.h a.plane.now a.pred.now _ c.in_err-pic.ensures.code in
    let parts = untouched a.t _ _ a.ori_mv _ _ _ _ _ _ (above_0 _) e in
    rw (p.1, p.2) (record { value = parts.0; pred_after = parts.1 })

pub returns-in-Y : goal.returns-in-Y
returns-in-Y c =
    let a = c.args in
    let t = sym c.in-Y.is in
    let p = c.from-place.ensures in
    let w = c.in_ok-pic.ensures.value in
    record {
      value = simp (w.0, w.1) at c.mc_plane.ensures.value ∙ ap₂ (λ (t : PlaneType) (p : QpelPlace). mc_plane_code t a.pic_w a.pic_h p a.w a.h a.plane.now a.pred.now) t p;
      pred_after = simp (w.0, w.1) at c.mc_plane.ensures.pred_after ∙ ap₂ (λ (t : PlaneType) (p : QpelPlace). mc_plane_after t a.pic_w a.pic_h a.ori_mv p a.w a.h a.plane.now a.pred.now) t p;
    }

pub returns-in-UV : goal.returns-in-UV
returns-in-UV c =
    let a = c.args in
    let t = sym c.in-UV.is in
    let p = c.from-place.ensures in
    let w = c.in_ok-pic.ensures.value in
    record {
      value = simp (w.0, w.1) at c.mc_plane-in-UV.ensures.value ∙ ap₂ (λ (t : PlaneType) (p : QpelPlace). mc_plane_code t a.pic_w a.pic_h p a.w a.h a.plane.now a.pred.now) t p;
      pred_after = simp (w.0, w.1) at c.mc_plane-in-UV.ensures.pred_after ∙ ap₂ (λ (t : PlaneType) (p : QpelPlace). mc_plane_after t a.pic_w a.pic_h a.ori_mv p a.w a.h a.plane.now a.pred.now) t p;
    }
