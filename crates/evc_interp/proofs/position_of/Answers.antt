-- `evc_interp::position_of` meets its contract: the record that is made is the one that the definition names. Assumes nothing.
use mathlib.Core.Path.{◌≡◌, refl, ◌∙◌}
use mathlib.Core.Bool.{Bool}
use Prim.Native.Nat.{ℕ}
use Rattle.evc_def.specs.declared.EvcMv.{EvcMv}
use Rattle.evc_def.specs.declared.QpelPlace.{QpelPlace}
use Rattle.evc_plane.specs.Planes.{stride_of}
use Rattle.evc_plane.specs.declared.PlaneType.{PlaneType}
use Rattle.evc_paths.specs.Inner.{is_across, is_down, path_of}
use Rattle.evc_paths.specs.declared.Path.{Path}
use Rattle.evc_interp.specs.Prediction.{phase_of, is_filtered, window_of}
use Rattle.evc_interp.specs.Inner.{position_of}
use Rattle.evc_interp.proofs.Windows.{of_path, stride_is}
use Rattle.evc_interp.proofs.position_of.Goals as goal

module _ (k : PlaneType) (W H : ℕ) (ori : EvcMv) (gmv : QpelPlace) where
  start : (p : Path) → p ≡ path_of (is_filtered k ori.x) (is_filtered k ori.y) → window_of k W H (is_across p) (is_down p) gmv ≡ window_of k W H (is_filtered k ori.x) (is_filtered k ori.y) gmv
  start p e =
      let across = is_filtered k ori.x in
      let down = is_filtered k ori.y in
      rw e (of_path (λ (a b : Bool). window_of k W H a b gmv ≡ window_of k W H across down gmv) across down refl)

  made : (S at : ℕ) (p : Path) (i j : ℕ) → S ≡ stride_of k W → at ≡ window_of k W H (is_across p) (is_down p) gmv → p ≡ path_of (is_filtered k ori.x) (is_filtered k ori.y) → i ≡ phase_of k gmv.x.0 → j ≡ phase_of k gmv.y.0
      → record { stride = S; at = at; path = p; dx = i; dy = j } ≡ position_of k W H ori gmv
  unfolding position_of
  made S at p i j es e ep ei ej = rw (es, e ∙ start p ep, ep, ei, ej)

pub returns : goal.returns
returns c = made c.args.t c.args.pic.w c.args.pic.h c.args.ori_mv c.args.gmv _ _ _ _ _ (stride_is _ _ _ _ c.plane_config.ensures) c.window.ensures c.path_of-path.ensures c.phase.ensures c.phase-2.ensures
