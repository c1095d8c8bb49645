-- `evc_mc::BlockList::predict` meets its contract: nothing for a list that is not in use, else its three planes. Assumes nothing.
use Prim.Native.Nat.{ℕ, ◌*◌, ◌≤◌}
use mathlib.Core.Bool.{Bool, true, false, cond}
use mathlib.Core.List.{List}
use mathlib.Core.Path.{◌≡◌, refl, sym, ap, ◌∙◌}
use native.Mathlib.Omega.{arith}
use lib.ListN.{length}
use Rattle.std.proofs.Common.{Some}
use Rattle.evc_int.specs.Lists.{with_block}
use Rattle.evc_def.specs.declared.EvcBlock.{EvcBlock}
use Rattle.evc_def.specs.declared.QpelPlace.{QpelPlace}
use Rattle.evc_def.specs.Codes.{first_of, block_checks}
use Rattle.evc_plane.specs.declared.PlaneType.TheVariants.{Y, UV}
use Rattle.evc_clip.specs.Clip.{clipped_place}
use Rattle.evc_interp.specs.Prediction.{predicted}
use Rattle.evc_interp.specs.Inner.{position_of, Readable, sample_from}
use Rattle.evc_interp.specs.declared.Position.{Position}
use Rattle.evc_interp.proofs.Windows.{accepts, readable, predicts}
use Rattle.evc_pick.specs.Inner.{by_block}
use Rattle.evc_pick.specs.declared.PredBlock.{PredBlock}
use Rattle.evc_pick.specs.declared.PredBlock.TheVariants.{First, Second}
use Rattle.evc_mc.specs.Block.{RefPicList, Component, luma, cb, cr, type_of, plane_of, offset_of, width_of, height_of, with_component, with_samples, list_sample, pred_len}
use Rattle.evc_mc.specs.Inner.{Examined, with_list}
use Rattle.evc_mc.specs.Lent.{lent_list}
use Rattle.evc_mc.proofs.Checks.{sides, plane_accepted}
use Rattle.evc_mc.proofs.Samples.{component_room, component_end}
use Rattle.evc_mc.proofs.BlockList.predict.Goals as goal

module _ (b : EvcBlock) (l : RefPicList) where
  unused : (block : PredBlock) (p0 p1 : List ℕ) → l.list.used ≡ false → (p0 ≡ by_block block (with_list b l p0) p0) × (p1 ≡ by_block block p1 (with_list b l p1))
  unfolding with_list
  unused Second p0 p1 e = (refl, simp e)
  unused First p0 p1 e = (simp e, refl)

  module _ (gmv : QpelPlace) where
    -- a component from its position
    reads : (c : Component) (p : Position) (d : List ℕ) → first_of (block_checks b) ≡ 0 → Examined b (type_of c) gmv (plane_of c l) → pred_len ≤ length d → p ≡ position_of (type_of c) b.pic_w b.pic_h l.list.mv gmv
        → Readable (type_of c) p (width_of b c) (height_of b c) (plane_of c l)
    reads c p d e x long ep =
        let room : height_of b c * width_of b c ≤ length d = omega (arith, component_room b (sides b e) c, component_end c) in
        readable _ _ _ _ _ _ _ _ p ep d (accepts _ _ _ _ _ _ _ _ (plane_accepted b (type_of c) gmv (plane_of c l) d e x room))

    module _ (e : gmv ≡ clipped_place b l.list.mv) (p q : Position) (ep : p ≡ position_of Y b.pic_w b.pic_h l.list.mv gmv) (eq : q ≡ position_of UV b.pic_w b.pic_h l.list.mv gmv) where
      abbrev at : Component → Position
      at luma = p
      at cb = q
      at cr = q

      at_is : (c : Component) → at c ≡ position_of (type_of c) b.pic_w b.pic_h l.list.mv gmv
      at_is luma = ep
      at_is cb = eq
      at_is cr = eq

      -- written where it begins
      abbrev put : Component → ℕ → List ℕ → List ℕ
      put c o d = with_block d o (width_of b c) (width_of b c) (height_of b c) (sample_from (type_of c) (at c) (plane_of c l))

      put_is : (c : Component) (o : ℕ) (d : List ℕ) → o ≡ offset_of c → put c o d ≡ with_component b c (list_sample b l c) d
      unfolding with_component list_sample
      put_is c o d f =
          ap (λ (o : ℕ). put c o d) f
          ∙ predicts (type_of c) b.pic_w b.pic_h l.list.mv gmv (width_of b c) (height_of b c) (plane_of c l) (at c) (at_is c) d (offset_of c)
          ∙ ap (λ (g : QpelPlace). with_block d (offset_of c) (width_of b c) (width_of b c) (height_of b c) (predicted (type_of c) b.pic_w b.pic_h l.list.mv g (plane_of c l))) e

      three : (o q : ℕ) (d d₁ d₂ d₃ : List ℕ) → l.list.used ≡ true → o ≡ offset_of cb → q ≡ offset_of cr → d₁ ≡ put luma 0 d → d₂ ≡ put cb o d₁ → d₃ ≡ put cr q d₂ → d₃ ≡ with_list b l d
      unfolding with_list with_samples
      three o q d d₁ d₂ d₃ u eo eq e₁ e₂ e₃ =
          e₃ ∙ put_is cr q d₂ eq
          ∙ ap (with_component b cr (list_sample b l cr)) (e₂ ∙ put_is cb o d₁ eo ∙ ap (with_component b cb (list_sample b l cb)) (e₁ ∙ put_is luma 0 d refl))
          ∙ sym (ap (λ (t : Bool). cond t (with_samples b (list_sample b l) d) d) u)

      -- both blocks, by which is picked
      done : (block : PredBlock) (o q : ℕ) (p0 p1 a0 a1 b0 b1 c0 c1 : List ℕ) → l.list.used ≡ true → o ≡ offset_of cb → q ≡ offset_of cr
          → a0 ≡ by_block block (put luma 0 p0) p0 → a1 ≡ by_block block p1 (put luma 0 p1)
          → b0 ≡ by_block block (put cb o a0) a0 → b1 ≡ by_block block a1 (put cb o a1)
          → c0 ≡ by_block block (put cr q b0) b0 → c1 ≡ by_block block b1 (put cr q b1)
          → (c0 ≡ by_block block (with_list b l p0) p0) × (c1 ≡ by_block block p1 (with_list b l p1))
      done Second o q p0 p1 a0 a1 b0 b1 c0 c1 u eo eq x0 x1 y0 y1 z0 z1 = (z0 ∙ y0 ∙ x0, three o q p1 a1 b1 c1 u eo eq x1 y1 z1)
      done First o q p0 p1 a0 a1 b0 b1 c0 c1 u eo eq x0 x1 y0 y1 z0 z1 = (three o q p0 a0 b0 c0 u eo eq x0 y0 z0, z1 ∙ y1 ∙ x1)

pub returns-in_default : goal.returns-in_default
returns-in_default c =
    let a = c.args in
    let parts = unused a.self.now.block.given (lent_list a.self.now.list) a.to a.pred0.now a.pred1.now (simp c.in_default.is) in
    record { pred0_after = parts.0; pred1_after = parts.1 }

pub predict_component-requires-clause-readable : goal.predict_component-requires-clause-readable
predict_component-requires-clause-readable c =
    let s = c.args.self.now in
    let p = c.picture-pic.ensures in
    reads s.block.given (lent_list (Some c.in-Some.l)) s.gmv luma _ c.args.pred0.now s.block.checked ((simp c.in-Some.is at c.requires.list_examined) refl luma)
    c.requires.pred_len_in_bounds.0 (simp (p.0, p.1) at c.position_of-luma.ensures)

pub predict_component-requires-2-clause-readable : goal.predict_component-requires-2-clause-readable
predict_component-requires-2-clause-readable c =
    let s = c.args.self.now in
    let p = c.picture-pic.ensures in
    reads s.block.given (lent_list (Some c.in-Some.l)) s.gmv cb _ c.args.pred0.now s.block.checked ((simp c.in-Some.is at c.requires.list_examined) refl cb)
    c.requires.pred_len_in_bounds.0 (simp (p.0, p.1) at c.position_of-chroma.ensures)

pub predict_component-requires-3-clause-readable : goal.predict_component-requires-3-clause-readable
predict_component-requires-3-clause-readable c =
    let s = c.args.self.now in
    let p = c.picture-pic.ensures in
    reads s.block.given (lent_list (Some c.in-Some.l)) s.gmv cr _ c.args.pred0.now s.block.checked ((simp c.in-Some.is at c.requires.list_examined) refl cr)
    c.requires.pred_len_in_bounds.0 (simp (p.0, p.1) at c.position_of-chroma.ensures)

pub predict_component-requires-clause-w_in_bounds : goal.predict_component-requires-clause-w_in_bounds
predict_component-requires-clause-w_in_bounds c =
    let b = c.args.self.now.block in
    let r = component_room b.given (sides b.given b.checked) luma in
    (omega (arith, r, c.requires.pred_len_in_bounds.0), omega (arith, r, c.requires.pred_len_in_bounds.1))

pub predict_component-requires-2-clause-w_in_bounds : goal.predict_component-requires-2-clause-w_in_bounds
predict_component-requires-2-clause-w_in_bounds c =
    let b = c.args.self.now.block in
    let k = c.predict_component.auto in
    let o = c.cu_dim_offset-offset_u.ensures in
    let r = component_room b.given (sides b.given b.checked) cb in
    (omega (arith, r, o, k.pred0, c.requires.pred_len_in_bounds.0), omega (arith, r, o, k.pred1, c.requires.pred_len_in_bounds.1))

pub predict_component-requires-3-clause-w_in_bounds : goal.predict_component-requires-3-clause-w_in_bounds
predict_component-requires-3-clause-w_in_bounds c =
    let b = c.args.self.now.block in
    let k = c.predict_component.auto in
    let m = c.predict_component-2.auto in
    let o = c.cu_dim_offset-offset_v.ensures in
    let r = component_room b.given (sides b.given b.checked) cr in
    (omega (arith, r, o, k.pred0, m.pred0, c.requires.pred_len_in_bounds.0), omega (arith, r, o, k.pred1, m.pred1, c.requires.pred_len_in_bounds.1))

pub returns : goal.returns
returns c =
    let a = c.args in
    let s = a.self.now in
    let e = c.in-Some.is in
    let p = c.picture-pic.ensures in
    let x = c.predict_component.ensures in
    let y = c.predict_component-2.ensures in
    let z = c.predict_component-3.ensures in
    let parts = done s.block.given (lent_list (Some c.in-Some.l)) s.gmv (simp e at s.clipped) _ _ (simp (p.0, p.1) at c.position_of-luma.ensures) (simp (p.0, p.1) at c.position_of-chroma.ensures) a.to _ _ a.pred0.now a.pred1.now _ _ _ _ _ _ refl
    c.cu_dim_offset-offset_u.ensures c.cu_dim_offset-offset_v.ensures x.pred0_after x.pred1_after y.pred0_after y.pred1_after z.pred0_after z.pred1_after in
    rw e (record { pred0_after = parts.0; pred1_after = parts.1 })
