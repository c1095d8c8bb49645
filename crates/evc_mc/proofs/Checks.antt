-- What the checks leave: an accepted block's sides, and of each list in use its three planes. Assumes nothing.
use mathlib.Core.Bool.{Bool, true, false, not, ◌&&◌, ◌||◌}
use mathlib.Core.List.{List, [], ◌∷◌}
use mathlib.Core.Path.{◌≡◌, refl, sym, ap, subst, ◌∙◌}
use Prim.Native.Nat.{ℕ, ◌*◌, ◌≤◌}
use native.Mathlib.Omega.{arith}
use native.Mathlib.Nat.{mul_comm}
use lib.Dec.{T, ltb, eqb, eqb→eq}
use lib.ListN.{length}
use borrow.Author.Tests.{ltb-false, le-ltb, not-false}
use mathlib.Core.Logic.{⊎_elim}
use mir.Facts.{or_yes}
use Rattle.std.proofs.lemmas.Bool.{and_from, or_from, and_parts, or_parts, not-false}
use Rattle.evc_int.proofs.Bools.{and_false_right}
use Rattle.evc_def.specs.Blocks.{is_block_side, is_inside, bad_picture, bad_block}
use Rattle.evc_def.specs.Codes.{◌when◌, first_of, block_checks}
use Rattle.evc_def.specs.declared.EvcBlock.{EvcBlock}
use Rattle.evc_def.specs.declared.QpelPlace.{QpelPlace}
use Rattle.evc_def.proofs.Codes.{accepted, passed, none, goes_on, both_accepted}
use Rattle.evc_def.proofs.Blocks.{allowed_block}
use Rattle.evc_plane.specs.Planes.{side_of, plane_len}
use Rattle.evc_plane.specs.declared.PlaneType.{PlaneType}
use Rattle.evc_plane.specs.declared.PlaneType.TheVariants.{Y, UV}
use Rattle.evc_clip.specs.Clip.{clipped_place}
use Rattle.evc_interp.specs.Prediction.{is_side, window_exceeds, mc_plane_code}
use Rattle.evc_mc.specs.Block.{RefPicList, Component, luma, cb, cr, type_of, plane_of, width_of, height_of, component_exceeds, list_short, poc_exceeds, list_exceeds, pred_len, mc2_code}
use Rattle.evc_mc.specs.Inner.{Examined, ListExamined, Accepted}

-- ---- the block

pub record Sides (b : EvcBlock) : Type 0 where
  pub picture : bad_picture b.pic_w b.pic_h ≡ false
  pub w_side : is_block_side b.w ≡ true
  pub h_side : is_block_side b.h ≡ true
  pub w_high : b.w ≤ 64
  pub h_high : b.h ≤ 64

pub sides : (b : EvcBlock) → first_of (block_checks b) ≡ 0 → Sides b
unfolding bad_block
sides b e =
    let f = accepted 1 _ _ (omega arith) e in
    let g = accepted 2 _ _ (omega arith) f.1 in
    let p = and_parts (is_block_side b.w && is_block_side b.h && is_inside b.pic_w b.x b.w) (is_inside b.pic_h b.y b.h) (not-false _ g.0) in
    let q = and_parts (is_block_side b.w && is_block_side b.h) (is_inside b.pic_w b.x b.w) p.0 in
    let r = and_parts (is_block_side b.w) (is_block_side b.h) q.0 in
    let k = allowed_block b e in
    record { picture = f.0; w_side = r.0; h_side = r.1; w_high = k.0.side_high; h_high = k.1.side_high }

-- a block's side in a plane is one that the prediction of that plane takes
pub plane_side : (t : PlaneType) (n : ℕ) → is_block_side n ≡ true → is_side t (side_of t n) ≡ true
plane_side Y n e = e
plane_side UV n e =
    ⊎_elim
    (λ t. ⊎_elim
    (λ t. ⊎_elim
    (λ t. ⊎_elim
    (λ t. at 4 refl t)
    (λ t. at 8 refl t) (or_yes (eqb n 4) (eqb n 8) t))
    (λ t. at 16 refl t) (or_yes (eqb n 4 || eqb n 8) (eqb n 16) t))
    (λ t. at 32 refl t) (or_yes (eqb n 4 || eqb n 8 || eqb n 16) (eqb n 32) t))
    (λ t. at 64 refl t) (or_yes (eqb n 4 || eqb n 8 || eqb n 16 || eqb n 32) (eqb n 64) (subst T (sym e) tt))
  where
    at : (m : ℕ) → is_side UV (side_of UV m) ≡ true → T (eqb n m) → is_side UV (side_of UV n) ≡ true
    at m p t = subst (λ (k : ℕ). is_side UV (side_of UV k) ≡ true) (sym (eqb→eq n m t)) p

-- ---- one plane: the prediction takes it, with any block that is long enough

pub plane_accepted : (b : EvcBlock) (t : PlaneType) (gmv : QpelPlace) (s d : List ℕ) → first_of (block_checks b) ≡ 0 → Examined b t gmv s → side_of t b.h * side_of t b.w ≤ length d
    → mc_plane_code t b.pic_w b.pic_h gmv (side_of t b.w) (side_of t b.h) s d ≡ 0
unfolding mc_plane_code
plane_accepted b t gmv s d e x r =
    let z = sides b e in
    passed _ _ _ z.picture
    ∙ passed _ _ _ (ap not (and_from (is_side t (side_of t b.w)) (is_side t (side_of t b.h)) (plane_side t b.w z.w_side) (plane_side t b.h z.h_side)))
    ∙ passed _ _ _ (or_from (ltb (length s) (plane_len t b.pic_w b.pic_h)) (ltb (length d) (side_of t b.w * side_of t b.h)) (le-ltb _ _ x.long) (le-ltb (length d) (side_of t b.w * side_of t b.h) (omega (arith, mul_comm (side_of t b.w) (side_of t b.h)))))
    ∙ passed _ _ _ x.small
    ∙ none

-- ---- a list

abbrev plane_short : EvcBlock → PlaneType → List ℕ → Bool
plane_short b t s = ltb (length s) (plane_len t b.pic_w b.pic_h)

module _ (b : EvcBlock) (l : RefPicList) (u : l.list.used ≡ true) where
  pub list_long : list_short b l ≡ false → (c : Component) → plane_len (type_of c) b.pic_w b.pic_h ≤ length (plane_of c l)
  unfolding list_short
  list_long e = go (and_false_right l.list.used _ e u)
    where
      go : (plane_short b Y l.y || plane_short b UV l.u || plane_short b UV l.v) ≡ false → (c : Component) → plane_len (type_of c) b.pic_w b.pic_h ≤ length (plane_of c l)
      go e luma = ltb-false _ _ (or_parts _ (plane_short b UV l.u) (or_parts _ (plane_short b UV l.v) e).0).0
      go e cb = ltb-false _ _ (or_parts (plane_short b Y l.y) _ (or_parts _ (plane_short b UV l.v) e).0).1
      go e cr = ltb-false _ _ (or_parts (plane_short b Y l.y || plane_short b UV l.u) _ e).1

  pub list_small : list_exceeds b l ≡ false → (c : Component) → component_exceeds b l c ≡ false
  unfolding list_exceeds
  list_small e = go (and_false_right l.list.used _ e u)
    where
      go : (component_exceeds b l luma || component_exceeds b l cb || component_exceeds b l cr) ≡ false → (c : Component) → component_exceeds b l c ≡ false
      go e luma = (or_parts _ (component_exceeds b l cb) (or_parts _ (component_exceeds b l cr) e).0).0
      go e cb = (or_parts (component_exceeds b l luma) _ (or_parts _ (component_exceeds b l cr) e).0).1
      go e cr = (or_parts (component_exceeds b l luma || component_exceeds b l cb) _ e).1

pub list_examined : (b : EvcBlock) (l : RefPicList) (gmv : QpelPlace) → list_short b l ≡ false → list_exceeds b l ≡ false → gmv ≡ clipped_place b l.list.mv → ListExamined b gmv l
list_examined b l gmv e f p u c =
    record {
      long = list_long b l u e c;
      small = subst (λ (g : QpelPlace). window_exceeds (type_of c) b.pic_w b.pic_h g (width_of b c) (height_of b c) (plane_of c l) ≡ false) (sym p) (list_small b l u f c);
    }

-- ---- a call whose block is allowed

pub code_is : (b : EvcBlock) (l m : RefPicList) (p q : List ℕ) → first_of (block_checks b) ≡ 0
    → mc2_code b l m p q
    ≡ first_of
    (3 when not (l.list.used || m.list.used)
    ∷ 4 when (list_short b l || list_short b m || ltb (length p) pred_len || ltb (length q) pred_len)
    ∷ 5 when (poc_exceeds l.list || poc_exceeds m.list)
    ∷ 6 when (list_exceeds b l || list_exceeds b m)
    ∷ [])
unfolding mc2_code
code_is b l m p q e = goes_on 0 (block_checks b) _ tt e

-- ---- an accepted call

pub accepts : (b : EvcBlock) (l m : RefPicList) (p q : List ℕ) → mc2_code b l m p q ≡ 0 → Accepted b l m p q
unfolding mc2_code
accepts b l m p q e =
    let f = both_accepted 0 (block_checks b) _ tt e in
    let three = accepted 3 _ _ (omega arith) f.1 in
    let four = accepted 4 _ _ (omega arith) three.1 in
    let five = accepted 5 _ _ (omega arith) four.1 in
    let six = accepted 6 _ _ (omega arith) five.1 in
    let h = or_parts (list_short b l || list_short b m || ltb (length p) pred_len) (ltb (length q) pred_len) four.0 in
    let i = or_parts (list_short b l || list_short b m) (ltb (length p) pred_len) h.0 in
    let j = or_parts (list_short b l) (list_short b m) i.0 in
    let k = or_parts (list_exceeds b l) (list_exceeds b m) six.0 in
    record {
      block = f.0;
      some_used = not-false (l.list.used || m.list.used) three.0;
      l_short = j.0;
      m_short = j.1;
      p_long = ltb-false (length p) pred_len i.1;
      q_long = ltb-false (length q) pred_len h.1;
      l_exceeds = k.0;
      m_exceeds = k.1;
    }
