-- A block's samples by the general filter, mirrored left to right and top to bottom: those of one list, then those of a call. Assumes nothing.
use mathlib.Core.Bool.{Bool, true, false, cond, ◌&&◌, ◌||◌}
use mathlib.Core.Path.{◌≡◌, refl, sym, ap, ap₂, subst, ◌∙◌}
use Prim.Native.Nat.{ℕ, ◌+◌, ◌*◌, ◌-◌, ◌%◌, ◌≤◌}
use native.Mathlib.Omega.{arith}
use lib.Dec.{T}
use lib.IntN.{ℤ, pos, neg_ℤ, ◌+ℤ◌, ◌-ℤ◌, ◌*ℤ◌}
use Rattle.std.proofs.lemmas.Int.{ints}
use Rattle.evc_int.proofs.Expressions.{ !, ◌⊖◌, ◌⊗◌, solve}
use Rattle.evc_def.specs.Blocks.{Allowed}
use Rattle.evc_def.specs.Codes.{first_of, block_checks}
use Rattle.evc_def.specs.declared.EvcBlock.{EvcBlock}
use Rattle.evc_def.specs.declared.EvcMv.{EvcMv}
use Rattle.evc_def.proofs.Blocks.{allowed_block, allowed_mirror, accepted_at}
use Rattle.evc_plane.specs.declared.PlaneType.{PlaneType}
use Rattle.evc_plane.specs.declared.PlaneType.TheVariants.{Y, UV}
use Rattle.evc_plane.specs.Planes.{side_of, sample_at, reference_of}
use Rattle.evc_plane.proofs.Reference.{reference_left_right, reference_top_bottom}
use Rattle.evc_filter.specs.Filter.{phases}
use Rattle.evc_clip.specs.Clip.{clip_component, clip_mv, place_of, clipped_place}
use Rattle.evc_clip.proofs.Laws.{clipped_mirror}
use Rattle.evc_mc.specs.declared.EvcList.{EvcList}
use Rattle.evc_mc.specs.Block.{Component, type_of, width_of, height_of}
use Rattle.evc_law.specs.General.{general}
use Rattle.evc_law.specs.Demand3.{Picture, Made, Equal, Call, Premises, general_list, rounded_average, general_sample, PictureLeftRight, PictureTopBottom, block_left_right, block_top_bottom, mv_left_right, mv_top_bottom, Mirrored}
use Rattle.evc_law.proofs.Taps.{general_left_right, general_top_bottom}

-- ---- one direction of a block in a plane

-- luma and chroma have the picture's sides in common, in quarter samples
side_phases : (k : PlaneType) (n : ℕ) → n % 4 ≡ 0 → phases k * side_of k n ≡ 4 * n
side_phases Y n e = refl
side_phases UV n e = omega arith

pub some_side : (k : PlaneType) (size place side : ℕ) → Allowed size place side → 1 ≤ side_of k size
some_side Y size place side a = omega arith
some_side UV size place side a = omega arith

-- the samples by which a block is smaller than its plane
abbrev free : PlaneType → ℕ → ℕ → ℤ
free k W w = pos (side_of k W) -ℤ pos (side_of k w)

module _ (k : PlaneType) (W x w : ℕ) (a : Allowed W x w) where
  -- the clipped places add up to these
  places_meet : (mv : ℤ) → place_of x (clip_component W x w mv) +ℤ place_of (W - x - w) (clip_component W (W - x - w) w (neg_ℤ mv)) ≡ pos (phases k) *ℤ free k W w
  places_meet mv =
      clipped_mirror W x (W - x - w) w mv (omega arith)
      ∙ solve (! (pos 4) ⊗ (! (pos W) ⊖ ! (pos w))) (! (pos (phases k)) ⊗ (! (pos (side_of k W)) ⊖ ! (pos (side_of k w)))) (omega (arith, side_phases k W a.size_fours, side_phases k w a.side_fours))

  samples_meet : (c c' : ℕ) → c + c' + 1 ≡ side_of k w → free k W w +ℤ pos (c' + c + 1) ≡ pos (side_of k W)
  samples_meet c c' e = omega (arith, ints)

-- ---- the mirrored block is accepted

module _ (b : EvcBlock) (ok : first_of (block_checks b) ≡ 0) where
  pub block_left_right_lem : first_of (block_checks (block_left_right b)) ≡ 0
  block_left_right_lem =
      let a = allowed_block b ok in
      accepted_at b (b.pic_w - b.x - b.w) b.y ok (allowed_mirror b.pic_w b.x b.w a.0) a.1

  pub block_top_bottom_lem : first_of (block_checks (block_top_bottom b)) ≡ 0
  block_top_bottom_lem =
      let a = allowed_block b ok in
      accepted_at b b.x (b.pic_h - b.y - b.h) ok a.0 (allowed_mirror b.pic_h b.y b.h a.1)

-- ---- the samples of one list

module _ (b : EvcBlock) (ax : Allowed b.pic_w b.x b.w) (ay : Allowed b.pic_h b.y b.h) where
  pub list_left_right : (l m : EvcList) (p q : Picture) → m.mv ≡ mv_left_right l.mv → PictureLeftRight b p q → (c : Component) (x x' y : ℕ) → x + x' + 1 ≡ width_of b c
      → general_list (block_left_right b) m q c x y ≡ general_list b l p c x' y
  unfolding clipped_place clip_mv
  list_left_right l m p q e h c x x' y s =
      let k = type_of c in
      let W = b.pic_w in
      let H = b.pic_h in
      let place = clipped_place b l.mv in
      ap (λ (mv : EvcMv). let place = clipped_place (block_left_right b) mv in general k (reference_of k W H (q c)) place.x.0 place.y.0 x y) e
      ∙ general_left_right k (reference_of k W H (p c)) (reference_of k W H (q c)) (pos (side_of k W)) (free k W b.w)
      (reference_left_right (sample_at k W (p c)) (side_of k W) (side_of k H) (sample_at k W (q c)) (some_side k W b.x b.w ax) (some_side k H b.y b.h ay) (h c))
      place.x.0 _ place.y.0 x' x y (places_meet k W b.x b.w ax l.mv.x) (samples_meet k W b.x b.w ax x x' s)

  pub list_top_bottom : (l m : EvcList) (p q : Picture) → m.mv ≡ mv_top_bottom l.mv → PictureTopBottom b p q → (c : Component) (x y y' : ℕ) → y + y' + 1 ≡ height_of b c
      → general_list (block_top_bottom b) m q c x y ≡ general_list b l p c x y'
  unfolding clipped_place clip_mv
  list_top_bottom l m p q e h c x y y' s =
      let k = type_of c in
      let W = b.pic_w in
      let H = b.pic_h in
      let place = clipped_place b l.mv in
      ap (λ (mv : EvcMv). let place = clipped_place (block_top_bottom b) mv in general k (reference_of k W H (q c)) place.x.0 place.y.0 x y) e
      ∙ general_top_bottom k (reference_of k W H (p c)) (reference_of k W H (q c)) (pos (side_of k H)) (free k H b.h)
      (reference_top_bottom (sample_at k W (p c)) (side_of k W) (side_of k H) (sample_at k W (q c)) (some_side k W b.x b.w ax) (some_side k H b.y b.h ay) (h c))
      place.x.0 place.y.0 _ x y' y (places_meet k H b.y b.h ay l.mv.y) (samples_meet k H b.y b.h ay y y' s)

-- ---- equal pictures have equal mirrors

module _ (b : EvcBlock) (p p' q q' : Picture) where
  pub equal_left_right : PictureLeftRight b p q → PictureLeftRight b p' q' → Equal b p p' → Equal (block_left_right b) q q'
  equal_left_right h h' e c i j li lj =
      let i' = side_of (type_of c) b.pic_w - 1 - i in
      h c i i' j (omega arith) lj ∙ e c i' j (omega arith) lj ∙ sym (h' c i i' j (omega arith) lj)

  pub equal_top_bottom : PictureTopBottom b p q → PictureTopBottom b p' q' → Equal b p p' → Equal (block_top_bottom b) q q'
  equal_top_bottom h h' e c i j li lj =
      let j' = side_of (type_of c) b.pic_h - 1 - j in
      h c i j j' li (omega arith) ∙ e c i j' li (omega arith) ∙ sym (h' c i j j' li (omega arith))

-- ---- a mirrored call, for either mirror

-- a list not in use is not read
pub by_used : (u v u' v' : Bool) (a b a' b' : ℕ) → u || v ≡ true → u' ≡ u → v' ≡ v → (u ≡ true → a' ≡ a) → (v ≡ true → b' ≡ b)
    → cond (u' && v') (rounded_average a' b') (cond u' a' b') ≡ cond (u && v) (rounded_average a b) (cond u a b)
by_used true true u' v' a b a' b' s e f g h = rw (e, f) (ap₂ rounded_average (g refl) (h refl))
by_used true false u' v' a b a' b' s e f g h = rw (e, f) (g refl)
by_used false true u' v' a b a' b' s e f g h = rw e (h refl)
by_used false false u' v' a b a' b' s e f g h = absurd (subst T (sym s) tt)

module _ (turn : EvcMv → EvcMv) (Turned : Picture → Picture → Type 0) (place : EvcBlock) (k m : Call) (mirror : Mirrored turn Turned place k m) where
  pub mirrored_sample : (c : Component) (x y x' y' : ℕ) → k.l0.list.used || k.l1.list.used ≡ true
      → ((l n : EvcList) (p q : Picture) → n.mv ≡ turn l.mv → Turned p q → general_list place n q c x y ≡ general_list k.block l p c x' y')
      → general_sample m c x y ≡ general_sample k c x' y'
  mirrored_sample c x y x' y' used lists =
      let l0 = mirror.list0 in
      let l1 = mirror.list1 in
      by_used k.l0.list.used k.l1.list.used m.l0.list.used m.l1.list.used _ _ _ _ used l0.used l1.used
      (λ u. ap (λ (b : EvcBlock). general_list b m.l0.list m.picture0 c x y) mirror.block ∙ lists k.l0.list m.l0.list k.picture0 m.picture0 (l0.mv u) (l0.picture u))
      (λ u. ap (λ (b : EvcBlock). general_list b m.l1.list m.picture1 c x y) mirror.block ∙ lists k.l1.list m.l1.list k.picture1 m.picture1 (l1.mv u) (l1.picture u))

  pub mirrored_premises : ((p p' q q' : Picture) → Turned p q → Turned p' q' → Equal k.block p p' → Equal place q q') → Premises k → Premises m
  mirrored_premises equal known =
      let l0 = mirror.list0 in
      let l1 = mirror.list1 in
      let at = sym mirror.block in
      record {
        made0 = subst (λ (b : EvcBlock). Made b m.l0 m.picture0) at l0.made;
        made1 = subst (λ (b : EvcBlock). Made b m.l1 m.picture1) at l1.made;
        counts = λ u v e.
            let u' = sym l0.used ∙ u in
            let v' = sym l1.used ∙ v in
            subst (λ (b : EvcBlock). Equal b m.picture0 m.picture1) at
            (equal k.picture0 k.picture1 m.picture0 m.picture1 (l0.picture u') (l1.picture v') (known.counts u' v' (sym (l0.poc u') ∙ e ∙ l1.poc v')));
      }
