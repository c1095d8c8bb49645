-- Where a block stands in a plane's picture. Assumes nothing.
use mathlib.Core.List.{List}
use mathlib.Core.Bool.{true, false, ◌||◌}
use mathlib.Core.Path.{◌≡◌, sym, ap, subst, ◌∙◌}
use Prim.Native.Nat.{ℕ, ◌+◌, ◌*◌, ◌<◌, ◌≤◌}
use native.Mathlib.Nat.{mul-le-mul_right}
use native.Mathlib.Omega.{arith}
use borrow.Author.Tests.{ltb-false}
use lib.Dec.{ltb}
use lib.ListN.{length, get_or, drop}
use lib.Seq.{get_or-drop}
use Rattle.evc_int.specs.Lists.{with_row, with_block}
use Rattle.evc_def.specs.Codes.{first_of, block_checks}
use Rattle.evc_def.specs.declared.EvcBlock.{EvcBlock}
use Rattle.evc_def.proofs.Blocks.{allowed_block}
use Rattle.evc_plane.specs.Planes.{side_of, stride_of, plane_len, config_of}
use Rattle.evc_plane.specs.declared.PlaneType.{PlaneType}
use Rattle.evc_plane.specs.declared.PlaneType.TheVariants.{Y, UV}
use Rattle.evc_plane.specs.declared.PlaneConfig.{PlaneConfig}
use Rattle.evc_plane.proofs.Sizes.{Room, room, sizes_of}
use Rattle.std.proofs.lemmas.Bool.{or_parts}
use Rattle.evc_int.proofs.Lists.{with_row-ext, with_block-ext, length-with_block}
use Rattle.evc_mc.specs.Block.{Component, type_of, width_of, height_of, offset_of, pred_len}
use Rattle.evc_mc.specs.Inner.{block_sample}
use Rattle.evc_lanes.specs.Inner.{is_row_width}
use Rattle.evc_interp.proofs.Windows.{side}
use Rattle.evc_mc.proofs.Checks.{sides, plane_side}
use Rattle.evc_mc.proofs.Samples.{component_room, component_end}
use Rattle.evc_record.specs.Record.{Planes, place_in, with_picture}
use Rattle.evc_record.specs.Record.{picture_short}

pub halves : (t : PlaneType) (size place side : ℕ) → place + side ≤ size → side_of t place + side_of t side ≤ side_of t size
halves Y size place side h = h
halves UV size place side h = omega arith

within : (c : PlaneConfig) (n px py w h : ℕ) → Room c n → px + w ≤ c.width → py + h ≤ c.height
    → ((c.yorigin + py) * c.stride + (c.xorigin + px) + h * c.stride + w ≤ n) × (c.xorigin + px ≤ 8208) × (c.yorigin + py ≤ 8208)
within c n px py w h r a b =
    let m : (py + h) * c.stride ≤ c.height * c.stride = mul-le-mul_right c.stride b in
    let z = r.sized in
    let k = r.products in
    let e : (c.yorigin + py) * c.stride + h * c.stride ≡ c.yorigin * c.stride + (py + h) * c.stride = by_terms c.yorigin py h c.stride in
    (omega (arith, r.within, k.len, k.pad_row, z.across), omega (arith, z.origin_top, z.wide_top), omega (arith, z.origin_low, z.origin_top, z.high_top))
  where
    by_terms : (o p h S : ℕ) → (o + p) * S + h * S ≡ o * S + (p + h) * S
    by_terms o p h S = omega arith

-- a place in the buffer does not wrap
module _ (t : PlaneType) (b : EvcBlock) (g : first_of (block_checks b) ≡ 0) (c : PlaneConfig) (e : c ≡ config_of t b.pic_w b.pic_h) where
  small : (n : ℕ) → n ≤ 8128 → side_of t n ≤ 8128
  small n h = below t n h
    where
      below : (t : PlaneType) (n : ℕ) → n ≤ 8128 → side_of t n ≤ 8128
      below Y n h = h
      below UV n h = omega arith

  pub column_small : (px : ℕ) → px ≡ side_of t b.x → c.xorigin + px ≤ 8208
  column_small px ex =
      let k = (allowed_block b g).0 in
      let z = sizes_of t b.pic_w b.pic_h c e (sides b g).picture in
      omega (arith, small b.x (omega (arith, k.inside, k.size_high)), z.origin_top)

  pub row_small : (py : ℕ) → py ≡ side_of t b.y → c.yorigin + py ≤ 8208
  row_small py ey =
      let k = (allowed_block b g).1 in
      let z = sizes_of t b.pic_w b.pic_h c e (sides b g).picture in
      omega (arith, small b.y (omega (arith, k.inside, k.size_high)), z.origin_top, z.origin_low)

module _ (t : PlaneType) (b : EvcBlock) (g : first_of (block_checks b) ≡ 0) (c : PlaneConfig) (e : c ≡ config_of t b.pic_w b.pic_h) (px py w h : ℕ)
    (ex : px ≡ side_of t b.x) (ey : py ≡ side_of t b.y) (ew : w ≡ side_of t b.w) (eh : h ≡ side_of t b.h) where
  pub block_within : (n : ℕ) → plane_len t b.pic_w b.pic_h ≤ n
      → ((c.yorigin + py) * c.stride + (c.xorigin + px) + h * c.stride + w ≤ n) × (c.xorigin + px ≤ 8208) × (c.yorigin + py ≤ 8208)
  unfolding config_of
  block_within n l =
      let k = allowed_block b g in
      let p = halves t b.pic_w b.x b.w k.0.inside in
      let q = halves t b.pic_h b.y b.h k.1.inside in
      let wide : c.width ≡ side_of t b.pic_w = ap (λ (d : PlaneConfig). d.width) e in
      let high : c.height ≡ side_of t b.pic_h = ap (λ (d : PlaneConfig). d.height) e in
      within c n px py w h (room t b.pic_w b.pic_h c n e (sides b g).picture l) (omega arith) (omega arith)

  pub block_placed : (p s : List ℕ) (o : ℕ)
      → with_block p ((c.yorigin + py) * c.stride + (c.xorigin + px)) c.stride w h (λ (y x : ℕ). get_or s (o + y * w + x) 0)
      ≡ with_block p (place_in t b) (stride_of t b.pic_w) (side_of t b.w) (side_of t b.h) (λ (y x : ℕ). get_or s (o + y * side_of t b.w + x) 0)
  unfolding config_of
  block_placed p s o =
      ap (λ (d : PlaneConfig). with_block p ((d.yorigin + py) * d.stride + (d.xorigin + px)) d.stride w h (λ (y x : ℕ). get_or s (o + y * w + x) 0)) e
      ∙ simp (ex, ey, ew, eh)

-- a block's rows are as wide as the copy takes them
pub row_width : (t : PlaneType) (b : EvcBlock) → first_of (block_checks b) ≡ 0 → (w : ℕ) → w ≡ side_of t b.w → is_row_width w ≡ true
row_width t b g w e = subst (λ (n : ℕ). is_row_width n ≡ true) (sym e) (side t (side_of t b.w) (plane_side t b.w (sides b g).w_side)).width

-- a row that was copied from a part that starts at it
pub row_copied : (s r l k : List ℕ) (at w to : ℕ) → r ≡ drop at s → k ≡ with_row l to w (λ (x : ℕ). get_or r x 0) → k ≡ with_row l to w (λ (x : ℕ). get_or s (at + x) 0)
row_copied s r l k at w to e p = p ∙ with_row-ext l to w _ _ (λ x _. ap (λ (r : List ℕ). get_or r x 0) e ∙ get_or-drop at s x 0)

-- ---- planes that are long enough

pub long_enough : (W H : ℕ) (p : Planes) → picture_short W H p ≡ false → (plane_len Y W H ≤ length p.y) × (plane_len UV W H ≤ length p.u) × (plane_len UV W H ≤ length p.v)
unfolding picture_short
long_enough W H p e =
    let f = or_parts (ltb (length p.y) (plane_len Y W H) || ltb (length p.u) (plane_len UV W H)) (ltb (length p.v) (plane_len UV W H)) e in
    let g = or_parts (ltb (length p.y) (plane_len Y W H)) (ltb (length p.u) (plane_len UV W H)) f.0 in
    (ltb-false _ _ g.0, ltb-false _ _ g.1, ltb-false _ _ f.1)

pub still_long : (W H : ℕ) (p q : Planes) → length q.y ≡ length p.y → length q.u ≡ length p.u → length q.v ≡ length p.v → picture_short W H p ≡ false → picture_short W H q ≡ false
unfolding picture_short
still_long W H p q a b c e = rw (a, b, c) e

-- ---- a component in a predicted block

pub component_in : (b : EvcBlock) → first_of (block_checks b) ≡ 0 → (c : Component) (n : ℕ) → pred_len ≤ n → offset_of c + height_of b c * width_of b c ≤ n
component_in b g c n l = omega (arith, component_room b (sides b g) c, component_end c)

-- a component that was put into a plane, from an offset
pub component_put : (b : EvcBlock) (c : Component) (p d s : List ℕ) (o : ℕ) → o ≡ offset_of c
    → d ≡ with_block p (place_in (type_of c) b) (stride_of (type_of c) b.pic_w) (width_of b c) (height_of b c) (λ (y x : ℕ). get_or s (o + y * width_of b c + x) 0)
    → d ≡ with_picture b c (block_sample b s c) p
unfolding with_picture
component_put b c p d s o e q = subst (λ (o : ℕ). d ≡ with_block p (place_in (type_of c) b) (stride_of (type_of c) b.pic_w) (width_of b c) (height_of b c) (λ (y x : ℕ). get_or s (o + y * width_of b c + x) 0)) e q

-- other samples that are the same ones
pub picture_ext : (b : EvcBlock) (c : Component) (f g : ℕ → ℕ → ℕ) (p : List ℕ) → ((y x : ℕ) → y < height_of b c → x < width_of b c → f y x ≡ g y x) → with_picture b c f p ≡ with_picture b c g p
unfolding with_picture
picture_ext b c f g p h = with_block-ext p _ _ (width_of b c) (height_of b c) f g h

pub picture_length : (b : EvcBlock) (c : Component) (f : ℕ → ℕ → ℕ) (p : List ℕ) → length (with_picture b c f p) ≡ length p
unfolding with_picture
picture_length b c f p = length-with_block p _ _ (width_of b c) (height_of b c) f
