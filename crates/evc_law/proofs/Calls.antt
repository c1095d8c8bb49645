-- Calls over planes that padding made: a list's sample is the general filter's; when a call is accepted, and what an accepted call knows; what stands in its
-- first block. Assumes nothing.
use mathlib.Core.Bool.{Bool, true, false, not, ◌&&◌, ◌||◌}
use mathlib.Core.List.{List}
use mathlib.Core.Path.{◌≡◌, refl, sym, ap, subst, ◌∙◌}
use Prim.Native.Nat.{ℕ, ◌+◌, ◌*◌, ◌≤◌, ◌<◌}
use native.Mathlib.Nat.{le_refl, mul-le-mul}
use native.Mathlib.Omega.{arith}
use lib.Dec.{ltb, lit<}
use lib.ListN.{length, get_or}
use borrow.Author.Tests.{ltb-false, le-ltb, not-false}
use Rattle.std.proofs.lemmas.Bool.{or_from}
use Rattle.evc_int.proofs.Lists.{row_fits, length-with_block, with_block-in, with_block-before}
use Rattle.evc_def.specs.Blocks.{Allowed, max_poc}
use Rattle.evc_def.specs.Codes.{first_of, block_checks}
use Rattle.evc_def.specs.declared.EvcBlock.{EvcBlock}
use Rattle.evc_def.proofs.Blocks.{allowed_block}
use Rattle.evc_def.proofs.Codes.{accepted, passed, none, goes_on, both_accepted}
use Rattle.evc_clip.specs.Clip.{clipped_place}
use Rattle.evc_pad.specs.Padding.{padded}
use Rattle.evc_plane.specs.Planes.{stride_of, plane_len}
use Rattle.evc_pad.proofs.Laws.{accepts, after, padded_length, reference_small}
use Rattle.evc_samples.proofs.Samples.{none_exceeds}
use Rattle.evc_filter.specs.Filter.{reach}
use Rattle.evc_interp.specs.Prediction.{window_of, window_exceeds}
use Rattle.std.proofs.lemmas.Bool.{or_parts}
use Rattle.evc_int.proofs.Bools.{and_false_right}
use Rattle.evc_mc.specs.Block.{RefPicList, Component, luma, cb, cr, type_of, plane_of, offset_of, width_of, height_of, with_component, with_samples, list_sample, pred_len, list_short, poc_exceeds, component_exceeds, list_exceeds, mc2_code}
use Rattle.evc_law.specs.Demand3.{Picture, Made, general_list}
use Rattle.evc_law.proofs.Paths.{within_pad, window_reads, paths}

-- ---- a list over planes that padding made

module _ (b : EvcBlock) (across : Allowed b.pic_w b.x b.w) (down : Allowed b.pic_h b.y b.h) (l : RefPicList) (p : Picture) (made : Made b l p) (used : l.list.used ≡ true) (c : Component) where
  pub list_general : (x y : ℕ) → x < width_of b c → y < height_of b c → list_sample b l c y x ≡ general_list b l.list p c x y
  unfolding list_sample
  list_general x y lx ly = paths (type_of c) b across down l.list.mv (plane_of c l) (p c) (made used c).0 (made used c).1 x y lx ly

  plane_is : plane_of c l ≡ padded (type_of c) b.pic_w b.pic_h (p c)
  plane_is = (made used c).1 ∙ after (type_of c) b.pic_w b.pic_h (p c) (made used c).0

  plane_long : plane_len (type_of c) b.pic_w b.pic_h ≤ length (plane_of c l)
  plane_long =
      let o = accepts (type_of c) b.pic_w b.pic_h (p c) (made used c).0 in
      omega (arith, ap length plane_is, padded_length (type_of c) b.pic_w b.pic_h o.0 (p c) o.1, o.1)

  -- no sample of its window is above 1023
  window_small : component_exceeds b l c ≡ false
  unfolding window_exceeds
  window_small =
      let k = type_of c in
      let W = b.pic_w in
      let H = b.pic_h in
      let gmv = clipped_place b l.list.mv in
      ap (λ (s : List ℕ). window_exceeds k W H gmv (width_of b c) (height_of b c) s) plane_is
      ∙ none_exceeds (padded k W H (p c)) (window_of k W H true true gmv) (stride_of k W) (width_of b c + reach k) (height_of b c + reach k)
      (λ y x ly lx.
      subst (λ (n : ℕ). n ≤ 1023)
      (sym (window_reads k W H (p c) (made used c).0 gmv true true _ _ x y _ refl refl refl (within_pad k b.w x across.side_high lx) (within_pad k b.h y down.side_high ly)))
      (reference_small k W H (p c) (made used c).0 _ _))

-- ---- when a call is accepted

-- what is asked of a call, apart from what its planes hold
pub record Asked (b : EvcBlock) (l m : RefPicList) (pred0 pred1 : List ℕ) : Type 0 where
  pub block : first_of (block_checks b) ≡ 0
  pub some : l.list.used || m.list.used ≡ true
  pub count0 : l.list.used ≡ true → l.list.poc ≤ max_poc
  pub count1 : m.list.used ≡ true → m.list.poc ≤ max_poc
  pub long0 : pred_len ≤ length pred0
  pub long1 : pred_len ≤ length pred1

-- a check of what is in use: it refuses only there
if_used : (u t : Bool) → (u ≡ true → t ≡ false) → u && t ≡ false
if_used true t h = h refl
if_used false t h = refl

module _ (b : EvcBlock) (across : Allowed b.pic_w b.x b.w) (down : Allowed b.pic_h b.y b.h) (l : RefPicList) (p : Picture) (made : Made b l p) where
  long_list : list_short b l ≡ false
  unfolding list_short
  long_list =
      if_used l.list.used _
      (λ u. or_from _ _ (or_from _ _ (long u luma) (long u cb)) (long u cr))
    where
      long : l.list.used ≡ true → (c : Component) → ltb (length (plane_of c l)) (plane_len (type_of c) b.pic_w b.pic_h) ≡ false
      long u c = le-ltb _ _ (plane_long b across down l p made u c)

  small_list : list_exceeds b l ≡ false
  unfolding list_exceeds
  small_list =
      if_used l.list.used _
      (λ u. or_from _ _ (or_from _ _ (window_small b across down l p made u luma) (window_small b across down l p made u cb)) (window_small b across down l p made u cr))

module _ (b : EvcBlock) (l m : RefPicList) (pred0 pred1 : List ℕ) where
  pub accepts_call : (p q : Picture) → Made b l p → Made b m q → Asked b l m pred0 pred1 → mc2_code b l m pred0 pred1 ≡ 0
  unfolding mc2_code
  accepts_call p q made0 made1 a =
      let o = allowed_block b a.block in
      goes_on 0 (block_checks b) _ tt a.block
      ∙ passed 3 _ _ (ap not a.some)
      ∙ passed 4 _ _
      (or_from _ _ (or_from _ _ (or_from _ _ (long_list b o.0 o.1 l p made0) (long_list b o.0 o.1 m q made1)) (le-ltb _ _ a.long0)) (le-ltb _ _ a.long1))
      ∙ passed 5 _ _
      (or_from _ _ (if_used l.list.used _ (λ u. le-ltb _ _ (a.count0 u))) (if_used m.list.used _ (λ u. le-ltb _ _ (a.count1 u))))
      ∙ passed 6 _ _ (or_from _ _ (small_list b o.0 o.1 l p made0) (small_list b o.0 o.1 m q made1))
      ∙ none

  pub accepted_call : mc2_code b l m pred0 pred1 ≡ 0 → Asked b l m pred0 pred1
  unfolding mc2_code
  accepted_call e =
      let f = both_accepted 0 (block_checks b) _ tt e in
      let c3 = accepted 3 _ _ (lit< tt) f.1 in
      let c4 = accepted 4 _ _ (lit< tt) c3.1 in
      let c5 = accepted 5 _ _ (lit< tt) c4.1 in
      let n4 = or_parts (list_short b l || list_short b m || ltb (length pred0) pred_len) (ltb (length pred1) pred_len) c4.0 in
      let n4' = or_parts (list_short b l || list_short b m) (ltb (length pred0) pred_len) n4.0 in
      let n5 = or_parts (poc_exceeds l.list) (poc_exceeds m.list) c5.0 in
      record {
        block = f.0;
        some = not-false (l.list.used || m.list.used) c3.0;
        count0 = λ u. ltb-false _ _ (and_false_right l.list.used _ n5.0 u);
        count1 = λ u. ltb-false _ _ (and_false_right m.list.used _ n5.1 u);
        long0 = ltb-false _ _ n4'.1;
        long1 = ltb-false _ _ n4.1;
      }

-- ---- what stands in a block: its three parts lie apart, of 64 by 64 samples and twice 32 by 32

module _ (b : EvcBlock) (f : ℕ → ℕ → ℕ) (d : List ℕ) (c : Component) where
  component_length : length (with_component b c f d) ≡ length d
  unfolding with_component
  component_length = length-with_block d (offset_of c) (width_of b c) (width_of b c) (height_of b c) f

  component_in : (x y : ℕ) → x < width_of b c → y < height_of b c → offset_of c + height_of b c * width_of b c ≤ length d → get_or (with_component b c f d) (offset_of c + y * width_of b c + x) 0 ≡ f y x
  unfolding with_component
  component_in x y lx ly fits = with_block-in 0 d (offset_of c) (width_of b c) (width_of b c) (height_of b c) f y x ly lx (le_refl (width_of b c)) fits

  component_before : (i : ℕ) → i < offset_of c → get_or (with_component b c f d) i 0 ≡ get_or d i 0
  unfolding with_component
  component_before i h = with_block-before 0 d (offset_of c) (width_of b c) (width_of b c) (height_of b c) f i h

module _ (b : EvcBlock) (lw : b.w ≤ 64) (lh : b.h ≤ 64) (f : Component → ℕ → ℕ → ℕ) (d : List ℕ) (long : pred_len ≤ length d) where
  size_luma : height_of b luma * width_of b luma ≤ 4096
  size_luma = mul-le-mul lh lw

  size_chroma : height_of b cb * width_of b cb ≤ 1024
  size_chroma =
      let h : height_of b cb ≤ 32 = omega arith in
      let w : width_of b cb ≤ 32 = omega arith in
      mul-le-mul h w

  pub block_holds : (c : Component) (x y : ℕ) → x < width_of b c → y < height_of b c → get_or (with_samples b f d) (offset_of c + y * width_of b c + x) 0 ≡ f c y x
  unfolding with_samples
  block_holds luma x y lx ly =
      let s = size_luma in
      let r = row_fits (width_of b luma) ly in
      component_before b (f cr) _ cr _ (omega arith) ∙ component_before b (f cb) _ cb _ (omega arith) ∙ component_in b (f luma) d luma x y lx ly (omega arith)
  block_holds cb x y lx ly =
      let s = size_chroma in
      let r = row_fits (width_of b cb) ly in
      component_before b (f cr) _ cr _ (omega arith)
      ∙ component_in b (f cb) _ cb x y lx ly (omega (arith, component_length b (f luma) d luma))
  block_holds cr x y lx ly =
      let s = size_chroma in
      let d₁ = with_component b luma (f luma) d in
      component_in b (f cr) _ cr x y lx ly (omega (arith, component_length b (f cb) d₁ cb, component_length b (f luma) d luma))
