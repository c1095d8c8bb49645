-- W6's theorems: clipping changes no sample where it is hidden, so of no small block and of no chroma; there a block is predicted as its four quarters; the
-- counterexample. Assumes nothing.
use mathlib.Core.Bool.{Bool, true, false, cond, ◌&&◌, ◌||◌}
use mathlib.Core.List.{List}
use mathlib.Core.Path.{◌≡◌, refl, sym, ap, ap₂, subst, ◌∙◌}
use Prim.Native.Nat.{ℕ, zero, suc, ◌+◌, ◌-◌, ◌*◌, ◌/◌, ◌≤◌, ◌<◌, min}
use native.Mathlib.Omega.{arith}
use lib.Dec.{eqb, lit<}
use lib.IntN.{ℤ, pos, ◌+ℤ◌, ◌*ℤ◌}
use lib.ListN.{length}
use Rattle.std.proofs.lemmas.Int.{ints}
use Rattle.evc_int.specs.Whole.{−◌, ◌⁺}
use Rattle.evc_int.proofs.Expressions.{ !, fact}
use Rattle.evc_int.proofs.Division.{split_only}
use Rattle.evc_def.specs.declared.EvcBlock.{EvcBlock}
use Rattle.evc_def.specs.declared.EvcMv.{EvcMv}
use Rattle.evc_def.proofs.Blocks.{allowed_block}
use Rattle.evc_plane.specs.declared.PlaneType.{PlaneType}
use Rattle.evc_plane.specs.declared.PlaneType.TheVariants.{Y, UV}
use Rattle.evc_plane.specs.Planes.{side_of, sample_at, reference}
use Rattle.evc_filter.specs.Filter.{taps, single_stage}
use Rattle.evc_interp.specs.Prediction.{phase_of, pel_of, is_filtered}
use Rattle.evc_clip.specs.Clip.{clip_component, clip_mv, clipped_place}
use Rattle.evc_mc.specs.declared.EvcList.{EvcList}
use Rattle.evc_mc.specs.Block.{Component, luma, type_of, width_of, height_of, pred_len}
use Rattle.evc_law.specs.General.{tapped, general₁, general}
use Rattle.evc_law.specs.Demand3.{Picture, Call, Premises, Accepted, sample, general_list, rounded_average, of_lists}
use Rattle.evc_law.specs.Invisible.{quarter_of, quarter, Unclipped, Quarters, exact_list, exact_sample, ClippingSmall, ClippingChroma, Counterexample, QuartersShow, Computed, small, kept, HiddenList, ClippingHidden, QuartersHidden, Invisible}
use Rattle.evc_law.proofs.Phases.{tap_sum-same, tapped_whole, across_alone}
use Rattle.evc_law.proofs.Paths.{unfiltered_phase}
use Rattle.evc_law.proofs.Calls.{accepts_call, accepted_call}
use Rattle.evc_law.proofs.Mirror.{by_used}
use Rattle.evc_law.proofs.Theorems.{general_filter}
use Rattle.evc_law.proofs.Clipping.{general_clipped}
use Rattle.evc_law.proofs.Quarters.{quarter_accepted, quarter_list, twice_half}

-- ---- clipping

-- lists in use that give the same
same_lists : (k : Call) (f g : EvcList → Picture → ℕ) → k.l0.list.used || k.l1.list.used ≡ true
    → (k.l0.list.used ≡ true → f k.l0.list k.picture0 ≡ g k.l0.list k.picture0)
    → (k.l1.list.used ≡ true → f k.l1.list k.picture1 ≡ g k.l1.list k.picture1) → of_lists k f ≡ of_lists k g
same_lists k f g some h i = by_used k.l0.list.used k.l1.list.used k.l0.list.used k.l1.list.used _ _ _ _ some refl refl h i

pub clipping_hidden : ClippingHidden
clipping_hidden k given done c hidden0 hidden1 x y lx ly =
    let b = k.block in
    let a = accepted_call b k.l0 k.l1 k.pred0 k.pred1 done in
    let o = allowed_block b a.block in
    let clipped : (l : EvcList) (p : Picture) → HiddenList (type_of c) b l → l.used ≡ true → general_list b l p c x y ≡ exact_list b l p c x y = λ l p hidden u.
    general_clipped (type_of c) b o.0 o.1 (sample_at (type_of c) b.pic_w (p c)) l.mv (hidden.across u) (hidden.down u) x y lx ly in
    general_filter k given done c x y lx ly
    ∙ same_lists k (λ (l : EvcList) (p : Picture). general_list b l p c x y) (λ (l : EvcList) (p : Picture). exact_list b l p c x y) a.some
    (clipped k.l0.list k.picture0 hidden0) (clipped k.l1.list k.picture1 hidden1)

-- a component of at most 32 by 32 samples
small_hidden : (k : PlaneType) (b : EvcBlock) → side_of k b.w ≤ 32 → side_of k b.h ≤ 32 → (l : EvcList) → HiddenList k b l
small_hidden k b w h l = record { across = λ _. small w; down = λ _. small h }

-- chroma has half the luma's sides
plane_side : (k : PlaneType) (n : ℕ) → n ≤ 32 → side_of k n ≤ 32
plane_side Y n h = h
plane_side UV n h = omega arith

pub clipping_small : ClippingSmall
clipping_small k given done w h c =
    let t = type_of c in
    let b = k.block in
    let list = small_hidden t b (plane_side t b.w w) (plane_side t b.h h) in
    clipping_hidden k given done c (list k.l0.list) (list k.l1.list)

-- a chroma block has at most 32 samples each way
chroma_side : (k : PlaneType) (n : ℕ) → k ≡ UV → n ≤ 64 → side_of k n ≤ 32
chroma_side k n e h = subst (λ (t : PlaneType). side_of t n ≤ 32) (sym e) (omega arith)

pub clipping_chroma : ClippingChroma
clipping_chroma k given done c e =
    let t = type_of c in
    let b = k.block in
    let o = allowed_block b (accepted_call b k.l0 k.l1 k.pred0 k.pred1 done).block in
    let list = small_hidden t b (chroma_side t b.w e o.0.side_high) (chroma_side t b.h e o.1.side_high) in
    clipping_hidden k given done c (list k.l0.list) (list k.l1.list)

-- ---- the counterexample

-- the last of 64 columns, with columns 0 and 1 of the picture holding 0 and 1023: at -256 the whole sample read is before the picture; at -257 the last tap, 1,
-- reads column 1, and (1023 + 32) >> 6 is 16
abbrev row_of : (ℕ → ℕ → ℕ) → ℕ → ℕ → ℤ → ℤ → ℤ
row_of pic pw ph j i = pos (reference pic pw ph i j)

module _ (pic : ℕ → ℕ → ℕ) (pw ph : ℕ) (wide : 2 ≤ pw) (high : 1 ≤ ph) (columns : (j : ℕ) → j < ph → (pic 0 j ≡ 0) × (pic 1 j ≡ 1023)) (j : ℤ) where
  column_0 : (i : ℤ) → i ⁺ ≡ 0 → row_of pic pw ph j i ≡ pos 0
  unfolding reference
  column_0 i e =
      let n = min (j ⁺) (ph - 1) in
      let z : min (i ⁺) (pw - 1) ≡ 0 = omega arith in
      ap pos (ap (λ (m : ℕ). pic m n) z ∙ (columns n (omega arith)).0)

  column_1 : row_of pic pw ph j (pos 1) ≡ pos 1023
  unfolding reference
  column_1 =
      let n = min (j ⁺) (ph - 1) in
      let z : min 1 (pw - 1) ≡ 1 = omega arith in
      ap pos (ap (λ (m : ℕ). pic m n) z ∙ (columns n (omega arith)).1)

  clipped_line : single_stage (tapped Y (row_of pic pw ph j) (− 256) 63) ≡ 0
  unfolding phase_of pel_of
  clipped_line = ap single_stage (tapped_whole Y (row_of pic pw ph j) (− 256) 63 refl) ∙ ap (λ (z : ℤ). single_stage (pos 64 *ℤ z)) (column_0 _ refl)

  exact_line : single_stage (tapped Y (row_of pic pw ph j) (− 257) 63) ≡ 16
  unfolding tapped phase_of pel_of
  exact_line = ap single_stage (tap_sum-same (taps Y 3) (λ (t : ℕ). row_of pic pw ph j (− 65 +ℤ pos 63 +ℤ − 2 +ℤ pos t)) (λ (t : ℕ). cond (eqb t 5) (pos 1023) (pos 0)) tap)
    where
      tap : (t : ℕ) → t < 6 → row_of pic pw ph j (− 65 +ℤ pos 63 +ℤ − 2 +ℤ pos t) ≡ cond (eqb t 5) (pos 1023) (pos 0)
      tap zero l = column_0 _ refl
      tap (suc zero) l = column_0 _ refl
      tap (suc (suc zero)) l = column_0 _ refl
      tap (suc (suc (suc zero))) l = column_0 _ refl
      tap (suc (suc (suc (suc zero)))) l = column_0 _ refl
      tap (suc (suc (suc (suc (suc zero))))) l = column_1
      tap (suc (suc (suc (suc (suc (suc t)))))) l = absurd (omega arith)

-- list 0 alone in use
alone : (u v : Bool) (f g : ℕ) → u ≡ true → v ≡ false → cond (u && v) (rounded_average f g) (cond u f g) ≡ f
alone u v f g p q = rw (p, q)

clipped_at : (W x w : ℕ) (mv : ℤ) → x ≡ 0 → mv ≡ − 257 → pos 4 *ℤ pos x +ℤ clip_component W x w mv ≡ − 256
unfolding clip_component
clipped_at W x w mv e f = ap₂ (λ (x : ℕ) (mv : ℤ). pos 4 *ℤ pos x +ℤ clip_component W x w mv) e f

exact_at : (x : ℕ) (mv : ℤ) → x ≡ 0 → mv ≡ − 257 → pos 4 *ℤ pos x +ℤ mv ≡ − 257
exact_at x mv e f = ap₂ (λ (x : ℕ) (mv : ℤ). pos 4 *ℤ pos x +ℤ mv) e f

still : (mv : ℤ) → mv ≡ pos 0 → is_filtered Y mv ≡ false
unfolding is_filtered phase_of
still mv e = ap (is_filtered Y) e

exact_phase : (y : ℕ) (mv : ℤ) → mv ≡ pos 0 → phase_of Y (pos 4 *ℤ pos y +ℤ mv) ≡ 0
unfolding phase_of
exact_phase y mv e =
    let f = fact (! mv) (! (pos 0)) e in
    (split_only 4 (pos 4 *ℤ pos y +ℤ mv) (pos y) 0 (lit< tt) (omega (arith, ints))).1

pub counterexample : Counterexample
unfolding clipped_place clip_mv
counterexample k given done ex y ly =
    let b = k.block in
    let u = ex.list0 in
    let v = ex.list1 in
    let columns = ex.columns in
    let o = allowed_block b (accepted_call b k.l0 k.l1 k.pred0 k.pred1 done).block in
    let pic = sample_at Y b.pic_w (k.picture0 luma) in
    let s = reference pic b.pic_w b.pic_h in
    let mvx = ap (λ (v : EvcMv). v.x) ex.mv in
    let mvy = ap (λ (v : EvcMv). v.y) ex.mv in
    let cy = pos 4 *ℤ pos b.y +ℤ clip_component b.pic_h b.y b.h k.l0.list.mv.y in
    let ey = pos 4 *ℤ pos b.y +ℤ k.l0.list.mv.y in (
      general_filter k given done luma 63 y (omega arith) ly
          ∙ alone k.l0.list.used k.l1.list.used _ _ u v
          ∙ ap (λ (z : ℤ). general Y s z cy 63 y) (clipped_at b.pic_w b.x b.w k.l0.list.mv.x ex.x mvx)
          ∙ across_alone Y s (− 256) cy 63 y (unfiltered_phase Y b.pic_h b.y b.h k.l0.list.mv.y o.1 (still k.l0.list.mv.y mvy))
          ∙ clipped_line pic b.pic_w b.pic_h (omega arith) (omega arith) columns _,
      alone k.l0.list.used k.l1.list.used _ _ u v
          ∙ ap (λ (z : ℤ). general Y s z ey 63 y) (exact_at b.x k.l0.list.mv.x ex.x mvx)
          ∙ across_alone Y s (− 257) ey 63 y (exact_phase b.y k.l0.list.mv.y mvy)
          ∙ exact_line pic b.pic_w b.pic_h (omega arith) (omega arith) columns _,
    )

pub computed : Computed
unfolding general general₁ tapped phase_of pel_of clipped_place clip_mv clip_component reference
computed =
    (((refl, refl), (refl, refl), (refl, refl), (refl, refl)), ((refl, refl), (refl, refl), (refl, refl), (refl, refl)), ((refl, refl), (refl, refl), (refl, refl), (refl, refl)))

-- ---- the quarters

quarter_premises : (k : Call) (right lower : Bool) (pred0 pred1 : List ℕ) → Premises k → Premises (quarter k right lower pred0 pred1)
quarter_premises k right lower pred0 pred1 given = record { made0 = given.made0; made1 = given.made1; counts = given.counts }

-- a column of a quarter is a column of the block, in its half
column_in : (n m : ℕ) (far : Bool) (x : ℕ) → n ≡ 2 * m → x < m → cond far m 0 + x < n
column_in n m true x e l = omega arith
column_in n m false x e l = omega arith

half_of_64 : (n : ℕ) → n ≤ 64 → n / 2 ≤ 32
half_of_64 n h = omega arith

module _ (k : Call) (given : Premises k) (done : Accepted k) (hw : 8 ≤ k.block.w) (hh : 8 ≤ k.block.h) (right lower : Bool) (pred0 pred1 : List ℕ) (long0 : pred_len ≤ length pred0) (long1 : pred_len ≤ length pred1) where
  quarter_accepts : Accepted (quarter k right lower pred0 pred1)
  quarter_accepts =
      let b = k.block in
      let a = accepted_call b k.l0 k.l1 k.pred0 k.pred1 done in
      accepts_call (quarter_of b right lower) k.l0 k.l1 pred0 pred1 k.picture0 k.picture1 given.made0 given.made1
      (record { block = quarter_accepted b right lower a.block hw hh; some = a.some; count0 = a.count0; count1 = a.count1; long0 = long0; long1 = long1 })

  -- a quarter's samples are those at the block's exact place
  quarter_exact : (c : Component) (x y : ℕ) → let q = quarter k right lower pred0 pred1 in x < width_of q.block c → y < height_of q.block c
      → exact_sample k c (cond right (width_of q.block c) 0 + x) (cond lower (height_of q.block c) 0 + y) ≡ sample q c x y
  quarter_exact c x y lx ly =
      let b = k.block in
      let q = quarter k right lower pred0 pred1 in
      let a = accepted_call b k.l0 k.l1 k.pred0 k.pred1 done in
      let o = allowed_block b a.block in
      let whole : EvcList → Picture → ℕ = λ l p. exact_list b l p c (cond right (width_of q.block c) 0 + x) (cond lower (height_of q.block c) 0 + y) in
      let part : EvcList → Picture → ℕ = λ l p. exact_list q.block l p c x y in
      let shifted : (l : EvcList) (p : Picture) → whole l p ≡ part l p = λ l p. sym (quarter_list b right lower o.0.side_fours o.1.side_fours l p c x y) in
      same_lists k whole part a.some (λ u. shifted k.l0.list k.picture0) (λ v. shifted k.l1.list k.picture1)
      ∙ sym (clipping_small q (quarter_premises k right lower pred0 pred1 given) quarter_accepts (half_of_64 b.w o.0.side_high) (half_of_64 b.h o.1.side_high) c x y lx ly)

pub quarters_hidden : QuartersHidden
quarters_hidden k given done hw hh right lower pred0 pred1 long0 long1 =
    let b = k.block in
    let o = allowed_block b (accepted_call b k.l0 k.l1 k.pred0 k.pred1 done).block in (
      quarter_accepts k given done hw hh right lower pred0 pred1 long0 long1,
      λ c hidden0 hidden1 x y lx ly.
          clipping_hidden k given done c hidden0 hidden1 _ _ (column_in _ _ right x (twice_half (type_of c) b.w o.0.side_fours) lx) (column_in _ _ lower y (twice_half (type_of c) b.h o.1.side_fours) ly)
          ∙ quarter_exact k given done hw hh right lower pred0 pred1 long0 long1 c x y lx ly,
    )

pub quarters_show : QuartersShow
quarters_show k given done ex hh lower pred0 pred1 long0 long1 y ly =
    let b = k.block in
    let o = allowed_block b (accepted_call b k.l0 k.l1 k.pred0 k.pred1 done).block in
    let row = cond lower (b.h / 2) 0 + y in
    let w = ex.wide in
    let column : 63 ≡ b.w / 2 + 31 = omega arith in
    sym (quarter_exact k given done (omega arith) hh true lower pred0 pred1 long0 long1 luma 31 y (omega arith) ly)
    ∙ sym (ap (λ (n : ℕ). exact_sample k luma n row) column)
    ∙ (counterexample k given done ex row (column_in _ _ lower y (twice_half Y b.h o.1.side_fours) ly)).1

unclipped_hidden : (k : PlaneType) (b : EvcBlock) (l : EvcList) → Unclipped b l → HiddenList k b l
unfolding clip_mv
unclipped_hidden k b l e = record { across = λ u. kept (ap (λ (v : EvcMv). v.x) (e u)); down = λ u. kept (ap (λ (v : EvcMv). v.y) (e u)) }

pub quarters : Quarters
quarters k given done hw hh kept0 kept1 right lower pred0 pred1 long0 long1 =
    let b = k.block in
    let o = allowed_block b (accepted_call b k.l0 k.l1 k.pred0 k.pred1 done).block in
    let same = quarters_hidden k given done hw hh right lower pred0 pred1 long0 long1 in
    record {
      accepted = same.0;
      width = λ c. twice_half (type_of c) b.w o.0.side_fours;
      height = λ c. twice_half (type_of c) b.h o.1.side_fours;
      samples = λ c. same.1 c (unclipped_hidden (type_of c) b k.l0.list kept0) (unclipped_hidden (type_of c) b k.l1.list kept1);
    }

-- ---- W6

pub invisible : Invisible
invisible = (quarters, clipping_small, clipping_chroma, counterexample, quarters_show, computed, clipping_hidden, quarters_hidden)
