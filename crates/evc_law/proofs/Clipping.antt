-- Clipping is hidden where no filter reaches past the edge sample: a line prolonged by its edge samples, filtered at a place past a clip limit, is 64 times the
-- edge sample, if the block has at most 32 samples in the plane or the place is a whole luma sample past. So the filter at the clipped place is the filter at the
-- exact one. Assumes nothing.
use mathlib.Core.Bool.{Bool, true, false, cond}
use mathlib.Core.Logic.{◌⊎◌, inl, inr}
use mathlib.Core.Path.{◌≡◌, refl, sym, ap, ◌∙◌}
use Prim.Native.Nat.{ℕ, zero, suc, ◌+◌, ◌-◌, ◌*◌, ◌/◌, ◌%◌, ◌≤◌, ◌<◌, min}
use native.Mathlib.Omega.{arith}
use lib.IntN.{ℤ, pos, ◌+ℤ◌, ◌*ℤ◌}
use lib.Signed.{lt_z}
use Rattle.evc_int.specs.Whole.{−◌, ◌⁺, ◌⁻, clip3}
use Rattle.evc_int.proofs.Whole.{of, is_eq, is-k*, parts_are, same}
use Rattle.evc_int.proofs.Expressions.{ !, ◌⊕◌, ◌⊗◌, fact}
use Rattle.evc_int.proofs.Division.{split}
use Rattle.evc_def.specs.Blocks.{Allowed}
use Rattle.evc_def.specs.declared.EvcBlock.{EvcBlock}
use Rattle.evc_def.specs.declared.EvcMv.{EvcMv}
use Rattle.evc_plane.specs.declared.PlaneType.{PlaneType}
use Rattle.evc_plane.specs.declared.PlaneType.TheVariants.{Y, UV}
use Rattle.evc_plane.specs.Planes.{side_of, reference}
use Rattle.evc_filter.specs.Filter.{taps, phases, lead, reach, first_stage, second_stage}
use Rattle.evc_filter.proofs.Tables.{shape}
use Rattle.evc_filter.proofs.Sums.{balance}
use Rattle.evc_interp.specs.Prediction.{phase_of, pel_of}
use Rattle.evc_interp.proofs.Windows.{some_phase, phase_small}
use Rattle.evc_clip.specs.Clip.{margin, clip_component, clip_mv, clipped_place}
use Rattle.evc_clip.proofs.Laws.{last_place, clipped_place_lem}
use Rattle.evc_law.specs.General.{tapped, general₁, general}
use Rattle.evc_law.specs.Invisible.{exact_place, Hidden, small, kept, raised, lowered}
use Rattle.evc_law.proofs.Phases.{tapped_is, tapped_whole, tapped_same}
use Rattle.evc_law.proofs.Paths.{aligned_phase}

-- ---- the taps of a place over equal numbers: their sum is 64

tapped_flat : (k : PlaneType) (f : ℤ → ℤ) (p : ℤ) (c : ℕ) (e : ℤ) → ((t : ℕ) → t ≤ reach k → f (pel_of k p +ℤ pos c +ℤ − lead k +ℤ pos t) ≡ e) → tapped k f p c ≡ pos 64 *ℤ e
tapped_flat k f p c e h =
    let q = phase_of k p in
    let s = shape k q (phase_small k p q refl) in
    let b = balance (taps k q) (λ (t : ℕ). f (pel_of k p +ℤ pos c +ℤ − lead k +ℤ pos t)) (λ _. e ⁺) (e ⁻) (λ t l. is_eq (h t (omega (arith, s.count))) (of e)) in
    tapped_is k f p c ∙ same b (is-k* 64 (of e)) (omega (arith, s.total (e ⁺), s.total (e ⁻)))

-- ---- where the taps of a place lie that is past a limit

module _ (k : PlaneType) (p : ℤ) where
  parts_of : p ⁺ + phases k * pel_of k p ⁻ ≡ phases k * pel_of k p ⁺ + phase_of k p + p ⁻
  unfolding phase_of pel_of
  parts_of =
      let m = phases k in
      let q = pel_of k p in
      omega (arith, fact (! p) (! (pos m) ⊗ ! q ⊕ ! (pos (phase_of k p))) (split m p (some_phase k)))

  tap_at : (c t : ℕ) → (pel_of k p +ℤ pos c +ℤ − lead k +ℤ pos t) ⁺ ≡ pel_of k p ⁺ + c + t - (pel_of k p ⁻ + lead k)
  tap_at c t = omega (arith, parts_are)

  whole_at : (c : ℕ) → (pel_of k p +ℤ pos c) ⁺ ≡ pel_of k p ⁺ + c - pel_of k p ⁻
  whole_at c = omega (arith, parts_are)

-- Below the low limit, 64 samples before the picture's first (in chroma 32): at phase 0 the block's last sample lies before the picture. At another phase the
-- place is a whole sample further out; the last tap, 3 past it (chroma 2), lies on the edge sample or before where the block has at most 32 samples, or where the
-- place is a whole luma sample past the limit
low_whole : (k : PlaneType) (w : ℕ) (p : ℤ) (c : ℕ) → w ≤ 64 → c < side_of k w → phase_of k p ≡ 0 → p ⁺ + 256 ≤ p ⁻ → (pel_of k p +ℤ pos c) ⁺ ≡ 0
low_whole Y w p c lw lc e h = omega (arith, parts_of Y p, whole_at Y p c)
low_whole UV w p c lw lc e h = omega (arith, parts_of UV p, whole_at UV p c)

low_tap : (k : PlaneType) (w : ℕ) (p : ℤ) (c r t : ℕ) → w ≤ 64 → c < side_of k w → phase_of k p ≡ suc r → t ≤ reach k → p ⁺ + 256 ≤ p ⁻ → (side_of k w ≤ 32) ⊎ (p ⁺ + 260 ≤ p ⁻)
    → (pel_of k p +ℤ pos c +ℤ − lead k +ℤ pos t) ⁺ ≡ 0
low_tap Y w p c r t lw lc e lt h (inl n) = omega (arith, parts_of Y p, tap_at Y p c t)
low_tap Y w p c r t lw lc e lt h (inr n) = omega (arith, parts_of Y p, tap_at Y p c t)
low_tap UV w p c r t lw lc e lt h n = omega (arith, parts_of UV p, tap_at UV p c t)

-- above the high limit, the block's last sample 64 samples past the picture's last: likewise with the first tap, 2 before the place (chroma 1)
high_whole : (k : PlaneType) (W w : ℕ) (p : ℤ) (c : ℕ) → W % 4 ≡ 0 → w % 4 ≡ 0 → w ≤ W → w ≤ 64 → phase_of k p ≡ 0 → 4 * W + 256 + p ⁻ ≤ p ⁺ + 4 * w → side_of k W - 1 ≤ (pel_of k p +ℤ pos c) ⁺
high_whole Y W w p c fW fw i l e h = omega (arith, parts_of Y p, whole_at Y p c)
high_whole UV W w p c fW fw i l e h = omega (arith, parts_of UV p, whole_at UV p c)

high_tap : (k : PlaneType) (W w : ℕ) (p : ℤ) (c t : ℕ) → W % 4 ≡ 0 → w % 4 ≡ 0 → w ≤ W → w ≤ 64 → 4 * W + 256 + p ⁻ ≤ p ⁺ + 4 * w → (side_of k w ≤ 32) ⊎ (4 * W + 260 + p ⁻ ≤ p ⁺ + 4 * w)
    → side_of k W - 1 ≤ (pel_of k p +ℤ pos c +ℤ − lead k +ℤ pos t) ⁺
high_tap Y W w p c t fW fw i l h (inl n) = omega (arith, parts_of Y p, tap_at Y p c t, phase_small Y p (phase_of Y p) refl)
high_tap Y W w p c t fW fw i l h (inr n) = omega (arith, parts_of Y p, tap_at Y p c t, phase_small Y p (phase_of Y p) refl)
high_tap UV W w p c t fW fw i l h n = omega (arith, parts_of UV p, tap_at UV p c t, phase_small UV p (phase_of UV p) refl)

-- the limits are whole samples, in luma and in chroma
zero_phase : (k : PlaneType) → phase_of k (pos 0) ≡ 0
unfolding phase_of
zero_phase Y = refl
zero_phase UV = refl

-- ---- a line prolonged by its edge samples

-- f reads a line of N samples: its sample at i is that at i held to 0 .. N - 1
abbrev Prolonged : ℕ → (ℤ → ℤ) → Type 0
Prolonged N f = (i i' : ℤ) → min (i ⁺) (N - 1) ≡ min (i' ⁺) (N - 1) → f i ≡ f i'

module _ (k : PlaneType) (W x w : ℕ) (ok : Allowed W x w) (f : ℤ → ℤ) (prolonged : Prolonged (side_of k W) f) (c : ℕ) (lc : c < side_of k w) where
  -- past a limit: at phase 0, and at any phase where the block is small or the place far out
  low_at : (p : ℤ) → p ⁺ + 256 ≤ p ⁻ → phase_of k p ≡ 0 → tapped k f p c ≡ pos 64 *ℤ f (pos 0)
  low_at p h e = tapped_whole k f p c e ∙ ap (λ (z : ℤ). pos 64 *ℤ z) (prolonged _ _ (omega (arith, low_whole k w p c ok.side_high lc e h)))

  low : (p : ℤ) → p ⁺ + 256 ≤ p ⁻ → (side_of k w ≤ 32) ⊎ (p ⁺ + 260 ≤ p ⁻) → tapped k f p c ≡ pos 64 *ℤ f (pos 0)
  low p h n = go (phase_of k p) refl
    where
      go : (r : ℕ) → phase_of k p ≡ r → tapped k f p c ≡ pos 64 *ℤ f (pos 0)
      go zero e = low_at p h e
      go (suc r) e = tapped_flat k f p c (f (pos 0)) (λ t l. prolonged _ _ (omega (arith, low_tap k w p c r t ok.side_high lc e l h n)))

  high_at : (p : ℤ) → 4 * W + 256 + p ⁻ ≤ p ⁺ + 4 * w → phase_of k p ≡ 0 → tapped k f p c ≡ pos 64 *ℤ f (pos (side_of k W - 1))
  high_at p h e =
      tapped_whole k f p c e ∙ ap (λ (z : ℤ). pos 64 *ℤ z) (prolonged _ _ (omega (arith, high_whole k W w p c ok.size_fours ok.side_fours (omega arith) ok.side_high e h)))

  high : (p : ℤ) → 4 * W + 256 + p ⁻ ≤ p ⁺ + 4 * w → (side_of k w ≤ 32) ⊎ (4 * W + 260 + p ⁻ ≤ p ⁺ + 4 * w) → tapped k f p c ≡ pos 64 *ℤ f (pos (side_of k W - 1))
  high p h n =
      tapped_flat k f p c (f (pos (side_of k W - 1)))
      (λ t l. prolonged _ _ (omega (arith, high_tap k W w p c t ok.size_fours ok.side_fours (omega arith) ok.side_high h n)))

  low_phase : phase_of k (− 256) ≡ 0
  low_phase = aligned_phase k (− 256) (− 16) (pos 0) refl (zero_phase k)

  high_phase : phase_of k (last_place W w) ≡ 0
  high_phase =
      let q = (W + margin - w) / 4 in
      aligned_phase k (last_place W w) (pos q) (pos 0) (omega (arith, parts_are)) (zero_phase k)

  tapped_clipped : (mv : ℤ) → Hidden k W x w mv → tapped k f (pos 4 *ℤ pos x +ℤ clip_component W x w mv) c ≡ tapped k f (pos 4 *ℤ pos x +ℤ mv) c
  unfolding clip3
  tapped_clipped mv hidden =
      let e = clipped_place_lem W x w mv (omega arith) in
      ap (λ (z : ℤ). tapped k f z c) e ∙ go _ _ refl refl e
    where
      exact : ℤ
      exact = pos 4 *ℤ pos x +ℤ mv

      clipped : ℤ
      clipped = clip_component W x w mv

      far_low : Hidden k W x w mv → pos 4 *ℤ pos x +ℤ clipped ≡ − 256 → exact ⁺ + 256 < exact ⁻ → (side_of k w ≤ 32) ⊎ (exact ⁺ + 260 ≤ exact ⁻)
      far_low (small n) e h = inl n
      far_low (kept q) e h = absurd (omega (arith, parts_are))
      far_low (raised l) e h = inr (omega (arith, parts_are))
      far_low (lowered l) e h = absurd (omega (arith, parts_are))

      far_high : Hidden k W x w mv → pos 4 *ℤ pos x +ℤ clipped ≡ last_place W w → 4 * W + 256 + exact ⁻ < exact ⁺ + 4 * w → (side_of k w ≤ 32) ⊎ (4 * W + 260 + exact ⁻ ≤ exact ⁺ + 4 * w)
      far_high (small n) e h = inl n
      far_high (kept q) e h = absurd (omega (arith, parts_are))
      far_high (raised l) e h = absurd (omega (arith, parts_are))
      far_high (lowered l) e h = inr (omega (arith, parts_are))

      go : (s t : Bool) → lt_z exact (− 256) ≡ s → lt_z (last_place W w) exact ≡ t → pos 4 *ℤ pos x +ℤ clipped ≡ cond s (− 256) (cond t (last_place W w) exact)
          → tapped k f (cond s (− 256) (cond t (last_place W w) exact)) c ≡ tapped k f exact c
      go true t a b e = low_at (− 256) (omega arith) low_phase ∙ sym (low exact (omega (arith, parts_are)) (far_low hidden e (omega (arith, parts_are))))
      go false true a b e = high_at (last_place W w) (omega (arith, parts_are)) high_phase ∙ sym (high exact (omega (arith, parts_are)) (far_high hidden e (omega (arith, parts_are))))
      go false false a b e = refl

-- ---- both stages, over the padded reference picture

module _ (k : PlaneType) (b : EvcBlock) (across : Allowed b.pic_w b.x b.w) (down : Allowed b.pic_h b.y b.h) (pic : ℕ → ℕ → ℕ) (mv : EvcMv) (hidden-x : Hidden k b.pic_w b.x b.w mv.x) (hidden-y : Hidden k b.pic_h b.y b.h mv.y) where
  pub general_clipped : (x y : ℕ) → x < side_of k b.w → y < side_of k b.h → let s = reference pic (side_of k b.pic_w) (side_of k b.pic_h) in
      general k s (clipped_place b mv).x.0 (clipped_place b mv).y.0 x y ≡ general k s (exact_place b mv).x.0 (exact_place b mv).y.0 x y
  unfolding general general₁ clipped_place clip_mv reference
  general_clipped x y lx ly =
      let s = reference pic (side_of k b.pic_w) (side_of k b.pic_h) in
      let px = (exact_place b mv).x.0 in
      ap second_stage
      (tapped_same k _ (general₁ k s px x)
      (λ j. ap first_stage (tapped_clipped k b.pic_w b.x b.w across (λ (i : ℤ). pos (s i j)) (λ i i' e. ap (λ (n : ℕ). pos (pic n (min (j ⁺) (side_of k b.pic_h - 1)))) e) x lx mv.x hidden-x))
      (clipped_place b mv).y.0 y
      ∙ tapped_clipped k b.pic_h b.y b.h down (general₁ k s px x)
      (λ j j' e. ap first_stage (tapped_same k _ _ (λ i. ap (λ (n : ℕ). pos (pic (min (i ⁺) (side_of k b.pic_w - 1)) n)) e) px x)) y ly mv.y hidden-y)
