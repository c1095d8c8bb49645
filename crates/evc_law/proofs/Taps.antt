-- The mirror of one stage of the general filter: the taps of a place over a line of samples, and those of the mirrored place over the mirrored line. Mirrors are
-- stated by sums of positions. Assumes nothing.
use mathlib.Core.List.{List, [], ◌∷◌, ◌++◌, reverse, reverse-cons}
use mathlib.Core.Path.{◌≡◌, refl, sym, ap, ap₂, ◌∙◌}
use Prim.Native.Nat.{ℕ, zero, suc, ◌+◌, ◌*◌, ◌-◌}
use native.Mathlib.Omega.{arith}
use lib.IntN.{ℤ, pos, ◌+ℤ◌, ◌-ℤ◌, ◌*ℤ◌}
use lib.ListN.{length, length-reverse}
use Rattle.std.proofs.lemmas.Int.{ints}
use Rattle.evc_int.specs.Whole.{−◌}
use Rattle.evc_int.proofs.Expressions.{ !, ◌⊕◌, ◌⊖◌, ◌⊗◌, neg, solve, fact}
use Rattle.evc_int.proofs.Division.{split, split_only, modulo_lt}
use Rattle.evc_plane.specs.declared.PlaneType.{PlaneType}
use Rattle.evc_plane.specs.declared.PlaneType.TheVariants.{Y, UV}
use Rattle.evc_filter.specs.Filter.{taps, phases, lead, reach, tap_sum, first_stage, second_stage}
use Rattle.evc_filter.proofs.Tables.{symmetric, shape}
use Rattle.evc_interp.specs.Prediction.{phase_of, pel_of}
use Rattle.evc_interp.proofs.Windows.{some_phase}
use Rattle.evc_law.specs.General.{tapped, general₁, general}
use Rattle.evc_law.proofs.Phases.{tapped_is, tapped_whole, tapped_same}

-- ---- the tap sum, for any number of taps

tap_sum-last : (ts : List ℤ) (t : ℤ) (f : ℕ → ℤ) → tap_sum (ts ++ (t ∷ [])) f ≡ tap_sum ts f +ℤ t *ℤ f (length ts)
tap_sum-last [] t f = let y = f 0 in solve (! t ⊗ ! y ⊕ ! (pos 0)) (! (pos 0) ⊕ ! t ⊗ ! y) (omega arith)
tap_sum-last (u ∷ ts) t f =
    let s = tap_sum ts (λ (i : ℕ). f (suc i)) in
    let x = f 0 in
    let y = f (suc (length ts)) in
    ap (λ (z : ℤ). u *ℤ x +ℤ z) (tap_sum-last ts t (λ (i : ℕ). f (suc i))) ∙ solve (! u ⊗ ! x ⊕ (! s ⊕ ! t ⊗ ! y)) (! u ⊗ ! x ⊕ ! s ⊕ ! t ⊗ ! y) (omega arith)

-- the taps reversed over the numbers reversed
pub tap_sum-mirror : (ts : List ℤ) (f g : ℕ → ℤ) → ((i j : ℕ) → i + j + 1 ≡ length ts → g i ≡ f j) → tap_sum (reverse ts) g ≡ tap_sum ts f
tap_sum-mirror [] f g m = refl
tap_sum-mirror (t ∷ ts) f g m =
    let s = tap_sum ts (λ (i : ℕ). f (suc i)) in
    let x = f 0 in
    ap (λ (l : List ℤ). tap_sum l g) (reverse-cons t ts)
    ∙ tap_sum-last (reverse ts) t g
    ∙ ap (λ (n : ℕ). tap_sum (reverse ts) g +ℤ t *ℤ g n) (length-reverse ts)
    ∙ ap (λ (z : ℤ). z +ℤ t *ℤ g (length ts)) (tap_sum-mirror ts (λ (i : ℕ). f (suc i)) g (λ i j e. m i (suc j) (omega arith)))
    ∙ ap (λ (z : ℤ). s +ℤ t *ℤ z) (m (length ts) 0 (omega arith))
    ∙ solve (! s ⊕ ! t ⊗ ! x) (! t ⊗ ! x ⊕ ! s) (omega arith)

-- the taps lie evenly around the place and the sample after it
reach_even : (k : PlaneType) → reach k ≡ 2 * lead k + 1
reach_even Y = refl
reach_even UV = refl

-- ---- the taps of a place

-- g is f mirrored in a plane of N samples
abbrev pub LineMirrored : ℤ → (ℤ → ℤ) → (ℤ → ℤ) → Type 0
LineMirrored N f g = (i i' : ℤ) → i +ℤ i' +ℤ pos 1 ≡ N → g i ≡ f i'

-- the places add up to D whole samples, by which the block is smaller than the plane; the block's samples c and c' are each other's mirror
module _ (k : PlaneType) (f g : ℤ → ℤ) (N D : ℤ) (mirror : LineMirrored N f g) (p p' : ℤ) (c c' : ℕ) (places : p +ℤ p' ≡ pos (phases k) *ℤ D) (samples : D +ℤ pos (c + c' + 1) ≡ N) where
  pub tapped_mirror : tapped k g p' c' ≡ tapped k f p c
  unfolding phase_of pel_of
  tapped_mirror = go (phase_of k p) refl
    where
      m : ℕ
      m = phases k

      w : ℤ
      w = pel_of k p

      go : (q : ℕ) → phase_of k p ≡ q → tapped k g p' c' ≡ tapped k f p c
      go zero e =
          let a = fact (! p) (! (pos m) ⊗ ! w ⊕ ! (pos (phase_of k p))) (split m p (some_phase k)) in
          let t = fact (! p ⊕ ! p') (! (pos m) ⊗ ! D) places in
          let n = fact (! D ⊕ ! (pos (c + c' + 1))) (! N) samples in
          let o = split_only m p' (D -ℤ w) 0 (some_phase k) (solve (! p') (! (pos m) ⊗ (! D ⊖ ! w) ⊕ ! (pos 0)) (omega arith)) in
          tapped_whole k g p' c' o.1
          ∙ ap (λ (z : ℤ). pos 64 *ℤ g (z +ℤ pos c')) o.0
          ∙ ap (λ (z : ℤ). pos 64 *ℤ z) (mirror (D -ℤ w +ℤ pos c') (w +ℤ pos c) (omega (arith, ints)))
          ∙ sym (tapped_whole k f p c e)
      go (suc q) e =
          let r = phase_of k p in
          let b = lead k in
          let l = modulo_lt m p (some_phase k) in
          let a = fact (! p) (! (pos m) ⊗ ! w ⊕ ! (pos r)) (split m p (some_phase k)) in
          let t = fact (! p ⊕ ! p') (! (pos m) ⊗ ! D) places in
          let n = fact (! D ⊕ ! (pos (c + c' + 1))) (! N) samples in
          let w' = D -ℤ w -ℤ pos 1 in
          let o = split_only m p' w' (m - suc q) (omega arith) (solve (! p') (! (pos m) ⊗ (! D ⊖ ! w ⊖ ! (pos 1)) ⊕ ! (pos (m - suc q))) (omega arith)) in
          let over : ℤ → ℕ → ℤ = λ (z : ℤ) (t : ℕ). g (z +ℤ pos c' +ℤ − b +ℤ pos t) in
          tapped_is k g p' c'
          ∙ ap₂ (λ (x : ℕ) (z : ℤ). tap_sum (taps k x) (over z)) o.1 o.0
          ∙ ap (λ (ts : List ℤ). tap_sum ts (over w')) (symmetric k q (omega arith))
          ∙ tap_sum-mirror (taps k (suc q)) (λ (t : ℕ). f (w +ℤ pos c +ℤ − b +ℤ pos t)) (over w')
          (λ i j s. mirror (w' +ℤ pos c' +ℤ − b +ℤ pos i) (w +ℤ pos c +ℤ − b +ℤ pos j)
          (solve ((! D ⊖ ! w ⊖ ! (pos 1)) ⊕ ! (pos c') ⊕ neg (! (pos b)) ⊕ ! (pos i) ⊕ (! w ⊕ ! (pos c) ⊕ neg (! (pos b)) ⊕ ! (pos j)) ⊕ ! (pos 1)) (! N)
          (omega (arith, n, s, (shape k (suc q) (omega arith)).count, reach_even k))))
          ∙ ap (λ (x : ℕ). tap_sum (taps k x) (λ (t : ℕ). f (w +ℤ pos c +ℤ − b +ℤ pos t))) (sym e)
          ∙ sym (tapped_is k f p c)

-- ---- both stages, over a mirrored padded reference picture

module _ (k : PlaneType) (s s' : ℤ → ℤ → ℕ) (N D : ℤ) where
  pub general_left_right : ((i i' j : ℤ) → i +ℤ i' +ℤ pos 1 ≡ N → s' i j ≡ s i' j) → (px px' py : ℤ) (c c' r : ℕ) → px +ℤ px' ≡ pos (phases k) *ℤ D → D +ℤ pos (c + c' + 1) ≡ N → general k s' px' py c' r ≡ general k s px py c r
  unfolding general general₁
  general_left_right m px px' py c c' r places samples =
      ap second_stage
      (tapped_same k (general₁ k s' px' c') (general₁ k s px c)
      (λ j. ap first_stage (tapped_mirror k (λ (i : ℤ). pos (s i j)) (λ (i : ℤ). pos (s' i j)) N D (λ i i' e. ap pos (m i i' j e)) px px' c c' places samples)) py r)

  pub general_top_bottom : ((i j j' : ℤ) → j +ℤ j' +ℤ pos 1 ≡ N → s' i j ≡ s i j') → (px py py' : ℤ) (c r r' : ℕ) → py +ℤ py' ≡ pos (phases k) *ℤ D → D +ℤ pos (r + r' + 1) ≡ N → general k s' px py' c r' ≡ general k s px py c r
  unfolding general general₁
  general_top_bottom m px py py' c r r' places samples =
      ap second_stage
      (tapped_mirror k (general₁ k s px c) (general₁ k s' px c) N D
      (λ j j' e. ap first_stage (tapped_same k (λ (i : ℤ). pos (s' i j)) (λ (i : ℤ). pos (s i j')) (λ i. ap pos (m i j j' e)) px c)) py py' r r' places samples)
