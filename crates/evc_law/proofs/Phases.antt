-- The general filter at phase 0: the taps of phase 0 pick one sample, so that at phase 0 in a direction the general filter is one direction alone, and at phase
-- 0 in both it is the sample. For luma and chroma at once. Assumes nothing.
use mathlib.Core.List.{List, [], ◌∷◌}
use mathlib.Core.Path.{◌≡◌, refl, sym, ap, ap₂, ◌∙◌, fun_ext}
use Prim.Native.Nat.{ℕ, suc, ◌<◌, ◌≤◌, suc-le-suc, zero-le}
use native.Mathlib.Omega.{arith}
use lib.Dec.{lit<}
use lib.IntN.{ℤ, pos, ◌+ℤ◌, ◌*ℤ◌}
use lib.ListN.{length}
use lib.Signed.{shr_z}
use Rattle.std.proofs.lemmas.Int.{ints}
use Rattle.evc_int.specs.Whole.{−◌}
use Rattle.evc_int.proofs.Expressions.{Ex, !, ◌⊕◌, ◌⊗◌, solve}
use Rattle.evc_int.proofs.Division.{solve_shr, fact_shr}
use Rattle.evc_plane.specs.declared.PlaneType.{PlaneType}
use Rattle.evc_plane.specs.declared.PlaneType.TheVariants.{Y, UV}
use Rattle.evc_filter.specs.Filter.{taps, lead, tap_sum, clip_sample, single_stage}
use Rattle.evc_interp.specs.Prediction.{phase_of, pel_of}
use Rattle.evc_law.specs.General.{tapped, general₁, general}

-- ---- the tap sum: over equal numbers, and over numbers times a

pub tap_sum-same : (ts : List ℤ) (f g : ℕ → ℤ) → ((n : ℕ) → n < length ts → f n ≡ g n) → tap_sum ts f ≡ tap_sum ts g
tap_sum-same [] f g h = refl
tap_sum-same (t ∷ ts) f g h =
    ap₂ (λ (y z : ℤ). t *ℤ y +ℤ z) (h 0 (suc-le-suc zero-le)) (tap_sum-same ts (λ (n : ℕ). f (suc n)) (λ (n : ℕ). g (suc n)) (λ n l. h (suc n) (suc-le-suc l)))

tap_sum-scale : (a : ℤ) (ts : List ℤ) (f : ℕ → ℤ) → tap_sum ts (λ (n : ℕ). a *ℤ f n) ≡ a *ℤ tap_sum ts f
tap_sum-scale a [] f = solve (! (pos 0)) (! a ⊗ ! (pos 0)) (omega arith)
tap_sum-scale a (t ∷ ts) f =
    ap (λ (z : ℤ). t *ℤ (a *ℤ f 0) +ℤ z) (tap_sum-scale a ts (λ (n : ℕ). f (suc n)))
    ∙ (let y = f 0 in let s = tap_sum ts (λ (n : ℕ). f (suc n)) in solve (! t ⊗ (! a ⊗ ! y) ⊕ ! a ⊗ ! s) (! a ⊗ (! t ⊗ ! y ⊕ ! s)) (omega arith))

-- a tap sum as an expression
abbrev tap_ex : List ℤ → (ℕ → ℤ) → Ex
tap_ex [] f = ! (pos 0)
tap_ex (t ∷ ts) f = ! t ⊗ ! (f 0) ⊕ tap_ex ts (λ (n : ℕ). f (suc n))

-- ---- the definition writes its numbers out; in the words of the call's own definitions

pub tapped_is : (k : PlaneType) (f : ℤ → ℤ) (place : ℤ) (c : ℕ) → tapped k f place c ≡ tap_sum (taps k (phase_of k place)) (λ (t : ℕ). f (pel_of k place +ℤ pos c +ℤ − lead k +ℤ pos t))
unfolding tapped phase_of pel_of
tapped_is Y f place c = refl
tapped_is UV f place c = refl

-- ---- phase 0

picks : (k : PlaneType) (f : ℕ → ℤ) → tap_sum (taps k 0) f ≡ pos 64 *ℤ f (lead k)
picks Y f = omega (arith, ints)
picks UV f = omega (arith, ints)

-- the taps of a place at phase 0: the sample there, times 64
pub tapped_whole : (k : PlaneType) (f : ℤ → ℤ) (place : ℤ) (c : ℕ) → phase_of k place ≡ 0 → tapped k f place c ≡ pos 64 *ℤ f (pel_of k place +ℤ pos c)
tapped_whole k f place c h =
    let p = pel_of k place in
    tapped_is k f place c
    ∙ ap (λ (q : ℕ). tap_sum (taps k q) (λ (t : ℕ). f (p +ℤ pos c +ℤ − lead k +ℤ pos t))) h
    ∙ picks k (λ (t : ℕ). f (p +ℤ pos c +ℤ − lead k +ℤ pos t))
    ∙ ap (λ (i : ℤ). pos 64 *ℤ f i) (omega (arith, ints))

-- rounding down twice is rounding down once
twice_down : (s : ℤ) → shr_z (pos 64 *ℤ shr_z s 4 +ℤ pos 512) 1024 ≡ shr_z (s +ℤ pos 32) 64
twice_down s =
    let a = fact_shr 4 (! s) (lit< tt) in
    let b = fact_shr 64 (! s ⊕ ! (pos 32)) (lit< tt) in
    solve_shr 1024 (! (pos 64) ⊗ ! (shr_z s 4) ⊕ ! (pos 512)) (! (shr_z (s +ℤ pos 32) 64)) (omega arith)

-- whole samples are not rounded at all
sixteen : (x : ℤ) → shr_z (pos 64 *ℤ x) 4 ≡ pos 16 *ℤ x
sixteen x = solve_shr 4 (! (pos 64) ⊗ ! x) (! (pos 16) ⊗ ! x) (omega arith)

sixteenfold : (s : ℤ) → shr_z (pos 16 *ℤ s +ℤ pos 512) 1024 ≡ shr_z (s +ℤ pos 32) 64
sixteenfold s =
    let b = fact_shr 64 (! s ⊕ ! (pos 32)) (lit< tt) in
    solve_shr 1024 (! (pos 16) ⊗ ! s ⊕ ! (pos 512)) (! (shr_z (s +ℤ pos 32) 64)) (omega arith)

tapped_scale : (k : PlaneType) (a : ℤ) (f : ℤ → ℤ) (place : ℤ) (c : ℕ) → tapped k (λ (i : ℤ). a *ℤ f i) place c ≡ a *ℤ tapped k f place c
tapped_scale k a f place c =
    tapped_is k (λ (i : ℤ). a *ℤ f i) place c
    ∙ tap_sum-scale a (taps k (phase_of k place)) (λ (t : ℕ). f (pel_of k place +ℤ pos c +ℤ − lead k +ℤ pos t))
    ∙ ap (λ (z : ℤ). a *ℤ z) (sym (tapped_is k f place c))

pub tapped_same : (k : PlaneType) (f g : ℤ → ℤ) → ((i : ℤ) → f i ≡ g i) → (place : ℤ) (c : ℕ) → tapped k f place c ≡ tapped k g place c
tapped_same k f g h place c = ap (λ (f : ℤ → ℤ). tapped k f place c) (fun_ext h)

module _ (k : PlaneType) (s : ℤ → ℤ → ℕ) (px py : ℤ) (c r : ℕ) where
  column : ℤ
  column = pel_of k px +ℤ pos c

  row : ℤ
  row = pel_of k py +ℤ pos r

  pub down_alone : phase_of k px ≡ 0 → general k s px py c r ≡ single_stage (tapped k (λ (j : ℤ). pos (s (pel_of k px +ℤ pos c) j)) py r)
  unfolding general general₁ column
  down_alone h =
      ap (λ (z : ℤ). clip_sample (shr_z (z +ℤ pos 512) 1024))
      (tapped_same k _ _ (λ j. ap (λ (z : ℤ). shr_z z 4) (tapped_whole k (λ (i : ℤ). pos (s i j)) px c h) ∙ sixteen (pos (s column j))) py r ∙ tapped_scale k (pos 16) (λ (j : ℤ). pos (s column j)) py r)
      ∙ ap clip_sample (sixteenfold (tapped k (λ (j : ℤ). pos (s column j)) py r))

  pub across_alone : phase_of k py ≡ 0 → general k s px py c r ≡ single_stage (tapped k (λ (i : ℤ). pos (s i (pel_of k py +ℤ pos r))) px c)
  unfolding general general₁ row
  across_alone h =
      ap (λ (z : ℤ). clip_sample (shr_z (z +ℤ pos 512) 1024)) (tapped_whole k _ py r h)
      ∙ ap clip_sample (twice_down (tapped k (λ (i : ℤ). pos (s i row)) px c))

  pub sample_alone : phase_of k px ≡ 0 → phase_of k py ≡ 0 → s (pel_of k px +ℤ pos c) (pel_of k py +ℤ pos r) ≤ 1023 → general k s px py c r ≡ s (pel_of k px +ℤ pos c) (pel_of k py +ℤ pos r)
  unfolding column row
  sample_alone h g b =
      let v = s column row in
      across_alone g
      ∙ ap single_stage (tapped_whole k (λ (i : ℤ). pos (s i row)) px c h)
      ∙ ap clip_sample (solve_shr 64 (! (pos 64) ⊗ ! (pos v) ⊕ ! (pos 32)) (! (pos v)) (omega arith))
      ∙ omega arith
