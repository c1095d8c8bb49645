-- The quotient of two whole numbers that f64 holds is the exact fraction, rounded once.
--     div-whole    of any two floats that are whole numbers
--     once         of a sum and four times a count
-- Assumes nothing.
use mathlib.Core.Path.{◌≡◌, sym, ap, ◌∙◌, subst}
use mathlib.Core.Bool.{Bool, true, false}
use Prim.Native.Nat.{ℕ, suc, ◌*◌, ◌<◌, ◌^◌}
use native.Mathlib.Nat.{mul_assoc, mul_comm, mul-one, zero-mul, mul-pos, lt_irrefl, le_of_lt}
use native.Mathlib.Omega.{arith}
use borrow.Author.Tests.{ne_eqb}
use lib.IntN.{ℤ, pos, negsuc}
use lib.Signed.{mag}
use lib.Ieee.{Float, nan, inf, fin, Format, binary64, up, down, unlike, round, div, of_int}
use lib.Ieee.Exact.{HasValue}
use lib.Ieee.Back.{round_whole}
use lib.Ieee.Scale.{round_same}
use lib.Ieee.Fits.{down_pos}
use Rattle.evc_camera.specs.Camera.{mean_of}

-- a float with a value above zero has digits
digits : (n b : ℕ) (d : ℤ) → 0 < b → n * up d * 1 ≡ b * down d → n ≡ 0 → ⊥
digits n b d B k z = lt_irrefl 0 (subst (λ (x : ℕ). 0 < x) (sym (sym (ap (λ (x : ℕ). x * up d * 1) z ∙ (ap (λ (x : ℕ). x * 1) (zero-mul (up d)) ∙ zero-mul 1)) ∙ k)) (mul-pos B (down_pos d)))

cross : (a b e d : ℕ) → a * e * d * b ≡ a * (b * d * e)
cross a b e d = mul_assoc (a * e) d b ∙ (mul_assoc a e (d * b) ∙ ap (λ (x : ℕ). a * x) (mul_comm e (d * b) ∙ ap (λ (x : ℕ). x * e) (mul_comm d b)))

pub div_whole : (f : Format) (x y : Float) (s t : Bool) (a b : ℕ) → 0 < b → HasValue x s a 1 → HasValue y t b 1 → div f x y ≡ round f (unlike s t) a b
unfolding div
div_whole f nan y s t a b B h k = absurd h
div_whole f (inf p) y s t a b B h k = absurd h
div_whole f (fin p m e) nan s t a b B h k = absurd k
div_whole f (fin p m e) (inf r) s t a b B h k = absurd k
div_whole f (fin p m e) (fin r n d) s t a b B h k =
    let me : m * up e ≡ a * down e = sym (mul-one (m * up e)) ∙ h.1 in
    let nd : n * up d ≡ b * down d = sym (mul-one (n * up d)) ∙ k.1 in
    let D : 0 < n * up d * down e = subst (λ (x : ℕ). 0 < x * down e) (sym nd) (mul-pos (mul-pos B (down_pos d)) (down_pos e)) in
    simp (ne_eqb n 0 (digits n b d B k.1))
    (round_same f (unlike p r) (m * up e * down d) (n * up d * down e) a b D B
    (ap (λ (x : ℕ). x * down d * b) me ∙ (cross a b (down e) (down d) ∙ ap (λ (x : ℕ). a * (x * down e)) (sym nd)))
    ∙ (ap (λ (x : Bool). round f (unlike x r) a b) h.0 ∙ ap (λ (x : Bool). round f (unlike s x) a b) k.0))

pub once : (z : ℤ) (n : ℕ) → 0 < n → mag z < 2 ^ 53 → n < 2 ^ 51 → div binary64 (of_int binary64 z) (of_int binary64 (pos (4 * n))) ≡ mean_of z n
unfolding mean_of of_int
once (pos m) n h l k = div_whole binary64 _ _ false false m (4 * n) (omega arith) (round_whole binary64 false m (le_of_lt l)) (round_whole binary64 false (4 * n) (omega arith))
once (negsuc m) n h l k = div_whole binary64 _ _ true false (suc m) (4 * n) (omega arith) (round_whole binary64 true (suc m) l) (round_whole binary64 false (4 * n) (omega arith))
