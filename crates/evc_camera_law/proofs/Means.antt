-- A mean by its sum: +0.0 where that is zero, and no zero elsewhere; a negated sum turns it. Assumes nothing.
use mathlib.Core.Bool.{Bool, true, false, not, cond, ◌&&◌, ◌||◌}
use mathlib.Core.Logic.{⊎_elim}
use mathlib.Core.Path.{◌≡◌, refl, sym, ap, subst, ◌∙◌}
use Prim.Native.Nat.{ℕ, zero, suc, ◌+◌, ◌*◌, ◌<◌, ◌≤◌, ◌^◌}
use native.Mathlib.Nat.{zero-mul, mul-pos, lt_irrefl, add_comm}
use native.Mathlib.Omega.{arith}
use borrow.Author.Tests.{ne_eqb, eq-eqb}
use lib.Count.{count_trailing_zeros}
use lib.Dec.{T, ltb, eqb, ltb→lt, lt→ltb, eqb→eq, eqb-suc-zero}
use lib.IntN.{ℤ, pos, negsuc, neg_ℤ, nat_abs}
use lib.Ieee as Ieee
use lib.Ieee.{Float, nan, inf, fin, Format, binary64, round, units, odd, of_bits, of_fields, size, span, climb, low, prec, emax, up, down}
use lib.Ieee.Fits.{up_pos, down_pos, and_l}
use lib.Ieee.Order.{round_mono}
use lib.Ieee.Positive.{above, above_of_le}
use lib.Ieee.Scale.{round_same}
use mir.Facts.{or_yes}
use Rattle.evc_int.specs.Whole.{eq_z}
use Rattle.evc_map.specs.Maps.{most_units}
use Rattle.evc_camera.specs.Camera.{mean_of, plus_zero}
use Rattle.evc_camera_law.specs.CameraLaws.{turned, 8192·0, Within8192}

pub mean_zero : (n : ℕ) → 0 < n → mean_of (pos 0) n ≡ plus_zero
unfolding mean_of round units odd size span climb of_bits of_fields
mean_zero n h = round_same binary64 false 0 (4 * n) 0 1 (omega arith) (omega arith) (omega arith)

-- rounding does not look at the sign
odd_neg : (d : ℕ) (s : Bool) (q k l : ℕ) → odd d (not s) q k l ≡ Ieee.neg (odd d s q k l)
unfolding odd Ieee.neg
odd_neg d s zero k l = refl
odd_neg d s (suc q) k l = refl

units_neg : (f : Format) (s : Bool) (q k : ℕ) → units f (not s) q k ≡ Ieee.neg (units f s q k)
unfolding units Ieee.neg
units_neg f s q k = pick (ltb (q * 2 ^ k) (2 ^ (low f + suc (emax f))))
  where
    pick : (b : Bool) → cond b (odd (suc (prec f)) (not s) q k (low f)) (inf (not s)) ≡ Ieee.neg (cond b (odd (suc (prec f)) s q k (low f)) (inf s))
    pick true = odd_neg (suc (prec f)) s q k (low f)
    pick false = refl

pub round_neg : (f : Format) (s : Bool) (a b : ℕ) → round f (not s) a b ≡ Ieee.neg (round f s a b)
unfolding round
round_neg f s a b = units_neg f s _ _

-- ---- a fraction of at least 2 ^ -24 is not rounded to zero

-- 2 ^ -24
abbrev least : Float
least = fin false 1 (negsuc 23)

is_least : round binary64 false 1 16777216 ≡ least
unfolding round units odd size span climb count_trailing_zeros
is_least = refl

above_least : (m n : ℕ) → 0 < n → n ≤ most_units → T (above (round binary64 false (suc m) (4 * n)))
above_least m n h k =
    above_of_le least (round binary64 false (suc m) (4 * n)) tt
    (subst (λ (v : Float). T (Ieee.le v (round binary64 false (suc m) (4 * n)))) is_least
    (round_mono binary64 1 16777216 (suc m) (4 * n) (omega arith) (omega arith) (omega arith)))

-- what is above zero is no zero, and its negative neither
no_zero : (m : ℕ) (e : ℤ) → 0 < m → eqb (m * up e * 1) (0 * 1 * down e) ≡ false
no_zero m e h = ne_eqb _ _ (λ z. lt_irrefl 0 (subst (λ (n : ℕ). 0 < n) (z ∙ zero-mul (down e)) (mul-pos (mul-pos h (up_pos e)) (omega arith))))

above_no_zero : (v : Float) → T (above v) → Ieee.eq v plus_zero ≡ false
unfolding Ieee.eq of_bits of_fields
above_no_zero nan t = absurd t
above_no_zero (inf s) t = refl
above_no_zero (fin true m e) t = absurd t
above_no_zero (fin false m e) t = simp (no_zero m e (ltb→lt 0 m t))

below_no_zero : (v : Float) → T (above v) → Ieee.eq (Ieee.neg v) plus_zero ≡ false
unfolding Ieee.eq Ieee.neg of_bits of_fields
below_no_zero nan t = absurd t
below_no_zero (inf s) t = refl
below_no_zero (fin true m e) t = absurd t
below_no_zero (fin false m e) t = simp (no_zero m e (ltb→lt 0 m t))

-- ---- a mean and its sum

same_zero : Ieee.eq plus_zero plus_zero ≡ true
unfolding Ieee.eq of_bits of_fields
same_zero = refl

pub zero_turned : turned plus_zero ≡ plus_zero
zero_turned = ap (λ (b : Bool). cond b plus_zero (Ieee.neg plus_zero)) same_zero

pub neg_zero : (z : ℤ) → eq_z (neg_ℤ z) (pos 0) ≡ eq_z z (pos 0)
neg_zero (pos zero) = refl
neg_zero (pos (suc m)) = sym (eqb-suc-zero m)
neg_zero (negsuc m) = eqb-suc-zero m

module _ (n : ℕ) (h : 0 < n) (k : n ≤ most_units) where
  pub mean_is_zero : (z : ℤ) → Ieee.eq (mean_of z n) plus_zero ≡ eq_z z (pos 0)
  unfolding mean_of
  mean_is_zero (pos zero) = ap (λ (v : Float). Ieee.eq v plus_zero) (mean_zero n h) ∙ same_zero
  mean_is_zero (pos (suc m)) = above_no_zero _ (above_least m n h k) ∙ sym (eqb-suc-zero m)
  mean_is_zero (negsuc m) =
      ap (λ (v : Float). Ieee.eq v plus_zero) (round_neg binary64 false (suc m) (4 * n)) ∙ below_no_zero _ (above_least m n h k)

  by_sign : (z : ℤ) → mean_of (neg_ℤ z) n ≡ cond (eq_z z (pos 0)) (mean_of z n) (Ieee.neg (mean_of z n))
  unfolding mean_of
  by_sign (pos zero) = refl
  by_sign (pos (suc m)) = rw (eqb-suc-zero m) (round_neg binary64 false (suc m) (4 * n))
  by_sign (negsuc m) = round_neg binary64 true (suc m) (4 * n)

  -- the mean of the negated sum
  pub mean_turned : (z : ℤ) → mean_of (neg_ℤ z) n ≡ turned (mean_of z n)
  mean_turned z = by_sign z ∙ sym (ap (λ (b : Bool). cond b (mean_of z n) (Ieee.neg (mean_of z n))) (mean_is_zero z))

-- ---- the size of a mean

-- no minus, and not `nan`
abbrev unsigned : Float → Bool
unsigned nan = false
unsigned (inf s) = not s
unsigned (fin s m e) = not s

odd_unsigned : (d q k l : ℕ) → T (unsigned (odd d false q k l))
unfolding odd
odd_unsigned d zero k l = tt
odd_unsigned d (suc q) k l = tt

units_unsigned : (f : Format) (q k : ℕ) → T (unsigned (units f false q k))
unfolding units
units_unsigned f q k = pick (ltb (q * 2 ^ k) (2 ^ (low f + suc (emax f))))
  where
    pick : (b : Bool) → T (unsigned (cond b (odd (suc (prec f)) false q k (low f)) (inf false)))
    pick true = odd_unsigned (suc (prec f)) q k (low f)
    pick false = tt

round_unsigned : (f : Format) (a b : ℕ) → T (unsigned (round f false a b))
unfolding round
round_unsigned f a b = units_unsigned f _ _

is_8192 : round binary64 false 8192 1 ≡ 8192·0
unfolding round units odd size span climb count_trailing_zeros
is_8192 = refl

or_first : (a b : Bool) → T a → T (a || b)
or_first true b t = tt
or_first false b t = elim t [ ]

-- 8192 beside another number, both over one denominator
far : (a : ℕ) (e : ℤ) → T (ltb 0 (8192 * down e + a))
far a e = let d = down_pos e in lt→ltb 0 (8192 * down e + a) (omega arith)

-- a number without a minus is above -8192, and its negative below 8192
low_end : (v : Float) → T (unsigned v) → T (Ieee.le (Ieee.neg 8192·0) v)
unfolding Ieee.le Ieee.lt Ieee.eq Ieee.neg
low_end nan s = absurd s
low_end (inf true) s = absurd s
low_end (inf false) s = tt
low_end (fin true m e) s = absurd s
low_end (fin false m e) s = or_first (ltb 0 (8192 * down e + m * up e * 1)) _ (far (m * up e * 1) e)

high_end : (v : Float) → T (unsigned v) → T (Ieee.le (Ieee.neg v) 8192·0)
unfolding Ieee.le Ieee.lt Ieee.eq Ieee.neg
high_end nan s = absurd s
high_end (inf true) s = absurd s
high_end (inf false) s = tt
high_end (fin true m e) s = absurd s
high_end (fin false m e) s =
    let a = m * up e * 1 in
    or_first (ltb 0 (a + 8192 * down e)) _ (subst (λ (n : ℕ). T (ltb 0 n)) (add_comm (8192 * down e) a) (far a e))

-- and where it is at most 8192, its negative is at least -8192
other_way : (v : Float) → T (unsigned v) → T (Ieee.le v 8192·0) → T (Ieee.le (Ieee.neg 8192·0) (Ieee.neg v))
unfolding Ieee.le Ieee.lt Ieee.eq Ieee.neg
other_way nan s h = absurd s
other_way (inf true) s h = absurd s
other_way (inf false) s h = absurd h
other_way (fin true m e) s h = absurd s
other_way (fin false m e) s h = swap (m * up e * 1) (8192 * down e) h
  where
    swap : (a b : ℕ) → T (ltb a b || (eqb a b && true)) → T (ltb a b || (eqb b a && true))
    swap a b t =
        ⊎_elim (λ u. or_first (ltb a b) _ u)
        (λ u. subst (λ (c : Bool). T (ltb a b || (c && true))) (eq-eqb a b (eqb→eq a b (and_l (eqb a b) true u)) ∙ sym (eq-eqb b a (sym (eqb→eq a b (and_l (eqb a b) true u))))) t)
        (or_yes (ltb a b) (eqb a b && true) t)

module _ (m n : ℕ) (h : 0 < n) (k : m ≤ 32768 * n) where
  -- a fraction of at most 8192
  at_most : T (Ieee.le (round binary64 false m (4 * n)) 8192·0)
  at_most = subst (λ (v : Float). T (Ieee.le (round binary64 false m (4 * n)) v)) is_8192 (round_mono binary64 m (4 * n) 8192 1 (omega arith) (omega arith) (omega arith))

pub mean_bounded : (n : ℕ) → 0 < n → (z : ℤ) → nat_abs z ≤ 32768 * n → Within8192 (mean_of z n)
unfolding mean_of
mean_bounded n h (pos m) k = (low_end _ (round_unsigned binary64 m (4 * n)), at_most m n h k)
mean_bounded n h (negsuc m) k =
    let u = round_unsigned binary64 (suc m) (4 * n) in
    subst Within8192 (sym (round_neg binary64 false (suc m) (4 * n))) (other_way _ u (at_most (suc m) n h k), high_end _ u)

pub zero_bounded : Within8192 plus_zero
unfolding Ieee.le Ieee.lt Ieee.eq Ieee.neg of_bits of_fields
zero_bounded = (tt, tt)
