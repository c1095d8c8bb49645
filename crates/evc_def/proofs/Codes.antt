-- Laws of `first_of`: a check that refuses, one that does not, an accepted call, and the lowest number. Assumes nothing.
use mathlib.Core.Bool.{Bool, true, false, ◌&&◌, ◌||◌}
use mathlib.Core.List.{List, [], ◌∷◌, ◌++◌}
use mathlib.Core.Logic.{⊎_elim, ◌⊎◌, inl, inr}
use mathlib.Core.Path.{◌≡◌, refl, sym, subst}
use Prim.Native.Nat.{ℕ, ◌≤◌, ◌<◌}
use native.Mathlib.Omega.{arith}
use lib.Dec.{T, eqb, ltb, ltb→lt, eqb→eq}
use borrow.Author.Tests.{eq-eqb}
use mir.Facts.{and_yes, or_yes}
use Rattle.evc_def.specs.Codes.{Check, ◌when◌, first_of}

module _ (n : ℕ) (b : Bool) (checks : List Check) where
  pub refused : b ≡ true → first_of (n when b ∷ checks) ≡ n
  unfolding first_of
  refused e = simp e

  pub passed : b ≡ false → first_of (n when b ∷ checks) ≡ first_of checks
  unfolding first_of
  passed e = simp e

pub none : first_of [] ≡ 0
unfolding first_of
none = refl

-- a call that gives 0 passed its first check, and the rest gives 0 too
pub accepted : (n : ℕ) (b : Bool) (checks : List Check) → 0 < n → first_of (n when b ∷ checks) ≡ 0 → (b ≡ false) × (first_of checks ≡ 0)
unfolding first_of
accepted n true checks h e = absurd (omega arith)
accepted n false checks h e = (refl, e)

-- ---- "rising number": the first number is the lowest of those that refuse

-- a check with this number refuses
abbrev pub refuses : ℕ → List Check → Bool
refuses k [] = false
refuses k (n when b ∷ checks) = (eqb k n && b) || refuses k checks

-- every number is above m, and above those before it
abbrev pub rising : ℕ → List Check → Bool
rising m [] = true
rising m (n when b ∷ checks) = ltb m n && rising n checks

-- the number of a check that refuses is this one's, or stands further on
here_or_later : (k n : ℕ) (b : Bool) (checks : List Check) → T (refuses k (n when b ∷ checks)) → ((k ≡ n) × T b) ⊎ T (refuses k checks)
here_or_later k n b checks t =
    ⊎_elim (λ h. let y = and_yes (eqb k n) b h in inl (eqb→eq k n y.0, y.1)) (λ h. inr h) (or_yes (eqb k n && b) (refuses k checks) t)

above : (m k : ℕ) (checks : List Check) → T (rising m checks) → T (refuses k checks) → m < k
above m k [] r t = absurd t
above m k (n when b ∷ checks) r t =
    let y = and_yes (ltb m n) (rising n checks) r in
    let l = ltb→lt m n y.0 in
    ⊎_elim (λ h. let e = h.0 in omega arith) (λ h. let a = above n k checks y.1 h in omega arith) (here_or_later k n b checks t)

-- no check that refuses has a lower number than the one returned
pub lowest : (m k : ℕ) (checks : List Check) → T (rising m checks) → T (refuses k checks) → first_of checks ≤ k
unfolding first_of
lowest m k [] r t = absurd t
lowest m k (n when true ∷ checks) r t =
    let y = and_yes (ltb m n) (rising n checks) r in
    ⊎_elim (λ h. let e = h.0 in omega arith) (λ h. let a = above n k checks y.1 h in omega arith) (here_or_later k n true checks t)
lowest m k (n when false ∷ checks) r t =
    ⊎_elim (λ h. absurd h.1) (λ h. lowest n k checks (and_yes (ltb m n) (rising n checks) r).1 h) (here_or_later k n false checks t)

-- and the one returned is that of a check that refuses, unless it is 0
pub returned : (checks : List Check) → 0 < first_of checks → T (refuses (first_of checks) checks)
unfolding first_of
returned [] h = absurd (omega arith)
returned (n when true ∷ checks) h = subst (λ (t : Bool). T (t && true || refuses n checks)) (sym (eq-eqb n n refl)) tt
returned (n when false ∷ checks) h = or_later (eqb (first_of checks) n && false) (refuses (first_of checks) checks) (returned checks h)
  where
    or_later : (a b : Bool) → T b → T (a || b)
    or_later true b t = tt
    or_later false b t = t

-- ---- checks in two parts: the first part refuses, or the second decides

pub stops : (xs ys : List Check) → (first_of xs ≡ 0 → ⊥) → first_of (xs ++ ys) ≡ first_of xs
unfolding first_of
stops [] ys n = absurd (n refl)
stops (n when true ∷ xs) ys h = refl
stops (n when false ∷ xs) ys h = stops xs ys h

pub goes_on : (m : ℕ) (xs ys : List Check) → T (rising m xs) → first_of xs ≡ 0 → first_of (xs ++ ys) ≡ first_of ys
unfolding first_of
goes_on m [] ys r e = refl
goes_on m (n when true ∷ xs) ys r e = let l = ltb→lt m n (and_yes (ltb m n) (rising n xs) r).0 in absurd (omega arith)
goes_on m (n when false ∷ xs) ys r e = goes_on n xs ys (and_yes (ltb m n) (rising n xs) r).1 e

pub both_accepted : (m : ℕ) (xs ys : List Check) → T (rising m xs) → first_of (xs ++ ys) ≡ 0 → (first_of xs ≡ 0) × (first_of ys ≡ 0)
unfolding first_of
both_accepted m [] ys r e = (refl, e)
both_accepted m (n when true ∷ xs) ys r e = let l = ltb→lt m n (and_yes (ltb m n) (rising n xs) r).0 in absurd (omega arith)
both_accepted m (n when false ∷ xs) ys r e = both_accepted n xs ys (and_yes (ltb m n) (rising n xs) r).1 e
