-- What calls at each index in turn gave. Assumes nothing.
use Rattle.std.proofs.Common.{◌≡◌, sym, subst, ◌∙◌, ℕ, zero, suc, ◌+◌, ◌<◌, List, arith, slice_index_or}
use denote.Param.Members.{Mut, Called}
use Rattle.std.specs.Array.{IsFromFnResultFrom}

module _ {F B : Type 0} (g : Mut F (ℕ × Unit {0}) B) (f : F) (value : ℕ → B) (step : (i : ℕ) (y : B) (q : F) → Called g f (i, tt) y q → (q ≡ f) × (y ≡ value i)) where
  behind : (ys : List B) (i n : ℕ) → IsFromFnResultFrom g f ys i n → (j : ℕ) (d : B) → j < n → slice_index_or ys (i + j) d ≡ value (i + j)
  behind ys i zero p j d l = absurd (omega (arith, l))
  behind ys i (suc n) p zero d l =
      let e : i + 0 ≡ i = omega arith in
      rw e (p.2.1 d ∙ (step i _ _ p.3).1)
  behind ys i (suc n) p (suc j) d l =
      let e : i + suc j ≡ i + 1 + j = omega arith in
      rw e (behind ys (i + 1) n (subst (λ (h : F). IsFromFnResultFrom g h ys (i + 1) n) (step i _ _ p.3).0 p.4) j d (omega (arith, l)))

  pub each : (ys : List B) (n : ℕ) → IsFromFnResultFrom g f ys 0 n → (k : ℕ) (d : B) → k < n → slice_index_or ys k d ≡ value k
  each ys n p k d l =
      let e : k ≡ 0 + k = omega arith in
      subst (λ (x : ℕ). slice_index_or ys x d ≡ value x) (sym e) (behind ys 0 n p k d l)
