-- The start of a path in machine numbers. Assumes nothing.
use mathlib.Core.Bool.{Bool, true, false}
use mathlib.Core.Path.{◌≡◌, sym, ap, ap₂, subst, ◌∙◌}
use Prim.Native.Nat.{◌+◌, ◌<◌, ◌≤◌}
use native.Mathlib.Omega.{arith}
use lib.IntN.{ℤ, pos, negsuc, ◌-ℤ◌}
use mir.Syntax.{w32}
use mir.Val.{SFits, to_z, of_z}
use mir.Facts.{to_z-of_z}
use Rattle.evc_int.specs.Whole.{◌⁺, ◌⁻}
use Rattle.evc_int.proofs.Whole.{of, nat, is--}
use Rattle.evc_int.proofs.Expressions.{ !, ◌⊕◌, ◌⊖◌, solve, neg}
use Rattle.evc_int.proofs.Machine.{fit}
use Rattle.evc_filter.specs.Filter.{lead}
use Rattle.evc_interp.specs.Prediction.{pel_of, start_of}
use Rattle.evc_plane.specs.declared.PlaneType.{PlaneType}
use Rattle.evc_plane.specs.declared.PlaneType.TheVariants.{Y, UV}

lead_small : (k : PlaneType) → lead k ≤ 2
lead_small Y = omega arith
lead_small UV = omega arith

-- a shift leaves room for the lead
room : (k : PlaneType) (z : ℤ) → SFits w32 z → (pel_of k z ⁺ < 2147483648) × (pel_of k z ⁻ + 2 ≤ 2147483648)
unfolding pel_of
room Y (pos n) f = let h : n < 2147483648 = f.sfits in omega arith
room Y (negsuc n) f = let h : n < 2147483648 = f.sfits in omega arith
room UV (pos n) f = let h : n < 2147483648 = f.sfits in omega arith
room UV (negsuc n) f = let h : n < 2147483648 = f.sfits in omega arith

module _ (k : PlaneType) (z p l : ℤ) (f : SFits w32 z) (g : SFits w32 p) (h : SFits w32 l) (ep : p ≡ pel_of k z) (el : l ≡ pos (lead k)) where
  less_is : to_z w32 (of_z w32 p) -ℤ to_z w32 (of_z w32 l) ≡ pel_of k z -ℤ pos (lead k)
  less_is = ap₂ (λ (x y : ℤ). x -ℤ y) (to_z-of_z g ∙ ep) (to_z-of_z h ∙ el)

  pub less_fits : SFits w32 (to_z w32 (of_z w32 p) -ℤ to_z w32 (of_z w32 l))
  less_fits = subst (SFits w32) (sym less_is) (fit (is-- (of (pel_of k z)) (nat (lead k))) (let b = lead_small k in omega (arith, room k z f)))

  pub start_is : (b : Bool) → b ≡ true → to_z w32 (of_z w32 (to_z w32 (of_z w32 p) -ℤ to_z w32 (of_z w32 l))) ≡ start_of k b z
  unfolding start_of
  start_is b e =
      to_z-of_z less_fits
      ∙ less_is
      ∙ solve (! (pel_of k z) ⊖ ! (pos (lead k))) (! (pel_of k z) ⊕ neg (! (pos (lead k)))) (omega arith)
      ∙ ap (λ (b : Bool). start_of k b z) (sym e)

pub pel_start : (k : PlaneType) (z : ℤ) (b : Bool) → b ≡ false → pel_of k z ≡ start_of k b z
unfolding start_of
pel_start k z b e = solve (! (pel_of k z)) (! (pel_of k z) ⊕ neg (! (pos 0))) (omega arith) ∙ ap (λ (b : Bool). start_of k b z) (sym e)
