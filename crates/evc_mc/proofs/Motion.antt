-- Equal motion: clipped places of a block are equal where the clipped vectors are. Assumes nothing.
use mathlib.Core.Bool.{Bool, true, ◌&&◌}
use mathlib.Core.Path.{◌≡◌, refl, sym, ap, ap₂, subst, ◌∙◌}
use Prim.Native.Nat.{◌*◌}
use native.Mathlib.Omega.{arith}
use borrow.Author.Tests.{eq-eqb}
use lib.Dec.{eqb}
use lib.IntN.{ℤ, pos, negsuc, ◌+ℤ◌}
use Rattle.std.specs.Cmp.{both_ways}
use Rattle.std.proofs.Math.Bool.{and_assoc}
use Rattle.evc_int.specs.Whole.{eq_z}
use Rattle.evc_int.proofs.Whole.{eq_z-true}
use Rattle.evc_int.proofs.Expressions.{ !, ◌⊕◌, solve, fact}
use Rattle.evc_def.specs.Places.{is_same}
use Rattle.evc_def.specs.declared.EvcBlock.{EvcBlock}
use Rattle.evc_def.specs.declared.QpelPlace.{QpelPlace}
use Rattle.evc_clip.specs.Clip.{clip_mv, clipped_place}
use Rattle.evc_mc.specs.Block.{same_motion}
use Rattle.evc_mc.specs.declared.EvcList.{EvcList}

eq_z-refl : (a : ℤ) → eq_z a a ≡ true
eq_z-refl (pos a) = eq-eqb a a refl
eq_z-refl (negsuc a) = eq-eqb a a refl

eq-eq_z : (a b : ℤ) → a ≡ b → eq_z a b ≡ true
eq-eq_z a b e = subst (λ (z : ℤ). eq_z a z ≡ true) e (eq_z-refl a)

moved_eq : (x a b : ℤ) → eq_z (x +ℤ a) (x +ℤ b) ≡ eq_z a b
moved_eq x a b =
    both_ways (eq_z (x +ℤ a) (x +ℤ b)) (eq_z a b)
    (λ e. eq-eq_z a b (solve (! a) (! b) (omega (arith, fact (! x ⊕ ! a) (! x ⊕ ! b) (eq_z-true (x +ℤ a) (x +ℤ b) e)))))
    (λ e. eq-eq_z (x +ℤ a) (x +ℤ b) (ap (λ (z : ℤ). x +ℤ z) (eq_z-true a b e)))

pub same_motion_is : (b : EvcBlock) (l m : EvcList) (g h : QpelPlace) (r : Bool) → g ≡ clipped_place b l.mv → h ≡ clipped_place b m.mv
    → r ≡ (eqb l.poc m.poc && is_same g h) → r ≡ same_motion b l m
unfolding same_motion clipped_place
same_motion_is b l m g h r eg eh e =
    e
    ∙ ap₂ (λ (p q : QpelPlace). eqb l.poc m.poc && is_same p q) eg eh
    ∙ sym (and_assoc (eqb l.poc m.poc) _ _)
    ∙ ap₂ (λ (s t : Bool). eqb l.poc m.poc && s && t) (moved_eq (pos (4 * b.x)) (clip_mv b l.mv).x (clip_mv b m.mv).x) (moved_eq (pos (4 * b.y)) (clip_mv b l.mv).y (clip_mv b m.mv).y)
