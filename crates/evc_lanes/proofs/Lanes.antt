-- The widths of blocks. Assumes nothing.
use mathlib.Core.Bool.{Bool, true, false, ◌&&◌, ◌||◌}
use Prim.Native.Nat.{ℕ, ◌%◌, ◌≤◌}
use mathlib.Core.Path.{◌≡◌, refl, sym, ap, subst, ◌∙◌}
use borrow.Author.Tests.{ne_eqb}
use lib.Dec.{T, eqb, leb, leb→le, eqb→eq}
use mir.Facts.{and_yes}
use Rattle.evc_lanes.specs.Inner.{is_row_width}

-- a block's width that is neither 4 nor 2 is a multiple of 8, from 8 on
pub eights : (n : ℕ) → is_row_width n ≡ true → (n ≡ 4 → ⊥) → (n ≡ 2 → ⊥) → (8 ≤ n) × (n % 8 ≡ 0)
eights n e f g =
    let t = and_yes (leb 8 n) (eqb (n % 8) 0) (subst T (sym (last (eqb n 2) (eqb n 4) (leb 8 n && eqb (n % 8) 0) e (ne_eqb n 2 g) (ne_eqb n 4 f))) tt) in
    (leb→le 8 n t.0, eqb→eq (n % 8) 0 t.1)
  where
    last : (a b c : Bool) → (a || b || c) ≡ true → a ≡ false → b ≡ false → c ≡ true
    last true b c p q r = absurd (subst T q tt)
    last false true c p q r = absurd (subst T r tt)
    last false false c p q r = p

-- a width or a height is 2, 4 or a multiple of 8
pub by_width : (P : ℕ → Type 0) (n : ℕ) → is_row_width n ≡ true → P 2 → P 4 → ((m : ℕ) → 8 ≤ m → m % 8 ≡ 0 → P m) → P n
by_width P n e p2 p4 pm = go (eqb n 4) (eqb n 2) refl refl
  where
    go : (a b : Bool) → eqb n 4 ≡ a → eqb n 2 ≡ b → P n
    go true b f g = subst P (sym (eqb→eq n 4 (subst T (sym f) tt))) p4
    go false true f g = subst P (sym (eqb→eq n 2 (subst T (sym g) tt))) p2
    go false false f g = let r = eights n e (λ i. absurd (subst T (ap (λ (n : ℕ). eqb n 4) (sym i) ∙ f) tt)) (λ i. absurd (subst T (ap (λ (n : ℕ). eqb n 2) (sym i) ∙ g) tt)) in pm n r.0 r.1
