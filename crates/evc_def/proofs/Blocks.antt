-- What the checks leave: an accepted block is allowed in both directions; it is accepted at its mirrored places too. Assumes nothing.
use mathlib.Core.Bool.{Bool, true, false, not, ◌&&◌, ◌||◌}
use mathlib.Core.Logic.{⊎_elim}
use mathlib.Core.Path.{◌≡◌, refl, sym, ap₂, subst, ◌∙◌}
use Prim.Native.Nat.{ℕ, ◌+◌, ◌-◌, ◌%◌, ◌≤◌}
use native.Mathlib.Omega.{arith}
use lib.Dec.{T, leb, eqb, leb→le, eqb→eq}
use borrow.Author.Tests.{eq-eqb, le-leb, not-false}
use mir.Facts.{and_yes, or_yes}
use Rattle.evc_def.specs.Blocks.{is_picture_side, is_block_side, is_inside, bad_picture, bad_block, Allowed}
use Rattle.evc_def.specs.Codes.{first_of, block_checks}
use Rattle.evc_def.specs.declared.EvcBlock.{EvcBlock}
use Rattle.evc_def.proofs.Codes.{accepted, passed, none}

-- what holds of each side holds of a block's side
pub by_sides : (P : ℕ → Type 0) → P 4 → P 8 → P 16 → P 32 → P 64 → (n : ℕ) → T (is_block_side n) → P n
by_sides P p4 p8 p16 p32 p64 n t =
    ⊎_elim
    (λ t. ⊎_elim
    (λ t. ⊎_elim
    (λ t. ⊎_elim
    (λ t. subst P (sym (eqb→eq n 4 t)) p4)
    (λ t. subst P (sym (eqb→eq n 8 t)) p8) (or_yes (eqb n 4) (eqb n 8) t))
    (λ t. subst P (sym (eqb→eq n 16 t)) p16) (or_yes (eqb n 4 || eqb n 8) (eqb n 16) t))
    (λ t. subst P (sym (eqb→eq n 32 t)) p32) (or_yes (eqb n 4 || eqb n 8 || eqb n 16) (eqb n 32) t))
    (λ t. subst P (sym (eqb→eq n 64 t)) p64) (or_yes (eqb n 4 || eqb n 8 || eqb n 16 || eqb n 32) (eqb n 64) t)

-- a block's side is a multiple of 4 from 4 to 64
side_is : (n : ℕ) → T (is_block_side n) → (4 ≤ n) × (n ≤ 64) × (n % 4 ≡ 0)
side_is = by_sides (λ (n : ℕ). (4 ≤ n) × (n ≤ 64) × (n % 4 ≡ 0)) (omega arith) (omega arith) (omega arith) (omega arith) (omega arith)

-- ---- a picture's sides

pub record PictureSide (n : ℕ) : Type 0 where
  pub low : 4 ≤ n
  pub top : n ≤ 8128
  pub fours : n % 4 ≡ 0

picture_side : (n : ℕ) → T (is_picture_side n) → PictureSide n
picture_side n t =
    let a = and_yes (leb 4 n && leb n 8128) (eqb (n % 4) 0) t in
    let b = and_yes (leb 4 n) (leb n 8128) a.0 in
    record { low = leb→le 4 n b.0; top = leb→le n 8128 b.1; fours = eqb→eq (n % 4) 0 a.1 }

both : (a b : Bool) → not (a && b) ≡ false → T a × T b
both a b e = and_yes a b (subst T (sym (not-false _ e)) tt)

pub picture_sides : (W H : ℕ) → bad_picture W H ≡ false → PictureSide W × PictureSide H
unfolding bad_picture
picture_sides W H e = let b = both (is_picture_side W) (is_picture_side H) e in (picture_side W b.0, picture_side H b.1)

-- ---- a block

allowed_side : (size place side : ℕ) → PictureSide size → T (is_block_side side) → T (is_inside size place side) → Allowed size place side
allowed_side size place side p s i =
    let b = side_is side s in
    let i₁ = and_yes (eqb (place % 4) 0) (leb (place + side) size) i in
    record {
      size_fours = p.fours;
      place_fours = eqb→eq (place % 4) 0 i₁.0;
      side_fours = b.2;
      size_high = p.top;
      side_low = b.0;
      side_high = b.1;
      inside = leb→le (place + side) size i₁.1;
    }

-- a block that the check does not refuse: sides, then place and extent
pub block_is : (b : EvcBlock) → bad_block b ≡ false
    → T (is_block_side b.w) × T (is_block_side b.h) × T (is_inside b.pic_w b.x b.w) × T (is_inside b.pic_h b.y b.h)
unfolding bad_block
block_is b q =
    let q₁ = both (is_block_side b.w && is_block_side b.h && is_inside b.pic_w b.x b.w) (is_inside b.pic_h b.y b.h) q in
    let q₂ = and_yes (is_block_side b.w && is_block_side b.h) (is_inside b.pic_w b.x b.w) q₁.0 in
    let q₃ = and_yes (is_block_side b.w) (is_block_side b.h) q₂.0 in
    (q₃.0, q₃.1, q₂.1, q₁.1)

-- a picture and a block that no check refuses
pub allowed : (b : EvcBlock) → bad_picture b.pic_w b.pic_h ≡ false → bad_block b ≡ false → Allowed b.pic_w b.x b.w × Allowed b.pic_h b.y b.h
allowed b p q =
    let p₁ = picture_sides b.pic_w b.pic_h p in
    let o = block_is b q in
    (allowed_side b.pic_w b.x b.w p₁.0 o.0 o.2, allowed_side b.pic_h b.y b.h p₁.1 o.1 o.3)

-- a picture that holds a block is not too small
pub large_enough : (b : EvcBlock) → bad_block b ≡ false → (4 ≤ b.pic_w) × (4 ≤ b.pic_h)
large_enough b q =
    let o = block_is b q in
    (at_least_4 b.pic_w b.x b.w o.0 o.2, at_least_4 b.pic_h b.y b.h o.1 o.3)
  where
    at_least_4 : (size place side : ℕ) → T (is_block_side side) → T (is_inside size place side) → 4 ≤ size
    at_least_4 size place side s i =
        let l = (side_is side s).0 in
        let k = leb→le (place + side) size (and_yes (eqb (place % 4) 0) (leb (place + side) size) i).1 in
        omega arith

pub allowed_block : (b : EvcBlock) → first_of (block_checks b) ≡ 0 → Allowed b.pic_w b.x b.w × Allowed b.pic_h b.y b.h
allowed_block b e =
    let f = accepted 1 _ _ (omega arith) e in
    let g = accepted 2 _ _ (omega arith) f.1 in
    allowed b f.0 g.0

-- ---- a block at another place of its picture

pub allowed_mirror : (size place side : ℕ) → Allowed size place side → Allowed size (size - place - side) side
allowed_mirror size place side a =
    record {
      size_fours = a.size_fours;
      place_fours = omega arith;
      side_fours = a.side_fours;
      size_high = a.size_high;
      side_low = a.side_low;
      side_high = a.side_high;
      inside = omega arith;
    }

pub inside_is : (size place side : ℕ) → place % 4 ≡ 0 → place + side ≤ size → is_inside size place side ≡ true
inside_is size place side e l = ap₂ (λ (s t : Bool). s && t) (eq-eqb (place % 4) 0 e) (le-leb (place + side) size l)

-- its sides were accepted already
pub accepted_at : (b : EvcBlock) (x y : ℕ) → first_of (block_checks b) ≡ 0 → Allowed b.pic_w x b.w → Allowed b.pic_h y b.h
    → first_of (block_checks (record { pic_w = b.pic_w; pic_h = b.pic_h; x = x; y = y; w = b.w; h = b.h })) ≡ 0
unfolding bad_block
accepted_at b x y e ax ay =
    let f = accepted 1 _ _ (omega arith) e in
    let g = accepted 2 _ _ (omega arith) f.1 in
    passed 1 _ _ f.0
    ∙ passed 2 _ _
    (again (is_block_side b.w) (is_block_side b.h) (is_inside b.pic_w b.x b.w) (is_inside b.pic_h b.y b.h) _ _ g.0 (inside_is b.pic_w x b.w ax.place_fours ax.inside) (inside_is b.pic_h y b.h ay.place_fours ay.inside))
    ∙ none
  where
    again : (w h x y x' y' : Bool) → not (w && h && x && y) ≡ false → x' ≡ true → y' ≡ true → not (w && h && x' && y') ≡ false
    again true true x y x' y' e p q = rw (p, q) refl
    again true false x y x' y' e p q = e
    again false h x y x' y' e p q = e
