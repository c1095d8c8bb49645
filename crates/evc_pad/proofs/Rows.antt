-- Rows of a plane replaced: what the library's copy and fill of a row are (`with_row`); of a block (`with_block`), what stands beside it in other
-- columns; equality row by row. Assumes nothing.
use Prim.Native.Nat.{ℕ, zero, suc, ◌+◌, ◌-◌, ◌*◌, ◌/◌, ◌%◌, ◌<◌, ◌≤◌}
use mathlib.Core.Bool.{Bool, true, false}
use mathlib.Core.Path.{◌≡◌, refl, sym, ap, ◌∙◌}
use mathlib.Core.List.{List}
use mathlib.Core.Logic.{⊎_elim, ◌⊎◌, inl, inr}
use native.Mathlib.Omega.{arith}
use native.Mathlib.Nat.{eq-or-lt_of_le, div-add-mod', div-lt_iff_lt-mul, mod-lt}
use lib.Dec.{ltb}
use lib.ListN.{length, get_or, set, drop, replicate}
use lib.Seq.{ext_get_or, get_or-drop, paste, paste-zero, paste-suc}
use borrow.Author.Tests.{ltb-true, ltb-false}
use borrow.Rule.Slice.PartMut.{put_mid}
use Rattle.std.proofs.lemmas.List.{length-drop, length-replicate, get_or-replicate}
use Rattle.std.proofs.lemmas.Slice.{put_mid-paste}
use Rattle.std.specs.List.{copy_within}
use Rattle.evc_int.specs.Lists.{with_row, with_block}
use Rattle.evc_int.proofs.Lists.{row_fits, with_row-ext, with_row-out}

module _ {X : Type 0} (e : X) where
  pasted : (l : List X) (at : ℕ) (s : List X) (n : ℕ) → at + n ≤ length l → n ≤ length s → paste l at s n ≡ with_row l at n (λ (x : ℕ). get_or s x e)
  unfolding with_row
  pasted l at s zero a b = sym (paste-zero l at s)
  pasted l at s (suc n) a b =
      sym (paste-suc l at s n e (omega arith) (omega arith)) ∙ ap (λ (m : List X). set m (at + n) (get_or s n e)) (pasted l at s n (omega arith) (omega arith))

  pub copied : (l : List X) (from to n : ℕ) → from + n ≤ length l → to + n ≤ length l → copy_within l from (from + n) to ≡ with_row l to n (λ (x : ℕ). get_or l (from + x) e)
  copied l from to n a b =
      let k : from + n - from ≡ n = omega arith in
      ap (paste l to (drop from l)) k ∙ pasted l to (drop from l) n b (omega (arith, length-drop from l))
      ∙ with_row-ext l to n (λ (x : ℕ). get_or (drop from l) x e) (λ (x : ℕ). get_or l (from + x) e) (λ x _. get_or-drop from l x e)

  pub filled : (l r : List X) (at k n : ℕ) (v : X) → r ≡ replicate n v → n ≡ k → at + n ≤ length l → put_mid at k l r ≡ with_row l at n (λ _. v)
  filled l r at k n v p m a =
      let w = replicate n v in
      put_mid-paste at k l r w n p m (sym (length-replicate n v)) ∙ pasted l at w n a (omega (arith, length-replicate n v))
      ∙ with_row-ext l at n (λ (x : ℕ). get_or w x e) (λ _. v) (λ x lt. get_or-replicate n x v e lt)

  -- column x of row y, where columns a .. a + n - 1 of some rows are replaced, and x is none of them
  pub with_block-beside : (l : List X) (base stride a n h : ℕ) (f : ℕ → ℕ → X) (y x : ℕ) → x < stride → a + n ≤ stride → (x < a) ⊎ (a + n ≤ x) → get_or (with_block l (base + a) stride n h f) (base + y * stride + x) e ≡ get_or l (base + y * stride + x) e
  unfolding with_block
  with_block-beside l base stride a n zero f y x lx la o = refl
  with_block-beside l base stride a n (suc h) f y x lx la o =
      with_row-out e (with_block l (base + a) stride n h f) (base + a + h * stride) n (f h) (base + y * stride + x) (outside (ltb y h) refl)
      ∙ with_block-beside l base stride a n h f y x lx la o
    where
      same_row : y ≡ h → (base + y * stride + x < base + a + h * stride) ⊎ (base + a + h * stride + n ≤ base + y * stride + x)
      same_row q = rw q (⊎_elim (λ p. inl (omega arith)) (λ p. inr (omega arith)) o)

      outside : (t : Bool) → ltb y h ≡ t → (base + y * stride + x < base + a + h * stride) ⊎ (base + a + h * stride + n ≤ base + y * stride + x)
      outside true p = inl (omega (arith, row_fits stride (ltb-true y h p)))
      outside false p =
          ⊎_elim (λ (q : h ≡ y). same_row (omega arith)) (λ (q : h < y). inr (omega (arith, row_fits stride q))) (eq-or-lt_of_le (ltb-false y h p))

-- two lists that agree in R rows of S elements and past them are equal
pub rows_ext : (S R : ℕ) (l m : List ℕ) → length l ≡ length m → ((y x : ℕ) → y < R → x < S → get_or l (y * S + x) 0 ≡ get_or m (y * S + x) 0) → ((i : ℕ) → R * S ≤ i → get_or l i 0 ≡ get_or m i 0) → l ≡ m
rows_ext S R l m n inside past = ext_get_or 0 l m n (λ i _. by_place i (ltb i (R * S)) refl)
  where
    by_place : (i : ℕ) (t : Bool) → ltb i (R * S) ≡ t → get_or l i 0 ≡ get_or m i 0
    by_place i true e =
        let lt = ltb-true i (R * S) e in
        let positive : 0 < S = some_column S lt in
        ap (λ (j : ℕ). get_or l j 0) (sym (div-add-mod' i S)) ∙ inside (i / S) (i % S) ((div-lt_iff_lt-mul positive).1 lt) (mod-lt i positive)
        ∙ ap (λ (j : ℕ). get_or m j 0) (div-add-mod' i S)
      where
        some_column : (S : ℕ) {i : ℕ} → i < R * S → 0 < S
        some_column zero lt = omega arith
        some_column (suc n) lt = omega arith
    by_place i false e = past i (ltb-false i (R * S) e)
