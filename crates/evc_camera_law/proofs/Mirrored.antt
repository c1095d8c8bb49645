-- The vectors of a mirrored picture are those of the picture, in another order. Assumes nothing.
use mathlib.Core.Bool.{Bool, true, false, cond}
use mathlib.Core.List.Permᴰ
use mathlib.Core.List.{List, [], ◌∷◌, ◌++◌, Permᴰ}
use mathlib.Core.Path.{◌≡◌, refl, sym, ap, subst, ◌∙◌}
use Prim.Native.Nat.{ℕ, zero, suc, ◌+◌, ◌*◌, ◌<◌}
use native.Mathlib.Nat.{add-zero, add-suc, add_comm, zero-mul, suc-mul, mul-one}
use native.Mathlib.Omega.{arith}
use Rattle.evc_def.specs.declared.EvcMv.{EvcMv}
use Rattle.evc_camera_law.proofs.Vectors.{picked, alike}

-- the first n, and m more
in_two : (p : ℕ → Bool) (v : ℕ → EvcMv) (n m : ℕ) → picked p v (n + m) ≡ picked (λ (i : ℕ). p (n + i)) (λ (i : ℕ). v (n + i)) m ++ picked p v n
unfolding picked
in_two p v n zero = rw (add-zero n)
in_two p v n (suc m) = rw (add-suc n m) (pick (p (n + m)) (in_two p v n m))
  where
    pick : (b : Bool) → picked p v (n + m) ≡ picked (λ (i : ℕ). p (n + i)) (λ (i : ℕ). v (n + i)) m ++ picked p v n
        → cond b (v (n + m) ∷ picked p v (n + m)) (picked p v (n + m)) ≡ cond b (v (n + m) ∷ picked (λ (i : ℕ). p (n + i)) (λ (i : ℕ). v (n + i)) m) (picked (λ (i : ℕ). p (n + i)) (λ (i : ℕ). v (n + i)) m) ++ picked p v n
    pick true e = ap (λ (l : List EvcMv). v (n + m) ∷ l) e
    pick false e = e

exchanged : (l m : List EvcMv) → Permᴰ (l ++ m) (m ++ l)
exchanged [] m = Permᴰ.symm (Permᴰ.append-nil m)
exchanged (a ∷ l) m = Permᴰ.trans (Permᴰ.cons refl (exchanged l m)) (Permᴰ.symm (Permᴰ.middle a m l))

-- along equal lists
pub along : {k l m n : List EvcMv} → k ≡ l → Permᴰ l m → n ≡ m → Permᴰ k n
along {l = l} {n = n} e d f = subst (λ (x : List EvcMv). Permᴰ x n) (sym e) (subst (Permᴰ l) (sym f) d)

-- ---- blocks of so many, one after the other

module _ (size : ℕ) where
  first : (i : ℕ) → 0 * size + i ≡ i
  first i = let z = zero-mul size in omega arith

  later : (k i : ℕ) → suc k * size + i ≡ size + (k * size + i)
  later k i = let z = suc-mul k size in omega arith

  -- the last block, and those before it
  last_off : (p : ℕ → Bool) (v : ℕ → EvcMv) (n : ℕ) → picked p v (suc n * size) ≡ picked (λ (i : ℕ). p (n * size + i)) (λ (i : ℕ). v (n * size + i)) size ++ picked p v (n * size)
  last_off p v n = ap (picked p v) (suc-mul n size) ∙ in_two p v (n * size) size

  -- those behind the first block, and it
  first_off : (p : ℕ → Bool) (v : ℕ → EvcMv) (n : ℕ) → picked p v (suc n * size) ≡ picked (λ (i : ℕ). p (size + i)) (λ (i : ℕ). v (size + i)) (n * size) ++ picked p v size
  first_off p v n = ap (picked p v) (suc-mul n size ∙ add_comm (n * size) size) ∙ in_two p v size (n * size)

  -- n blocks, the last one first
  pub reversed : (n : ℕ) (p q : ℕ → Bool) (v u : ℕ → EvcMv) → ((k k' i : ℕ) → k + k' + 1 ≡ n → i < size → p (k * size + i) ≡ q (k' * size + i))
      → ((k k' i : ℕ) → k + k' + 1 ≡ n → i < size → p (k * size + i) ≡ true → v (k * size + i) ≡ u (k' * size + i)) → Permᴰ (picked p v (n * size)) (picked q u (n * size))
  unfolding picked
  reversed zero p q v u e f = rw (zero-mul size) Permᴰ.nil
  reversed (suc n) p q v u e f =
      let block =
      alike (λ (i : ℕ). p (n * size + i)) q (λ (i : ℕ). v (n * size + i)) u size
      (λ i l. e n 0 i (omega arith) l ∙ ap q (first i)) (λ i l t. f n 0 i (omega arith) l t ∙ ap u (first i)) in
      let rest =
      reversed n p (λ (i : ℕ). q (size + i)) v (λ (i : ℕ). u (size + i))
      (λ k k' i s l. e k (suc k') i (omega arith) l ∙ ap q (later k' i)) (λ k k' i s l t. f k (suc k') i (omega arith) l t ∙ ap u (later k' i)) in
      along (last_off p v n ∙ ap (λ (l : List EvcMv). l ++ picked p v (n * size)) block)
      (Permᴰ.trans (Permᴰ.append_left (picked q u size) rest) (exchanged (picked q u size) _)) (first_off q u n)

  -- n blocks, each in another order
  pub each : (n : ℕ) (p q : ℕ → Bool) (v u : ℕ → EvcMv)
      → ((k : ℕ) → k < n → Permᴰ (picked (λ (i : ℕ). p (k * size + i)) (λ (i : ℕ). v (k * size + i)) size) (picked (λ (i : ℕ). q (k * size + i)) (λ (i : ℕ). u (k * size + i)) size))
      → Permᴰ (picked p v (n * size)) (picked q u (n * size))
  unfolding picked
  each zero p q v u d = rw (zero-mul size) Permᴰ.nil
  each (suc n) p q v u d =
      along (last_off p v n)
      (Permᴰ.trans (Permᴰ.append_right (picked p v (n * size)) (d n (omega arith)))
      (Permᴰ.append_left (picked (λ (i : ℕ). q (n * size + i)) (λ (i : ℕ). u (n * size + i)) size) (each n p q v u (λ k l. d k (omega arith))))) (last_off q u n)

-- ---- a picture of w units across and h down

module _ (w h : ℕ) (p q : ℕ → Bool) (v u : ℕ → EvcMv) where
  pub rows_reversed : ((x y y' : ℕ) → x < w → y + y' + 1 ≡ h → p (y * w + x) ≡ q (y' * w + x)) → ((x y y' : ℕ) → x < w → y + y' + 1 ≡ h → p (y * w + x) ≡ true → v (y * w + x) ≡ u (y' * w + x))
      → Permᴰ (picked p v (h * w)) (picked q u (h * w))
  rows_reversed e f = reversed w h p q v u (λ y y' x s l. e x y y' l s) (λ y y' x s l t. f x y y' l s t)

  -- a row is so many blocks of one unit
  pub columns_reversed : ((x x' y : ℕ) → x + x' + 1 ≡ w → y < h → p (y * w + x) ≡ q (y * w + x')) → ((x x' y : ℕ) → x + x' + 1 ≡ w → y < h → p (y * w + x) ≡ true → v (y * w + x) ≡ u (y * w + x'))
      → Permᴰ (picked p v (h * w)) (picked q u (h * w))
  columns_reversed e f = each w h p q v u row
    where
      at : (x i : ℕ) → i < 1 → x * 1 + i ≡ x
      at x i l = omega arith

      row : (y : ℕ) → y < h → Permᴰ (picked (λ (i : ℕ). p (y * w + i)) (λ (i : ℕ). v (y * w + i)) w) (picked (λ (i : ℕ). q (y * w + i)) (λ (i : ℕ). u (y * w + i)) w)
      row y l =
          along (ap (picked (λ (i : ℕ). p (y * w + i)) (λ (i : ℕ). v (y * w + i))) (sym (mul-one w)))
          (reversed 1 w (λ (i : ℕ). p (y * w + i)) (λ (i : ℕ). q (y * w + i)) (λ (i : ℕ). v (y * w + i)) (λ (i : ℕ). u (y * w + i))
          (λ x x' i s k. rw (at x i k, at x' i k) (e x x' y s l)) (λ x x' i s k. rw (at x i k, at x' i k) (λ t. f x x' y s l t)))
          (ap (picked (λ (i : ℕ). q (y * w + i)) (λ (i : ℕ). u (y * w + i))) (sym (mul-one w)))
