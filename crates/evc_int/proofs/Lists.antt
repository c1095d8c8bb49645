-- Laws of lists with a row or a block of elements replaced (`with_row`, `with_block`): the turns of a loop, what stands at each place, and blocks
-- written one after the other. Assumes nothing.
use Prim.Native.Nat.{ℕ, zero, suc, ◌+◌, ◌-◌, ◌*◌, ◌<◌, ◌≤◌}
use mathlib.Core.Bool.{Bool, true, false}
use mathlib.Core.Path.{◌≡◌, refl, sym, ap, subst, ◌∙◌}
use mathlib.Core.List.{List, [], ◌∷◌, ◌++◌}
use mathlib.Core.Logic.{⊎_elim, ◌⊎◌, inl, inr}
use native.Mathlib.Numerals.{add-one}
use native.Mathlib.Omega.{arith}
use native.Mathlib.Nat.{eq-or-lt_of_le, le_of_suc-le-suc, not-suc-le-zero, mul-le-mul_right, suc-mul, zero-mul, suc-add, zero-add, add-zero, add-suc, add_assoc}
use lib.Dec.{ltb}
use lib.ListN.{length, set, length-set, get_or, take, drop, length-drop, take-append-drop}
use lib.Seq.{get_or-set_same, get_or-set_other, set_comm, set-set, set-append_left, length-take-le}
use borrow.Author.Tests.{ltb-true, ltb-false}
use Rattle.evc_int.specs.Lists.{with_row, with_block}

-- row y of h rows of n elements ends within them
pub row_fits : {y h : ℕ} (n : ℕ) → y < h → y * n + n ≤ h * n
row_fits {y} {h} n lt = let e : suc y * n ≡ y * n + n = suc-mul y n in let m : suc y * n ≤ h * n = mul-le-mul_right n lt in omega arith

module _ {X : Type 0} where
  -- ---- lengths, and one element or one row more

  pub length-with_row : (l : List X) (at n : ℕ) (f : ℕ → X) → length (with_row l at n f) ≡ length l
  unfolding with_row
  length-with_row l at zero f = refl
  length-with_row l at (suc n) f = length-set (with_row l at n f) (at + n) (f n) ∙ length-with_row l at n f

  pub length-with_block : (l : List X) (at stride n h : ℕ) (f : ℕ → ℕ → X) → length (with_block l at stride n h f) ≡ length l
  unfolding with_block
  length-with_block l at stride n zero f = refl
  length-with_block l at stride n (suc h) f = length-with_row (with_block l at stride n h f) (at + h * stride) n (f h) ∙ length-with_block l at stride n h f

  with_row-more : (l : List X) (at n : ℕ) (f : ℕ → X) → with_row l at (n + 1) f ≡ set (with_row l at n f) (at + n) (f n)
  unfolding with_row
  with_row-more l at n f = rw add-one

  with_block-more : (l : List X) (at stride n h : ℕ) (f : ℕ → ℕ → X) → with_block l at stride n (h + 1) f ≡ with_row (with_block l at stride n h f) (at + h * stride) n (f h)
  unfolding with_block
  with_block-more l at stride n h f = rw add-one

  -- ---- a loop that writes one element a turn

  pub row_step : (l l₀ : List X) (at x : ℕ) (f : ℕ → X) (v : X) → l ≡ with_row l₀ at x f → v ≡ f x → set l (at + x) v ≡ with_row l₀ at (x + 1) f
  row_step l l₀ at x f v p q = rw (p, q) (sym (with_row-more l₀ at x f))

  -- ---- a loop that writes one row a turn

  pub block_step : (l l₀ k : List X) (at stride n y : ℕ) (f : ℕ → ℕ → X) → l ≡ with_block l₀ at stride n y f → k ≡ with_row l (at + y * stride) n (f y) → k ≡ with_block l₀ at stride n (y + 1) f
  block_step l l₀ k at stride n y f p q = q ∙ rw p (sym (with_block-more l₀ at stride n y f))

  -- ---- the same elements said in another way

  pub with_row-ext : (l : List X) (at n : ℕ) (f g : ℕ → X) → ((x : ℕ) → x < n → f x ≡ g x) → with_row l at n f ≡ with_row l at n g
  unfolding with_row
  with_row-ext l at zero f g h = refl
  with_row-ext l at (suc n) f g h =
      ap (λ (k : List X). set k (at + n) (f n)) (with_row-ext l at n f g (λ x b. h x (omega arith)))
      ∙ ap (λ (v : X). set (with_row l at n g) (at + n) v) (h n (omega arith))

  pub with_block-ext : (l : List X) (at stride n h : ℕ) (f g : ℕ → ℕ → X) → ((y x : ℕ) → y < h → x < n → f y x ≡ g y x) → with_block l at stride n h f ≡ with_block l at stride n h g
  unfolding with_block
  with_block-ext l at stride n zero f g q = refl
  with_block-ext l at stride n (suc h) f g q =
      ap (λ (k : List X). with_row k (at + h * stride) n (f h)) (with_block-ext l at stride n h f g (λ y x b c. q y x (omega arith) c))
      ∙ with_row-ext (with_block l at stride n h g) (at + h * stride) n (f h) (g h) (λ x b. q h x (omega arith) b)

  -- ---- what stands at each place (e is what `get_or` gives past the end)

  module _ (e : X) where
    pub with_row-out : (l : List X) (at n : ℕ) (f : ℕ → X) (i : ℕ) → (i < at) ⊎ (at + n ≤ i) → get_or (with_row l at n f) i e ≡ get_or l i e
    unfolding with_row
    with_row-out l at zero f i h = refl
    with_row-out l at (suc n) f i h =
        get_or-set_other (with_row l at n f) (at + n) i (f n) e (⊎_elim (λ w q. omega arith) (λ w q. omega arith) h)
        ∙ with_row-out l at n f i (⊎_elim (λ w. inl w) (λ w. inr (omega arith)) h)

    pub with_row-in : (l : List X) (at n : ℕ) (f : ℕ → X) (x : ℕ) → x < n → at + n ≤ length l → get_or (with_row l at n f) (at + x) e ≡ f x
    unfolding with_row
    with_row-in l at zero f x lt fits = absurd (not-suc-le-zero lt)
    with_row-in l at (suc n) f x lt fits =
        ⊎_elim
        (λ (q : x ≡ n).
        let b : at + n < length (with_row l at n f) = omega (arith, length-with_row l at n f) in
        rw q (get_or-set_same (with_row l at n f) (at + n) (f n) e b))
        (λ (q : x < n). get_or-set_other (with_row l at n f) (at + n) (at + x) (f n) e (λ r. omega arith) ∙ with_row-in l at n f x q (omega arith))
        (eq-or-lt_of_le (le_of_suc-le-suc lt))

    pub with_block-in : (l : List X) (at stride n h : ℕ) (f : ℕ → ℕ → X) (y x : ℕ) → y < h → x < n → n ≤ stride → at + h * stride ≤ length l → get_or (with_block l at stride n h f) (at + y * stride + x) e ≡ f y x
    unfolding with_block
    with_block-in l at stride n zero f y x ly lx w r = absurd (not-suc-le-zero ly)
    with_block-in l at stride n (suc h) f y x ly lx w r =
        let m = suc-mul h stride in
        let k = length-with_block l at stride n h f in
        ⊎_elim
        (λ (q : y ≡ h). rw q (with_row-in (with_block l at stride n h f) (at + h * stride) n (f h) x lx (omega arith)))
        (λ (q : y < h).
        with_row-out (with_block l at stride n h f) (at + h * stride) n (f h) (at + y * stride + x) (inl (omega (arith, row_fits stride q)))
        ∙ with_block-in l at stride n h f y x q lx w (omega arith))
        (eq-or-lt_of_le (le_of_suc-le-suc ly))

    -- past the rows nothing changes
    pub with_block-past : (l : List X) (at stride n h : ℕ) (f : ℕ → ℕ → X) (i : ℕ) → n ≤ stride → at + h * stride ≤ i → get_or (with_block l at stride n h f) i e ≡ get_or l i e
    unfolding with_block
    with_block-past l at stride n zero f i w b = refl
    with_block-past l at stride n (suc h) f i w b =
        let m = suc-mul h stride in
        with_row-out (with_block l at stride n h f) (at + h * stride) n (f h) i (inr (omega arith)) ∙ with_block-past l at stride n h f i w (omega arith)

    -- nor before them
    pub with_block-before : (l : List X) (at stride n h : ℕ) (f : ℕ → ℕ → X) (i : ℕ) → i < at → get_or (with_block l at stride n h f) i e ≡ get_or l i e
    unfolding with_block
    with_block-before l at stride n zero f i b = refl
    with_block-before l at stride n (suc h) f i b =
        with_row-out (with_block l at stride n h f) (at + h * stride) n (f h) i (inl (omega arith)) ∙ with_block-before l at stride n h f i b

  -- ---- a loop over groups of columns: the first c columns of every row, and then n more, are the first c + n

  set-with_row : (l : List X) (at n : ℕ) (f : ℕ → X) (i : ℕ) (v : X) → at + n ≤ i → set (with_row l at n f) i v ≡ with_row (set l i v) at n f
  unfolding with_row
  set-with_row l at zero f i v b = refl
  set-with_row l at (suc n) f i v b =
      set_comm (with_row l at n f) (at + n) i (f n) v (λ e. omega arith) ∙ ap (λ (z : List X). set z (at + n) (f n)) (set-with_row l at n f i v (omega arith))

  -- of two rows, the later one may be replaced first
  with_row-comm : (l : List X) (a n b m : ℕ) (f g : ℕ → X) → a + n ≤ b → with_row (with_row l a n f) b m g ≡ with_row (with_row l b m g) a n f
  unfolding with_row
  with_row-comm l a n b zero f g h = refl
  with_row-comm l a n b (suc m) f g h =
      ap (λ (z : List X). set z (b + m) (g m)) (with_row-comm l a n b m f g h) ∙ set-with_row (with_row l b m g) a n f (b + m) (g m) (omega arith)

  with_block-comm : (l : List X) (at stride m h a n : ℕ) (g : ℕ → ℕ → X) (f : ℕ → X) → at + h * stride + m ≤ a + stride → with_block (with_row l a n f) at stride m h g ≡ with_row (with_block l at stride m h g) a n f
  unfolding with_block
  with_block-comm l at stride m zero a n g f b = refl
  with_block-comm l at stride m (suc h) a n g f b =
      let k = suc-mul h stride in
      ap (λ (z : List X). with_row z (at + h * stride) m (g h)) (with_block-comm l at stride m h a n g f (omega arith))
      ∙ sym (with_row-comm (with_block l at stride m h g) (at + h * stride) m a n (g h) f (omega arith))

  pub with_row-join : (l : List X) (at c n : ℕ) (f : ℕ → X) → with_row (with_row l at c f) (at + c) n (λ (x : ℕ). f (c + x)) ≡ with_row l at (c + n) f
  unfolding with_row
  with_row-join l at c zero f = rw add-zero
  with_row-join l at c (suc n) f =
      ap (λ (z : List X). set z (at + c + n) (f (c + n))) (with_row-join l at c n f)
      ∙ ap (λ (i : ℕ). set (with_row l at (c + n) f) i (f (c + n))) (add_assoc at c n)
      ∙ ap (λ (i : ℕ). with_row l at i f) (sym (add-suc c n))

  with_block-join : (l : List X) (at stride c n h : ℕ) (f : ℕ → ℕ → X) → c + n ≤ stride → with_block (with_block l at stride c h f) (at + c) stride n h (λ (y x : ℕ). f y (c + x)) ≡ with_block l at stride (c + n) h f
  unfolding with_block
  with_block-join l at stride c n zero f b = refl
  with_block-join l at stride c n (suc h) f b =
      let g : ℕ → ℕ → X = λ y x. f y (c + x) in
      let i : at + c + h * stride ≡ at + h * stride + c = omega arith in
      ap (λ (z : List X). with_row z (at + c + h * stride) n (g h)) (with_block-comm (with_block l at stride c h f) (at + c) stride n h (at + h * stride) c g (f h) (omega arith) ∙ ap (λ (z : List X). with_row z (at + h * stride) c (f h)) (with_block-join l at stride c n h f b))
      ∙ ap (λ (k : ℕ). with_row (with_row (with_block l at stride (c + n) h f) (at + h * stride) c (f h)) k n (g h)) i
      ∙ with_row-join (with_block l at stride (c + n) h f) (at + h * stride) c n (f h)

  pub columns_none : (l : List X) (at stride h : ℕ) (f : ℕ → ℕ → X) → with_block l at stride 0 h f ≡ l
  unfolding with_block with_row
  columns_none l at stride zero f = refl
  columns_none l at stride (suc h) f = columns_none l at stride h f

  pub columns_step : (l l₀ k : List X) (w n h c : ℕ) (f g : ℕ → ℕ → X) → c + n ≤ w → ((y x : ℕ) → g y x ≡ f y (c + x)) → l ≡ with_block l₀ 0 w c h f → k ≡ with_block l c w n h g → k ≡ with_block l₀ 0 w (c + n) h f
  columns_step l l₀ k w n h c f g b q p r =
      let z : c ≡ 0 + c = omega arith in
      r ∙ ap (λ (v : List X). with_block v c w n h g) p
      ∙ with_block-ext (with_block l₀ 0 w c h f) c w n h g (λ (y x : ℕ). f y (c + x)) (λ y x _ _. q y x)
      ∙ ap (λ (i : ℕ). with_block (with_block l₀ 0 w c h f) i w n h (λ (y x : ℕ). f y (c + x))) z
      ∙ with_block-join l₀ 0 w c n h f b

  -- ---- the same places written again, and places apart

  with_row-again : (l : List X) (at n : ℕ) (f g : ℕ → X) → with_row (with_row l at n f) at n g ≡ with_row l at n g
  unfolding with_row
  with_row-again l at zero f g = refl
  with_row-again l at (suc n) f g =
      ap (λ (z : List X). set z (at + n) (g n)) (sym (set-with_row (with_row l at n f) at n g (at + n) (f n) (omega arith)))
      ∙ set-set (with_row (with_row l at n f) at n g) (at + n) (f n) (g n)
      ∙ ap (λ (z : List X). set z (at + n) (g n)) (with_row-again l at n f g)

  pub with_block-again : (l : List X) (at n h : ℕ) (f g : ℕ → ℕ → X) → with_block (with_block l at n n h f) at n n h g ≡ with_block l at n n h g
  unfolding with_block
  with_block-again l at n zero f g = refl
  with_block-again l at n (suc h) f g =
      ap (λ (z : List X). with_row z (at + h * n) n (g h)) (with_block-comm (with_block l at n n h f) at n n h (at + h * n) n g (f h) (omega arith))
      ∙ with_row-again (with_block (with_block l at n n h f) at n n h g) (at + h * n) n (f h) (g h)
      ∙ ap (λ (z : List X). with_row z (at + h * n) n (g h)) (with_block-again l at n h f g)

  -- of two blocks, the later one may be replaced first
  pub with_block-apart : (l : List X) (a n h b m k : ℕ) (f g : ℕ → ℕ → X) → a + h * n ≤ b → with_block (with_block l a n n h f) b m m k g ≡ with_block (with_block l b m m k g) a n n h f
  unfolding with_block
  with_block-apart l a n h b m zero f g q = refl
  with_block-apart l a n h b m (suc k) f g q =
      ap (λ (z : List X). with_row z (b + k * m) m (g k)) (with_block-apart l a n h b m k f g q)
      ∙ sym (with_block-comm (with_block l b m m k g) a n n h (b + k * m) m f (g k) (omega arith))

  -- ---- h rows of n elements, one after the other, as one run

  pub with_block-run : (l : List X) (at n h : ℕ) (f : ℕ → X) → with_row l at (h * n) f ≡ with_block l at n n h (λ (y x : ℕ). f (y * n + x))
  unfolding with_block with_row
  with_block-run l at n zero f = ap (λ (k : ℕ). with_row l at k f) (zero-mul n) ∙ refl
  with_block-run l at n (suc h) f =
      ap (λ (k : ℕ). with_row l at k f) (suc-mul h n)
      ∙ sym (with_row-join l at (h * n) n f)
      ∙ ap (λ (z : List X). with_row z (at + h * n) n (λ (x : ℕ). f (h * n + x))) (with_block-run l at n h f)

  -- ---- a part of a list

  with_row-left : (l m : List X) (at n : ℕ) (f : ℕ → X) → at + n ≤ length l → with_row (l ++ m) at n f ≡ with_row l at n f ++ m
  unfolding with_row
  with_row-left l m at zero f b = refl
  with_row-left l m at (suc n) f b =
      ap (λ (z : List X). set z (at + n) (f n)) (with_row-left l m at n f (omega arith))
      ∙ set-append_left (with_row l at n f) m (at + n) (f n) (omega (arith, length-with_row l at n f))

  with_block-left : (l m : List X) (at n h : ℕ) (f : ℕ → ℕ → X) → at + h * n ≤ length l → with_block (l ++ m) at n n h f ≡ with_block l at n n h f ++ m
  unfolding with_block
  with_block-left l m at n zero f b = refl
  with_block-left l m at n (suc h) f b =
      let k = suc-mul h n in
      ap (λ (z : List X). with_row z (at + h * n) n (f h)) (with_block-left l m at n h f (omega arith))
      ∙ with_row-left (with_block l at n n h f) m (at + h * n) n (f h) (omega (arith, length-with_block l at n n h f))

  set_right : (l m : List X) (i : ℕ) (v : X) → set (l ++ m) (length l + i) v ≡ l ++ set m i v
  set_right [] m i v = ap (λ (k : ℕ). set m k v) (zero-add i)
  set_right (x ∷ l) m i v = ap (λ (k : ℕ). set (x ∷ (l ++ m)) k v) (suc-add (length l) i) ∙ ap (λ (z : List X). x ∷ z) (set_right l m i v)

  with_row-right : (l m : List X) (o at n : ℕ) (f : ℕ → X) → o ≡ length l + at → with_row (l ++ m) o n f ≡ l ++ with_row m at n f
  unfolding with_row
  with_row-right l m o at zero f e = refl
  with_row-right l m o at (suc n) f e =
      let i : o + n ≡ length l + (at + n) = omega arith in
      ap (λ (z : List X). set z (o + n) (f n)) (with_row-right l m o at n f e)
      ∙ ap (λ (k : ℕ). set (l ++ with_row m at n f) k (f n)) i
      ∙ set_right l (with_row m at n f) (at + n) (f n)

  with_block-right : (l m : List X) (o at n h : ℕ) (f : ℕ → ℕ → X) → o ≡ length l + at → with_block (l ++ m) o n n h f ≡ l ++ with_block m at n n h f
  unfolding with_block
  with_block-right l m o at n zero f e = refl
  with_block-right l m o at n (suc h) f e =
      ap (λ (z : List X). with_row z (o + h * n) n (f h)) (with_block-right l m o at n h f e)
      ∙ with_row-right l (with_block m at n n h f) (o + h * n) (at + h * n) n (f h) (omega arith)

  -- a block written to the part of a list that begins at o and has its size
  pub with_block-part : (l : List X) (o n h : ℕ) (f : ℕ → ℕ → X) → o + h * n ≤ length l → take o l ++ (with_block (take (h * n) (drop o l)) 0 n n h f ++ drop (h * n) (drop o l)) ≡ with_block l o n n h f
  with_block-part l o n h f b =
      let len : length (take (h * n) (drop o l)) ≡ h * n = length-take-le (h * n) (drop o l) (simp length-drop (omega arith)) in
      let at : length (take o l) ≡ o = length-take-le o l (omega arith) in
      ap (λ (z : List X). take o l ++ z) (sym (with_block-left (take (h * n) (drop o l)) (drop (h * n) (drop o l)) 0 n h f (omega arith)) ∙ ap (λ (z : List X). with_block z 0 n n h f) (take-append-drop (h * n) (drop o l)))
      ∙ sym (with_block-right (take o l) (drop o l) o 0 n h f (omega arith))
      ∙ ap (λ (z : List X). with_block z o n n h f) (take-append-drop o l)

-- what holds at every place of the rows holds at every place of the run
pub run_each : (P : ℕ → Type 0) (n h : ℕ) → ((y x : ℕ) → y < h → x < n → P (y * n + x)) → (i : ℕ) → i < h * n → P i
run_each P n zero q i b = let z = zero-mul n in absurd (omega arith)
run_each P n (suc h) q i b = go (ltb i (h * n)) refl (λ l. run_each P n h (λ y x ly lx. q y x (omega arith) lx) i l)
  where
    go : (t : Bool) → ltb i (h * n) ≡ t → (i < h * n → P i) → P i
    go true e r = r (ltb-true _ _ e)
    go false e r =
        let l = ltb-false i (h * n) e in
        let m = suc-mul h n in
        let k : h * n + (i - h * n) ≡ i = omega arith in
        subst P k (q h (i - h * n) (omega arith) (omega arith))
