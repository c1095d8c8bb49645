-- The four steps of padding, left, right, up and down, give at each place of the buffer the picture's sample at the column and row held to the
-- picture. Over any numbers: p rows above and below, o columns to the left, a picture of w by h, rows of S. Assumes nothing.
use Prim.Native.Nat.{ℕ, ◌+◌, ◌-◌, ◌*◌, ◌<◌, ◌≤◌, min}
use mathlib.Core.Bool.{Bool, true, false}
use mathlib.Core.Path.{◌≡◌, refl, sym, ap, ◌∙◌}
use mathlib.Core.List.{List}
use mathlib.Core.Logic.{inl, inr}
use native.Mathlib.Omega.{arith}
use native.Mathlib.Nat.{mul-le-mul_right, le_refl}
use lib.Dec.{ltb}
use lib.ListN.{length, get_or}
use borrow.Author.Tests.{ltb-true, ltb-false}
use Rattle.evc_int.specs.Lists.{with_block}
use Rattle.evc_int.proofs.Lists.{row_fits, length-with_block, with_block-in, with_block-past, with_block-before}
use Rattle.evc_pad.proofs.Rows.{with_block-beside, rows_ext}

-- ---- the steps, as the code takes them

abbrev pub filled_left : ℕ → ℕ → ℕ → ℕ → ℕ → List ℕ → List ℕ
filled_left p o w h S l = with_block l (p * S + 0) S o h (λ (y _ : ℕ). get_or l (p * S + y * S + o) 0)

abbrev pub filled_right : ℕ → ℕ → ℕ → ℕ → ℕ → List ℕ → List ℕ
filled_right p o w h S l = with_block l (p * S + (o + w)) S (S - (o + w)) h (λ (y _ : ℕ). get_or l (p * S + y * S + (o + w - 1)) 0)

abbrev pub copied_up : ℕ → ℕ → ℕ → ℕ → ℕ → List ℕ → List ℕ
copied_up p o w h S l = with_block l 0 S S p (λ (_ x : ℕ). get_or l (p * S + x) 0)

abbrev pub copied_down : ℕ → ℕ → ℕ → ℕ → ℕ → List ℕ → List ℕ
copied_down p o w h S l = with_block l (p * S + h * S) S S p (λ (_ x : ℕ). get_or l (p * S + h * S - S + x) 0)

-- what stands at row y and column x after them
abbrev pub held : ℕ → ℕ → ℕ → ℕ → ℕ → List ℕ → ℕ → ℕ → ℕ
held p o w h S l y x = get_or l ((p + min (y - p) (h - 1)) * S + (o + min (x - o) (w - 1))) 0

module _ (p o w h S : ℕ) (s : List ℕ) (pads : 1 ≤ p) (wide : 1 ≤ w) (high : 1 ≤ h) (across : o + w ≤ S) (within : (p + h + p) * S ≤ length s) where
  abbrev l₁ : List ℕ
  l₁ = filled_left p o w h S s

  abbrev l₂ : List ℕ
  l₂ = filled_right p o w h S l₁

  abbrev l₃ : List ℕ
  l₃ = copied_up p o w h S l₂

  abbrev l₄ : List ℕ
  l₄ = copied_down p o w h S l₃

  one_row : S ≤ p * S
  one_row = let m : 1 * S ≤ p * S = mul-le-mul_right S pads in omega arith

  length₁ : length l₁ ≡ length s
  length₁ = length-with_block s (p * S + 0) S o h (λ (y _ : ℕ). get_or s (p * S + y * S + o) 0)

  length₂ : length l₂ ≡ length s
  length₂ = length-with_block l₁ (p * S + (o + w)) S (S - (o + w)) h (λ (y _ : ℕ). get_or l₁ (p * S + y * S + (o + w - 1)) 0) ∙ length₁

  length₃ : length l₃ ≡ length s
  length₃ = length-with_block l₂ 0 S S p (λ (_ x : ℕ). get_or l₂ (p * S + x) 0) ∙ length₂

  length₄ : length l₄ ≡ length s
  length₄ = length-with_block l₃ (p * S + h * S) S S p (λ (_ x : ℕ). get_or l₃ (p * S + h * S - S + x) 0) ∙ length₃

  -- a row of the picture, from the first stored column to the last
  module _ (y x : ℕ) (ly : y < h) (lx : x < S) where
    beside₁ : (z : ℕ) → o ≤ z → z < S → get_or l₁ (p * S + y * S + z) 0 ≡ get_or s (p * S + y * S + z) 0
    beside₁ z a b = with_block-beside 0 s (p * S) S 0 o h (λ (y _ : ℕ). get_or s (p * S + y * S + o) 0) y z b (omega arith) (inr (omega arith))

    beside₂ : (z : ℕ) → z < o + w → get_or l₂ (p * S + y * S + z) 0 ≡ get_or l₁ (p * S + y * S + z) 0
    beside₂ z a =
        with_block-beside 0 l₁ (p * S) S (o + w) (S - (o + w)) h (λ (y _ : ℕ). get_or l₁ (p * S + y * S + (o + w - 1)) 0) y z (omega arith) (omega arith) (inl a)

    picture_row : get_or l₂ (p * S + y * S + x) 0 ≡ get_or s (p * S + y * S + (o + min (x - o) (w - 1))) 0
    picture_row = by_column (ltb x o) (ltb x (o + w)) refl refl
      where
        by_column : (a b : Bool) → ltb x o ≡ a → ltb x (o + w) ≡ b → get_or l₂ (p * S + y * S + x) 0 ≡ get_or s (p * S + y * S + (o + min (x - o) (w - 1))) 0
        by_column true b e f =
            let lt = ltb-true x o e in
            let i : p * S + y * S + x ≡ p * S + 0 + y * S + x = omega arith in
            let j : o ≡ o + min (x - o) (w - 1) = omega arith in
            beside₂ x (omega arith) ∙ ap (λ (i : ℕ). get_or l₁ i 0) i
            ∙ with_block-in 0 s (p * S + 0) S o h (λ (y _ : ℕ). get_or s (p * S + y * S + o) 0) y x ly lt (omega arith) (omega arith)
            ∙ ap (λ (z : ℕ). get_or s (p * S + y * S + z) 0) j
        by_column false true e f =
            let ge = ltb-false x o e in
            let lt = ltb-true x (o + w) f in
            let j : x ≡ o + min (x - o) (w - 1) = omega arith in
            beside₂ x lt ∙ beside₁ x ge lx ∙ ap (λ (z : ℕ). get_or s (p * S + y * S + z) 0) j
        by_column false false e f =
            let ge = ltb-false x (o + w) f in
            let i : p * S + y * S + x ≡ p * S + (o + w) + y * S + (x - (o + w)) = omega arith in
            let j : o + w - 1 ≡ o + min (x - o) (w - 1) = omega arith in
            ap (λ (i : ℕ). get_or l₂ i 0) i
            ∙ with_block-in 0 l₁ (p * S + (o + w)) S (S - (o + w)) h (λ (y _ : ℕ). get_or l₁ (p * S + y * S + (o + w - 1)) 0) y (x - (o + w)) ly (omega arith) (omega arith) (let r = one_row in let n = length₁ in omega arith)
            ∙ beside₁ (o + w - 1) (omega arith) (omega arith) ∙ ap (λ (z : ℕ). get_or s (p * S + y * S + z) 0) j

  -- the same with the row's number as the definition has it
  in_row : (y x : ℕ) → y < h → x < S → get_or l₂ (p * S + y * S + x) 0 ≡ held p o w h S s (p + y) x
  in_row y x ly lx =
      let e : p * S + y * S ≡ (p + min (p + y - p) (h - 1)) * S =
      (let a : y ≡ min (p + y - p) (h - 1) = omega arith in ap (λ (z : ℕ). p * S + z * S) a ∙ (let b = min (p + y - p) (h - 1) in let d : p * S + b * S ≡ (p + b) * S = omega arith in d)) in
      picture_row y x ly lx ∙ ap (λ (i : ℕ). get_or s (i + (o + min (x - o) (w - 1))) 0) e

  -- every row
  padded_at_lem : (y x : ℕ) → y < p + h + p → x < S → get_or l₄ (y * S + x) 0 ≡ held p o w h S s y x
  padded_at_lem y x ly lx = by_row (ltb y p) (ltb y (p + h)) refl refl
    where
      down : ℕ → ℕ → ℕ
      down _ x = get_or l₃ (p * S + h * S - S + x) 0

      up : ℕ → ℕ → ℕ
      up _ x = get_or l₂ (p * S + x) 0

      -- a row of which the picture's row is j
      as_row : (i j : ℕ) → j < h → get_or l₂ i 0 ≡ get_or l₂ (p * S + j * S + x) 0 → min (y - p) (h - 1) ≡ j → get_or l₂ i 0 ≡ held p o w h S s y x
      as_row i j lj e q =
          let a : p + min (p + j - p) (h - 1) ≡ p + min (y - p) (h - 1) = omega arith in
          e ∙ in_row j x lj lx ∙ ap (λ (z : ℕ). get_or s (z * S + (o + min (x - o) (w - 1))) 0) a

      by_row : (a b : Bool) → ltb y p ≡ a → ltb y (p + h) ≡ b → get_or l₄ (y * S + x) 0 ≡ held p o w h S s y x
      by_row true b e f =
          let lt = ltb-true y p e in
          let r = row_fits S lt in
          let n = length₂ in
          let i : 0 + y * S + x ≡ y * S + x = omega arith in
          let j : p * S + x ≡ p * S + 0 * S + x = omega arith in
          with_block-before 0 l₃ (p * S + h * S) S S p down (y * S + x) (omega arith)
          ∙ ap (λ (i : ℕ). get_or l₃ i 0) (sym i)
          ∙ with_block-in 0 l₂ 0 S S p up y x lt lx (le_refl S) (omega arith)
          ∙ as_row (p * S + x) 0 (omega arith) (ap (λ (i : ℕ). get_or l₂ i 0) j) (omega arith)
      by_row false true e f =
          let ge = ltb-false y p e in
          let lt = ltb-true y (p + h) f in
          let r = row_fits S lt in
          let t = mul-le-mul_right S ge in
          let j : y * S + x ≡ p * S + (y - p) * S + x = (let a : y ≡ p + (y - p) = omega arith in ap (λ (z : ℕ). z * S + x) a ∙ (let b = y - p in let d : (p + b) * S + x ≡ p * S + b * S + x = omega arith in d)) in
          with_block-before 0 l₃ (p * S + h * S) S S p down (y * S + x) (omega arith)
          ∙ with_block-past 0 l₂ 0 S S p up (y * S + x) (le_refl S) (omega arith)
          ∙ as_row (y * S + x) (y - p) (omega arith) (ap (λ (i : ℕ). get_or l₂ i 0) j) (omega arith)
      by_row false false e f =
          let ge = ltb-false y (p + h) f in
          let n = length₃ in
          let m = mul-le-mul_right S high in
          let i : y * S + x ≡ p * S + h * S + (y - (p + h)) * S + x = (let a : y ≡ p + h + (y - (p + h)) = omega arith in ap (λ (z : ℕ). z * S + x) a ∙ (let b = y - (p + h) in let d : (p + h + b) * S + x ≡ p * S + h * S + b * S + x = omega arith in d)) in
          let k : h * S - S ≡ (h - 1) * S = (let a : h ≡ 1 + (h - 1) = omega arith in ap (λ (z : ℕ). z * S - S) a ∙ (let b = h - 1 in let d : (1 + b) * S - S ≡ b * S = omega arith in d)) in
          let j : p * S + h * S - S + x ≡ p * S + (h - 1) * S + x = omega arith in
          ap (λ (i : ℕ). get_or l₄ i 0) i
          ∙ with_block-in 0 l₃ (p * S + h * S) S S p down (y - (p + h)) x (omega arith) lx (le_refl S) (omega arith)
          ∙ with_block-past 0 l₂ 0 S S p up (p * S + h * S - S + x) (le_refl S) (omega arith)
          ∙ as_row (p * S + h * S - S + x) (h - 1) (omega arith) (ap (λ (i : ℕ). get_or l₂ i 0) j) (omega arith)

  -- past the rows nothing changes
  padded_past : (i : ℕ) → (p + h + p) * S ≤ i → get_or l₄ i 0 ≡ get_or s i 0
  padded_past i b =
      let r = one_row in
      with_block-past 0 l₃ (p * S + h * S) S S p (λ (_ x : ℕ). get_or l₃ (p * S + h * S - S + x) 0) i (le_refl S) (omega arith)
      ∙ with_block-past 0 l₂ 0 S S p (λ (_ x : ℕ). get_or l₂ (p * S + x) 0) i (le_refl S) (omega arith)
      ∙ with_block-past 0 l₁ (p * S + (o + w)) S (S - (o + w)) h (λ (y _ : ℕ). get_or l₁ (p * S + y * S + (o + w - 1)) 0) i (omega arith) (omega arith)
      ∙ with_block-past 0 s (p * S + 0) S o h (λ (y _ : ℕ). get_or s (p * S + y * S + o) 0) i (omega arith) (omega arith)

  pub steps_pad : l₄ ≡ with_block s 0 S S (p + h + p) (held p o w h S s)
  steps_pad =
      rows_ext S R l₄ (with_block s 0 S S R f) (length₄ ∙ sym (length-with_block s 0 S S R f)) (λ y x ly lx. padded_at_lem y x ly lx ∙ sym (inside y x ly lx)) (λ i b. padded_past i b ∙ sym (with_block-past 0 s 0 S S R f i (le_refl S) (omega arith)))
    where
      R : ℕ
      R = p + h + p

      f : ℕ → ℕ → ℕ
      f = held p o w h S s

      inside : (y x : ℕ) → y < p + h + p → x < S → get_or (with_block s 0 S S R f) (y * S + x) 0 ≡ held p o w h S s y x
      inside y x ly lx =
          let z : y * S + x ≡ 0 + y * S + x = omega arith in
          ap (λ (j : ℕ). get_or (with_block s 0 S S R f) j 0) z ∙ with_block-in 0 s 0 S S R f y x ly lx (le_refl S) (omega arith)
