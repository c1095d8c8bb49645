-- The rows of samples, one behind the other. Assumes nothing.
use Rattle.std.proofs.Common.{ap₂, min, List, [], ◌∷◌, ◌++◌, ◌≡◌, refl, ap, ◌∙◌, arith, ℕ, zero, suc, ◌<◌, ◌≤◌, length, take, drop}
use Rattle.std.proofs.lemmas.List.{length-drop}
use Rattle.evc_lists.specs.declared.RowForm.{RowForm}
use Rattle.evc_lists.specs.Printed.{row_line, row_lines, rows_text}

-- a row is what stands in front of the rest
row_and_rest : (stride : ℕ) (row rest : List ℕ) → length row ≡ min stride (length (row ++ rest)) → (take stride (row ++ rest) ≡ row) × (drop stride (row ++ rest) ≡ rest)
row_and_rest zero [] rest e = (refl, refl)
row_and_rest zero (x ∷ row) rest e = absurd (omega (arith, e))
row_and_rest (suc n) [] [] e = (refl, refl)
row_and_rest (suc n) [] (x ∷ rest) e = absurd (omega (arith, e))
row_and_rest (suc n) (x ∷ row) rest e =
    let p = row_and_rest n row rest (omega (arith, e)) in
    (ap (λ (t : List ℕ). x ∷ t) p.0, p.1)

module _ (stride : ℕ) (form : RowForm) (h : 0 < stride) where
  -- no bound of the rows that is large enough matters
  same : (n m : ℕ) (s : List ℕ) → length s ≤ n → length s ≤ m → row_lines stride form n s ≡ row_lines stride form m s
  unfolding row_lines
  same zero zero [] p q = refl
  same zero (suc m) [] p q = refl
  same (suc n) zero [] p q = refl
  same (suc n) (suc m) [] p q = refl
  same zero m (x ∷ s) p q = absurd (omega (arith, p))
  same (suc n) zero (x ∷ s) p q = absurd (omega (arith, q))
  same (suc n) (suc m) (x ∷ s) p q =
      let l : length (drop stride (x ∷ s)) ≤ length s = rw length-drop (omega (arith, h)) in
      ap (λ (t : List ℕ). row_line form (take stride (x ∷ s)) ++ t) (same n m (drop stride (x ∷ s)) (omega (arith, l, p)) (omega (arith, l, q)))

  pub no_row : (s : List ℕ) → length s ≡ 0 → rows_text stride form s ≡ []
  unfolding row_lines
  no_row [] e = refl
  no_row (x ∷ s) e = absurd (omega (arith, e))

  step : (s : List ℕ) → 0 < length s → rows_text stride form s ≡ row_line form (take stride s) ++ rows_text stride form (drop stride s)
  unfolding row_lines
  step [] p = absurd (omega (arith, p))
  step (x ∷ s) p =
      let l : length (drop stride (x ∷ s)) ≤ length s = rw length-drop (omega (arith, h)) in
      ap (λ (t : List ℕ). row_line form (take stride (x ∷ s)) ++ t) (same (length s) (length (drop stride (x ∷ s))) (drop stride (x ∷ s)) l (omega arith))

  pub next_row : (s row rest : List ℕ) → s ≡ row ++ rest → length row ≡ min stride (length s) → 0 < length s → rows_text stride form s ≡ row_line form row ++ rows_text stride form rest
  next_row s row rest e l p =
      let b = row_and_rest stride row rest (l ∙ ap (λ (t : List ℕ). min stride (length t)) e) in
      step s p
      ∙ ap₂ (λ (t u : List ℕ). row_line form t ++ rows_text stride form u) (ap (take stride) e ∙ b.0) (ap (drop stride) e ∙ b.1)
