-- The examined samples: an OR exceeds 1023 exactly if one of the two does, the turns of the walk, and what its answer says of each sample.
-- Assumes nothing.
use Prim.Native.Nat.{ℕ, zero, suc, ◌+◌, ◌*◌, ◌-◌, ◌<◌, ◌≤◌}
use mathlib.Core.Bool.{Bool, true, false, ◌||◌}
use mathlib.Core.Path.{◌≡◌, refl, sym, ap, ap₂, ◌∙◌}
use mathlib.Core.List.{List, [], ◌∷◌}
use mathlib.Core.Logic.{⊎_elim}
use native.Mathlib.Omega.{arith}
use native.Mathlib.Numerals.{add-one}
use native.Mathlib.Nat.{eq-or-lt_of_le, le_of_suc-le-suc, not-suc-le-zero}
use lib.Bits.{bit_or, bit_and, or_lt, or_add_and, and_le_l, and_le_r}
use lib.Dec.{ltb}
use lib.ListN.{length, get_or, take, drop, replicate}
use lib.Seq.{get_or-drop}
use borrow.Author.Tests.{ltb-true, ltb-false, lt-ltb, le-ltb}
use Rattle.std.specs.List.{list_any, fold}
use Rattle.std.specs.Simd.Lanes.{fold_l, zip2}
use Rattle.std.proofs.Math.Bool.{or_comm, or-false}
use Rattle.std.proofs.lemmas.List.{length-take, length-drop}
use Rattle.std.proofs.lemmas.List.Folds.{list_any_more}
use Rattle.std.proofs.lemmas.Simd.{length-zip2}
use Rattle.std.proofs.lemmas.Bool.{or_parts}
use Rattle.evc_samples.specs.Samples.{too_large, row_exceeds, exceeds}

pub or_too_large : (x y : ℕ) → too_large (bit_or x y) ≡ too_large x || too_large y
unfolding too_large
or_too_large x y = go (ltb 1023 x) (ltb 1023 y) refl refl
  where
    sum : bit_or x y + bit_and x y ≡ x + y
    sum = or_add_and x y

    go : (a b : Bool) → ltb 1023 x ≡ a → ltb 1023 y ≡ b → ltb 1023 (bit_or x y) ≡ a || b
    go true b p q = let h = ltb-true 1023 x p in lt-ltb 1023 (bit_or x y) (omega (arith, sum, and_le_r x y))
    go false true p q = let h = ltb-true 1023 y q in lt-ltb 1023 (bit_or x y) (omega (arith, sum, and_le_l x y))
    go false false p q =
        let h = ltb-false 1023 x p in
        let k = ltb-false 1023 y q in
        le-ltb 1023 (bit_or x y) (let l : bit_or x y < 1024 = or_lt 10 x y (omega arith) (omega arith) in omega arith)

zero_fits : too_large 0 ≡ false
unfolding too_large
zero_fits = refl

-- ---- what an OR gathers of a list: as two vectors give one, as a vector or a row gives a number

pub any_or : (o l : List ℕ) → length o ≡ length l → list_any too_large (zip2 bit_or o l) ≡ list_any too_large o || list_any too_large l
any_or [] [] e = refl
any_or [] (y ∷ l) e = absurd (omega arith)
any_or (x ∷ o) [] e = absurd (omega arith)
any_or (x ∷ o) (y ∷ l) e = let h = any_or o l (omega arith) in grind (arith, or_too_large)

any_fold : (o : ℕ) (l : List ℕ) → too_large (fold bit_or o l) ≡ too_large o || list_any too_large l
any_fold o [] = sym (or-false (too_large o))
any_fold o (x ∷ l) = let h = any_fold (bit_or o x) l in grind (arith, or_too_large)

pub row_or : (l : List ℕ) → too_large (fold bit_or 0 l) ≡ list_any too_large l
row_or l = any_fold 0 l ∙ ap (λ (a : Bool). a || list_any too_large l) zero_fits

pub lanes_or : (l : List ℕ) → too_large (fold_l bit_or 0 l) ≡ list_any too_large l
lanes_or l = ap too_large (same_fold 0 l) ∙ row_or l
  where
    same_fold : (o : ℕ) (l : List ℕ) → fold_l bit_or o l ≡ fold bit_or o l
    same_fold o [] = refl
    same_fold o (x ∷ l) = same_fold (bit_or o x) l

pub lanes_none : (n : ℕ) → list_any too_large (replicate n 0) ≡ too_large 0
lanes_none zero = sym zero_fits
lanes_none (suc n) = ap (λ (a : Bool). a || list_any too_large (replicate n 0)) zero_fits ∙ lanes_none n

-- n samples that are taken out of a plane
pub taken : (s : List ℕ) (at n : ℕ) → at + n ≤ length s → list_any too_large (take n (drop at s)) ≡ row_exceeds s at n
unfolding row_exceeds
taken s at zero a = refl
taken s at (suc n) a =
    let lt : n < length (drop at s) = omega (arith, length-drop at s) in
    (rw add-one at (list_any_more too_large (drop at s) n 0 lt)) ∙ ap₂ (λ (a b : Bool). a || b) (taken s at n (omega arith)) (ap too_large (get_or-drop at s n 0))

-- the lanes, n of them, after a row
pub lanes_more : (s o : List ℕ) (i j n : ℕ) → length o ≡ n → i + n ≤ length s → j + n ≤ length s → let r = zip2 bit_or (zip2 bit_or o (take n (drop i s))) (take n (drop j s)) in (length r ≡ n) × (list_any too_large r ≡ list_any too_large o || (row_exceeds s i n || row_exceeds s j n))
lanes_more s o i j n e a b =
    (grind (arith, length-zip2, length-take, length-drop), grind (arith, any_or, taken, length-zip2, length-take, length-drop))

-- of n lanes that each hold a number above 1023 where they did, or where one of two samples is
pub turn : (s o r : List ℕ) (i j n : ℕ) → ((x : ℕ) → x < n → too_large (get_or r x 0) ≡ too_large (get_or o x 0) || (too_large (get_or s (i + x) 0) || too_large (get_or s (j + x) 0)))
    → row_exceeds r 0 n ≡ row_exceeds o 0 n || (row_exceeds s i n || row_exceeds s j n)
unfolding row_exceeds
turn s o r i j zero h = refl
turn s o r i j (suc n) h =
    let e : 0 + n ≡ n = omega arith in
    rw (e, turn s o r i j n (λ x lt. h x (omega arith)), h n (omega arith)) (mixed (row_exceeds o 0 n) (row_exceeds s i n) (row_exceeds s j n) _ _ _)
  where
    mixed : (a b c x y z : Bool) → (a || (b || c)) || (x || (y || z)) ≡ (a || x) || ((b || y) || (c || z))
    mixed true b c x y z = refl
    mixed false true c true y z = refl
    mixed false true c false y z = refl
    mixed false false true true y z = refl
    mixed false false true false true z = refl
    mixed false false true false false z = refl
    mixed false false false x y z = refl

-- ---- what the answer says of each sample

small : (x : ℕ) → too_large x ≡ false → x ≤ 1023
unfolding too_large
small x e = ltb-false 1023 x e

row_small : (s : List ℕ) (at n : ℕ) → row_exceeds s at n ≡ false → (x : ℕ) → x < n → get_or s (at + x) 0 ≤ 1023
unfolding row_exceeds
row_small s at zero e x lt = absurd (not-suc-le-zero lt)
row_small s at (suc n) e x lt =
    let h = or_parts (row_exceeds s at n) (too_large (get_or s (at + n) 0)) e in
    ⊎_elim (λ (q : x ≡ n). rw q (small (get_or s (at + n) 0) h.1)) (λ (q : x < n). row_small s at n h.0 x q) (eq-or-lt_of_le (le_of_suc-le-suc lt))

-- none of the samples is above 1023 where the answer is false ..
pub exceeds_none : (s : List ℕ) (at stride n h : ℕ) → exceeds s at stride n h ≡ false → (y x : ℕ) → y < h → x < n → get_or s (at + y * stride + x) 0 ≤ 1023
unfolding exceeds
exceeds_none s at stride n zero e y x ly lx = absurd (not-suc-le-zero ly)
exceeds_none s at stride n (suc h) e y x ly lx =
    let b = or_parts (exceeds s at stride n h) (row_exceeds s (at + h * stride) n) e in
    ⊎_elim (λ (q : y ≡ h). rw q (row_small s (at + h * stride) n b.1 x lx)) (λ (q : y < h). exceeds_none s at stride n h b.0 y x q lx) (eq-or-lt_of_le (le_of_suc-le-suc ly))

-- .. and only there
row_all_small : (s : List ℕ) (at n : ℕ) → ((x : ℕ) → x < n → get_or s (at + x) 0 ≤ 1023) → row_exceeds s at n ≡ false
unfolding row_exceeds too_large
row_all_small s at zero h = refl
row_all_small s at (suc n) h =
    ap₂ (λ (a b : Bool). a || b) (row_all_small s at n (λ x lt. h x (omega arith))) (le-ltb 1023 (get_or s (at + n) 0) (h n (omega arith)))

pub none_exceeds : (s : List ℕ) (at stride n h : ℕ) → ((y x : ℕ) → y < h → x < n → get_or s (at + y * stride + x) 0 ≤ 1023) → exceeds s at stride n h ≡ false
unfolding exceeds
none_exceeds s at stride n zero q = refl
none_exceeds s at stride n (suc h) q =
    ap₂ (λ (a b : Bool). a || b) (none_exceeds s at stride n h (λ y x ly lx. q y x (omega arith) lx)) (row_all_small s (at + h * stride) n (λ x lx. q h x (omega arith) lx))

-- ---- the walk: its beginning, and one sample of both ends or one row more

same_answer : (a b : Bool) → (a ≡ false → b ≡ false) → (b ≡ false → a ≡ false) → a ≡ b
same_answer true true f g = refl
same_answer true false f g = g refl
same_answer false b f g = sym (f refl)

module _ (s : List ℕ) (at : ℕ) where
  -- the first j and the last k are the whole row
  pub ends_all : (n j k : ℕ) → j ≤ n → k ≤ n → n ≤ j + k → row_exceeds s at j || row_exceeds s (at + n - k) k ≡ row_exceeds s at n
  ends_all n j k lj lk m = same_answer (row_exceeds s at j || row_exceeds s (at + n - k) k) (row_exceeds s at n) forth back
    where
      forth : row_exceeds s at j || row_exceeds s (at + n - k) k ≡ false → row_exceeds s at n ≡ false
      forth e =
          let h = or_parts (row_exceeds s at j) (row_exceeds s (at + n - k) k) e in
          row_all_small s at n (λ x lx. either x (ltb x j) refl lx h.0 h.1)
        where
          either : (x : ℕ) (t : Bool) → ltb x j ≡ t → x < n → row_exceeds s at j ≡ false → row_exceeds s (at + n - k) k ≡ false → get_or s (at + x) 0 ≤ 1023
          either x true f lx a b = row_small s at j a x (ltb-true x j f)
          either x false f lx a b =
              let ge = ltb-false x j f in
              let i : at + n - k + (x - (n - k)) ≡ at + x = omega arith in
              rw (sym i) (row_small s (at + n - k) k b (x - (n - k)) (omega arith))

      back : row_exceeds s at n ≡ false → row_exceeds s at j || row_exceeds s (at + n - k) k ≡ false
      back e =
          ap₂ (λ (a b : Bool). a || b) (row_all_small s at j (λ x lx. row_small s at n e x (omega arith)))
          (row_all_small s (at + n - k) k (λ x lx.
          let i : at + (n - k + x) ≡ at + n - k + x = omega arith in
          rw (sym i) (row_small s at n e (n - k + x) (omega arith))))

  module _ (stride n : ℕ) where
    pub rows_none : too_large 0 ≡ exceeds s at stride n 0
    unfolding exceeds
    rows_none = zero_fits

    pub rows_more : (y : ℕ) → exceeds s at stride n (y + 1) ≡ exceeds s at stride n y || row_exceeds s (at + y * stride) n
    unfolding exceeds
    rows_more y = rw add-one

-- the same of the columns of h rows: the first j and the last k are all of them
module _ (s : List ℕ) (at stride : ℕ) where
  pub columns_all : (h n j k : ℕ) → j ≤ n → k ≤ n → n ≤ j + k → exceeds s (at + n - k) stride k h || exceeds s at stride j h ≡ exceeds s at stride n h
  unfolding exceeds
  columns_all zero n j k a b c = refl
  columns_all (suc h) n j k a b c =
      let r = at + h * stride in
      let i : r + n - k ≡ at + n - k + h * stride = omega arith in
      joined (row_exceeds s (at + n - k + h * stride) k) (row_exceeds s r j) (row_exceeds s r n) (exceeds s (at + n - k) stride k h) (exceeds s at stride j h) (exceeds s at stride n h)
      (rw (sym i) (ends_all s r n j k a b c)) (columns_all h n j k a b c)
    where
      joined : (x y r u v e : Bool) → y || x ≡ r → u || v ≡ e → (u || x) || (v || y) ≡ e || r
      joined x y r u v e p q = grind arith

  module _ (h : ℕ) where
    pub columns_none : exceeds s at stride 0 h ≡ false
    columns_none = none_exceeds s at stride 0 h (λ y x ly lx. absurd (not-suc-le-zero lx))

    pub columns_more : (x k n : ℕ) → n ≡ x + k → exceeds s at stride n h ≡ exceeds s at stride x h || exceeds s (at + x) stride k h
    columns_more x k n e =
        let i : at + n - k ≡ at + x = omega arith in
        sym (columns_all h n x k (omega arith) (omega arith) (omega arith)) ∙ ap (λ (m : ℕ). exceeds s m stride k h || exceeds s at stride x h) i
        ∙ or_comm (exceeds s (at + x) stride k h) (exceeds s at stride x h)
