-- `evc_mc::average_plane` meets its contract. The invariant: the first i samples of the part are averaged. Assumes nothing.
use Prim.Native.Nat.{ℕ, ◌+◌, ◌-◌, ◌*◌, ◌<◌, ◌≤◌}
use mathlib.Core.List.{List, ◌++◌}
use mathlib.Core.Logic.{inr}
use mathlib.Core.Path.{◌≡◌, refl, ap, ap₂, ◌∙◌}
use native.Mathlib.Nat.{zero-add, add-zero}
use native.Mathlib.Omega.{arith}
use lib.ListN.{length, get_or, take, drop}
use Rattle.std.proofs.lemmas.List.{get_or-take, get_or-drop, length-take, length-drop}
use Rattle.evc_int.specs.Lists.{with_row, with_block}
use Rattle.evc_int.proofs.Lists.{row_step, with_row-out, with_row-ext, with_block-part}
use Rattle.evc_mc.specs.Block.{average}
use Rattle.evc_mc.specs.Inner.{RowSmall}
use Rattle.evc_mc.proofs.average_plane.Goals as goal

-- the samples of a block from o on, k of them
abbrev part : ℕ → ℕ → List ℕ → List ℕ
part o k l = take k (drop o l)

part_at : (l : List ℕ) (o k i : ℕ) → i < k → get_or (part o k l) i 0 ≡ get_or l (o + i) 0
part_at l o k i lt = get_or-take k (drop o l) i 0 lt ∙ get_or-drop o l i 0

-- what is written to the part is written to the block
row_part : (l : List ℕ) (o n : ℕ) (f : ℕ → ℕ) → o + n ≤ length l → take o l ++ (with_row (part o n l) 0 n f ++ drop n (drop o l)) ≡ with_row l o n f
unfolding with_block
row_part l o n f b =
    let one : 1 * n ≡ n = omega arith in
    let none : 0 * n ≡ 0 = omega arith in
    simp (one, none, add-zero) at (with_block-part l o n 1 (λ (y x : ℕ). f x) (omega (arith, b)))

-- the next sample is still the one of before
still : (l l₀ : List ℕ) (i : ℕ) (f : ℕ → ℕ) → l ≡ with_row l₀ 0 i f → get_or l i 0 ≡ get_or l₀ i 0
still l l₀ i f e = ap (λ (k : List ℕ). get_or k i 0) e ∙ with_row-out 0 l₀ 0 i f i (inr (omega arith))

-- both are at most 1023, and their sum fits
both_small : (l m p : List ℕ) (o n k i : ℕ) (f : ℕ → ℕ) → k ≡ n → i < k → RowSmall l o n → RowSmall m o n → p ≡ with_row (part o k l) 0 i f
    → get_or p i 0 + get_or (part o k m) i 0 ≤ 2046
both_small l m p o n k i f e lt s t q =
    omega (arith, still p (part o k l) i f q, part_at l o k i lt, part_at m o k i lt, s i (omega arith), t i (omega arith))

pub loop-i-init : goal.loop-i-init
unfolding with_row
loop-i-init c = refl

pub overflow_add-sample : goal.overflow_add-sample
overflow_add-sample c =
    let s = both_small _ _ _ _ c.args.n _ _ _ (omega arith) (omega (arith, length-take {A = ℕ})) c.requires.row_small.0 c.requires.row_small.1 c.loop-i.invariant in
    record { fits = omega (arith, s) }

pub overflow_add-sample-in-loop-i : goal.overflow_add-sample-in-loop-i
overflow_add-sample-in-loop-i c =
    let s = both_small _ _ _ _ c.args.n _ _ _ (omega arith) (omega (arith, length-take {A = ℕ})) c.requires.row_small.0 c.requires.row_small.1 c.loop-i.invariant in
    record { fits = omega (arith, s) }

pub loop-i-preserved : goal.loop-i-preserved
loop-i-preserved c =
    let i = c.loop-i.invariant in
    let second = part c.args.offset (c.args.offset + c.args.n - c.args.offset) c.args.pred1.now in
    simp zero-add at (row_step _ _ 0 c.loop-i.i _ _ i (ap (λ (v : ℕ). average v (get_or second c.loop-i.i 0)) (still _ _ _ _ i)))

-- the part of the averages is put back
averaged : (l m p : List ℕ) (o n k i : ℕ) → k ≡ n → i ≡ k → o + n ≤ length l → p ≡ with_row (part o k l) 0 i (λ (j : ℕ). average (get_or (part o k l) j 0) (get_or (part o k m) j 0))
    → take o l ++ (p ++ drop k (drop o l)) ≡ with_row l o n (λ (j : ℕ). average (get_or l (o + j) 0) (get_or m (o + j) 0))
averaged l m p o n k i e f b q =
    rw (q, f, e) (ap (λ (r : List ℕ). take o l ++ (r ++ drop n (drop o l))) (with_row-ext (part o n l) 0 n _ _ (λ j lt. ap₂ average (part_at l o n j lt) (part_at m o n j lt)))
    ∙ row_part l o n _ b)

pub returns : goal.returns
returns c =
    averaged c.args.pred0.now c.args.pred1.now _ _ _ _ _ (omega arith) (omega (arith, length-take {A = ℕ}, length-drop {A = ℕ})) c.requires.n_in_bounds.0 c.loop-i.invariant
