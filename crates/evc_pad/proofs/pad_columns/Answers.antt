-- `evc_pad::pad_columns` meets its contract. The invariant: the first y rows are filled; the column that is read stays. Assumes nothing.
use Prim.Native.Nat.{ℕ, ◌+◌, ◌-◌, ◌*◌, ◌<◌, ◌≤◌}
use mathlib.Core.Path.{◌≡◌, refl, ap, ◌∙◌}
use mathlib.Core.List.{List}
use mathlib.Core.Logic.{◌⊎◌}
use native.Mathlib.Omega.{arith}
use borrow.Author.Rules.{rules}
use lib.ListN.{get_or, replicate}
use Rattle.evc_int.specs.Lists.{with_row, with_block}
use Rattle.evc_int.proofs.Lists.{row_fits, block_step}
use Rattle.evc_pad.proofs.Rows.{filled, with_block-beside}
use Rattle.evc_pad.proofs.pad_columns.Invariants.{column}
use Rattle.evc_pad.proofs.pad_columns.Goals as goal

pub loop-y-init : goal.loop-y-init
unfolding with_block
loop-y-init c = refl

-- one row more
turn : (l l₀ k : List ℕ) (base stride x n from y : ℕ) → l ≡ with_block l₀ (base + x) stride n y (column l₀ base stride from) → k ≡ with_row l (base + y * stride + x) n (λ _. get_or l (base + y * stride + from) 0) → from < stride → x + n ≤ stride → (from < x) ⊎ (x + n ≤ from) → k ≡ with_block l₀ (base + x) stride n (y + 1) (column l₀ base stride from)
turn l l₀ k base stride x n from y p q lf lx o =
    let e : base + y * stride + x ≡ base + x + y * stride = omega arith in
    let kept : get_or l (base + y * stride + from) 0 ≡ get_or l₀ (base + y * stride + from) 0 =
    ap (λ (m : List ℕ). get_or m (base + y * stride + from) 0) p ∙ with_block-beside 0 l₀ base stride x n y (column l₀ base stride from) y from lf lx o in
    block_step l l₀ k (base + x) stride n y (column l₀ base stride from) p
    (q ∙ ap (λ (i : ℕ). with_row l i n (λ _. get_or l (base + y * stride + from) 0)) e ∙ ap (λ (v : ℕ). with_row l (base + x + y * stride) n (λ _. v)) kept)

pub loop-y-preserved : goal.loop-y-preserved
loop-y-preserved c =
    let z = c.args in
    let i = c.loop-y in
    let r = row_fits z.stride c.loop-y-test.true in
    let at = z.base + i.y * z.stride + z.x in
    let v = get_or i.plane (z.base + i.y * z.stride + z.from) 0 in
    let e : c.fill.new.row ≡ replicate z.n v = search rules in
    turn _ _ _ _ _ _ _ _ _ i.invariant (filled 0 i.plane c.fill.new.row at (at + z.n - at) z.n v e (omega arith) (omega arith)) c.requires.stride_in_bounds.2 c.requires.stride_in_bounds.1 c.requires.fact
