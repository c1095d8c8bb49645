-- `evc_pad::pad_rows` meets its contract. The invariant: the first y rows are copied; the row that is read stays. Assumes nothing.
use Prim.Native.Nat.{ℕ, ◌+◌, ◌*◌, ◌<◌, ◌≤◌}
use mathlib.Core.Path.{◌≡◌, refl, ap, ◌∙◌}
use mathlib.Core.List.{List}
use mathlib.Core.Logic.{⊎_elim, ◌⊎◌}
use native.Mathlib.Omega.{arith}
use native.Mathlib.Nat.{le_refl}
use lib.ListN.{get_or}
use Rattle.evc_int.specs.Lists.{with_row, with_block}
use Rattle.evc_int.proofs.Lists.{row_fits, with_row-ext, with_block-past, with_block-before, block_step}
use Rattle.evc_pad.proofs.Rows.{copied}
use Rattle.evc_pad.proofs.pad_rows.Invariants.{row}
use Rattle.evc_pad.proofs.pad_rows.Goals as goal

pub loop-y-init : goal.loop-y-init
unfolding with_block
loop-y-init c = refl

-- one row more
turn : (l l₀ k : List ℕ) (stride from to h y : ℕ) → l ≡ with_block l₀ to stride stride y (row l₀ from) → k ≡ with_row l (to + y * stride) stride (λ (x : ℕ). get_or l (from + x) 0) → y < h → (from + stride ≤ to) ⊎ (to + h * stride ≤ from) → k ≡ with_block l₀ to stride stride (y + 1) (row l₀ from)
turn l l₀ k stride from to h y p q lt o =
    block_step l l₀ k to stride stride y (row l₀ from) p (q ∙ with_row-ext l (to + y * stride) stride (row l from y) (row l₀ from y) kept)
  where
    kept : (x : ℕ) → x < stride → get_or l (from + x) 0 ≡ get_or l₀ (from + x) 0
    kept x lx =
        ap (λ (m : List ℕ). get_or m (from + x) 0) p
        ∙ ⊎_elim
        (λ (b : from + stride ≤ to). with_block-before 0 l₀ to stride stride y (row l₀ from) (from + x) (omega arith))
        (λ (b : to + h * stride ≤ from).
        with_block-past 0 l₀ to stride stride y (row l₀ from) (from + x) (le_refl stride) (omega (arith, row_fits stride lt)))
        o

pub loop-y-preserved : goal.loop-y-preserved
loop-y-preserved c =
    let z = c.args in
    let i = c.loop-y in
    let r = row_fits z.stride c.loop-y-test.true in
    turn _ _ _ _ _ _ _ _ i.invariant (c.copy_within.ensures.after ∙ copied 0 i.plane z.from (z.to + i.y * z.stride) z.stride (omega arith) (omega arith)) c.loop-y-test.true c.requires.fact
