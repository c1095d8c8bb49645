-- What a loop writes: a list with some of its elements replaced. A turn of the loop is a clause of the definition.
use Rattle.std.specs.Prelude.{ℕ, zero, suc, ◌+◌, ◌*◌, List, set}

-- the list with its n elements from `at` on replaced by f 0, f 1, ..
unfoldable pub with_row : {X : Type 0} → List X → ℕ → ℕ → (ℕ → X) → List X
with_row l at zero f = l
with_row l at (suc n) f = set (with_row l at n f) (at + n) (f n)

-- the list with h rows of n elements replaced, the rows `stride` apart and the first one at `at`: element x of row y becomes f y x
unfoldable pub with_block : {X : Type 0} → List X → ℕ → ℕ → ℕ → ℕ → (ℕ → ℕ → X) → List X
with_block l at stride n zero f = l
with_block l at stride n (suc h) f = with_row (with_block l at stride n h f) (at + h * stride) n (f h)
