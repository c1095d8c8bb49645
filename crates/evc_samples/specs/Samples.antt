-- Document 01, 'What a call gives', number 6: "a sample above 1023 among those examined".
use Rattle.std.specs.Prelude.{Bool, false, ◌||◌, List, ℕ, zero, suc, ◌+◌, ◌*◌, ltb, get_or}

-- the test at a sample
unfoldable pub too_large : ℕ → Bool
too_large x = ltb 1023 x

-- one of the n samples from `at` on
unfoldable pub row_exceeds : List ℕ → ℕ → ℕ → Bool
row_exceeds s at zero = false
row_exceeds s at (suc n) = row_exceeds s at n || too_large (get_or s (at + n) 0)

-- one of h rows of n samples, the rows `stride` apart and the first one at `at`
unfoldable pub exceeds : List ℕ → ℕ → ℕ → ℕ → ℕ → Bool
exceeds s at stride n zero = false
exceeds s at stride n (suc h) = exceeds s at stride n h || row_exceeds s (at + h * stride) n
