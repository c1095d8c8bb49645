-- Numbers as bytes, "low byte first".
use Rattle.std.specs.Prelude.{ℕ, zero, suc, ◌+◌, ◌*◌, ◌/◌, ◌%◌, List, [], ◌∷◌, get_or}

-- a number in n bytes
abbrev pub bytes_of : ℕ → ℕ → List ℕ
bytes_of zero x = []
bytes_of (suc n) x = x % 256 ∷ bytes_of n (x / 256)

-- the number in the n bytes from `at` on
abbrev pub number_at : ℕ → List ℕ → ℕ → ℕ
number_at zero s at = 0
number_at (suc n) s at = get_or s at 0 + 256 * number_at n s (at + 1)
