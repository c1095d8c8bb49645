-- Arbitrary samples.
use Rattle.std.specs.Prelude.{List, [], ◌∷◌, ℕ, zero, suc, ◌+◌, ◌*◌, ◌/◌, ◌%◌, ◌==◌, cond}

-- the number behind another, of a linear congruential sequence
abbrev pub following : ℕ → ℕ
following z = (z * 1103515245 + 12345) % 0x80000000

-- n samples, by the numbers behind z
unfoldable pub scattered : ℕ → ℕ → List ℕ
scattered z zero = []
scattered z (suc n) = following z / 0x8000 ∷ scattered (following z) n

-- below the limit, if there is one
abbrev pub below : ℕ → ℕ → ℕ
below limit sample = cond (limit == 0) sample (sample % limit)
