-- Numbers as text, in ASCII.
use Rattle.std.specs.Prelude.{cond, List, [], ◌∷◌, ◌++◌, ℕ, suc, ◌+◌, ◌/◌, ◌%◌, leb, ℤ, pos, negsuc}

-- the digit of this weight, where n reaches it
abbrev pub digit : ℕ → ℕ → List ℕ
digit weight n = cond (leb weight n) ((48 + n / weight % 10) ∷ []) []

-- a number below 100,000, without leading zeros
unfoldable pub decimal : ℕ → List ℕ
decimal n = digit 10000 n ++ digit 1000 n ++ digit 100 n ++ digit 10 n ++ ((48 + n % 10) ∷ [])

-- with a minus sign where it is negative
unfoldable pub signed_decimal : ℤ → List ℕ
signed_decimal (pos n) = decimal n
signed_decimal (negsuc n) = (45 ∷ []) ++ decimal (suc n)
