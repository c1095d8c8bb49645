-- Unit words by state.
use Rattle.std.specs.Prelude.{List, [], ◌∷◌, ℕ, ◌%◌, get_or}

-- bit 0 coded, bit 1 intra, bit 2 every bit of the word that no flag looks at
abbrev pub words : List ℕ
words = 0 ∷ 0x80000000 ∷ 0x00008000 ∷ 0x80008000 ∷ 0x7fff7fff ∷ 0xffff7fff ∷ 0x7fffffff ∷ 0xffffffff ∷ []

abbrev pub word_of : ℕ → ℕ
word_of state = get_or words (state % 8) 0
