-- Document 01, 'Numbers and tables': the table of src/tbl.rs, and the bits of a unit word.
use Rattle.std.specs.Prelude.{Bool, List, [], ◌∷◌, ℕ, ◌/◌, ◌%◌, ◌^◌, eqb}

-- "`tbl_cu_dim_offset` = 0, 4096, 5120": where Y, U and V begin in a lent block
abbrev pub tbl_cu_dim_offset : List ℕ
tbl_cu_dim_offset = 0 ∷ 4096 ∷ 5120 ∷ []

-- bit n of a unit word
abbrev pub is_bit : ℕ → ℕ → Bool
is_bit n word = eqb (word / 2 ^ n % 2) 1

-- "bit 31 is coded, bit 15 is intra"
abbrev pub is_coded : ℕ → Bool
is_coded word = is_bit 31 word

abbrev pub is_intra : ℕ → Bool
is_intra word = is_bit 15 word

-- document 02, W5: "The slice number is in bits 0 to 6 of the unit word."
abbrev pub slice_num : ℕ → ℕ
slice_num word = word % 2 ^ 7
