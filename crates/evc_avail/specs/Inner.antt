-- The vocabulary of inner contracts.
use Rattle.std.specs.Prelude.{◌≡◌, ℕ, ◌+◌, Bool, true, cond, ◌&&◌, List, nat_eq, Option, Some}
use Rattle.std.specs.Bool.{then_some}
use Rattle.evc_def.specs.Tables.{is_coded, is_intra, slice_num}
use Rattle.evc_def.specs.declared.EvcBlock.{EvcBlock}
use Rattle.evc_def.specs.declared.Scu.{Scu}
use Rattle.evc_avail.specs.Around.{first_column, last_column, first_row, below, has_unit, index_of}
use Rattle.evc_avail.specs.Flags.{is_inter_in}

-- a word whose slice number is 0 if the unit counts, and which then has the other bits of the unit's word
pub record Seen (counts : ℕ → Bool) (word seen : ℕ) : Type 0 where
  pub available : nat_eq (slice_num seen) 0 ≡ counts word
  pub coded : counts word ≡ true → is_coded seen ≡ is_coded word
  pub intra : counts word ≡ true → is_intra seen ≡ is_intra word

-- the unit of a column and a row, where the picture has one
abbrev pub unit_of : EvcBlock → ℕ → ℕ → Option Scu
unit_of b column row = then_some (has_unit b column row) (record { 0 = index_of b column row })

-- a unit in the block's first column, and in its last
abbrev pub in_first_column : EvcBlock → Scu → Type 0
in_first_column b unit = (row : ℕ) × (unit_of b (first_column b) row ≡ Some unit)

abbrev pub in_last_column : EvcBlock → Scu → Type 0
in_last_column b unit = (row : ℕ) × (unit_of b (last_column b) row ≡ Some unit)

-- the units of a column in the block's first row and in the row below it
abbrev pub is_beside_in : EvcBlock → ℕ → Option Scu → Option Scu → Type 0
is_beside_in b column unit lower = (unit ≡ unit_of b column (first_row b)) × (lower ≡ unit_of b column (below b))

abbrev pub is_beside : EvcBlock → Option Scu → Option Scu → Type 0
is_beside b unit lower = (column : ℕ) × is_beside_in b column unit lower

-- their flags, the lower one's only with the other's
abbrev pub avail_beside_in : (ℕ → Bool) → EvcBlock → List ℕ → ℕ → ℕ → ℕ → ℕ
avail_beside_in counts b map column bit lower_bit =
    let unit = is_inter_in counts b map column (first_row b) in
    cond unit bit 0 + cond (unit && is_inter_in counts b map column (below b)) lower_bit 0
