-- The units around a block: columns and rows of units, counted from 1, so that 0 lies before the picture.
use Rattle.std.specs.Prelude.{ℕ, ◌+◌, ◌-◌, Bool, ◌&&◌, List, nat_le}
use Rattle.evc_def.specs.declared.EvcBlock.{EvcBlock}
use Rattle.evc_map.specs.Maps.{unit_index, word_at, w_scu, h_scu, x_scu, y_scu, scuw, scuh}

abbrev pub left_of : EvcBlock → ℕ
left_of b = x_scu b

abbrev pub first_column : EvcBlock → ℕ
first_column b = x_scu b + 1

abbrev pub last_column : EvcBlock → ℕ
last_column b = left_of b + scuw b

abbrev pub right_of : EvcBlock → ℕ
right_of b = first_column b + scuw b

abbrev pub above : EvcBlock → ℕ
above b = y_scu b

abbrev pub first_row : EvcBlock → ℕ
first_row b = y_scu b + 1

abbrev pub below : EvcBlock → ℕ
below b = first_row b + scuh b

-- whether the picture has the unit of a column and a row, its index, and its word
abbrev pub has_unit : EvcBlock → ℕ → ℕ → Bool
has_unit b column row = nat_le 1 column && nat_le column (w_scu b) && nat_le 1 row && nat_le row (h_scu b)

abbrev pub index_of : EvcBlock → ℕ → ℕ → ℕ
index_of b column row = unit_index b.pic_w (column - 1) (row - 1)

abbrev pub word_of : EvcBlock → List ℕ → ℕ → ℕ → ℕ
word_of b words column row = word_at words (index_of b column row)
