-- Document 01, 'What a call gives': "unit words, one for each 4 by 4 unit; a motion map, four signed 16-bit numbers a unit (list 0 across, down, list 1
-- across, down); words and both maps row by row over the whole picture".
use Rattle.std.specs.Prelude.{Bool, true, false, List, [], Option, Some, None, ℕ, ◌+◌, ◌*◌, ◌/◌, ltb, ℤ, pos, get_or}
use Rattle.std.specs.Borrow.{Bor}
use Rattle.evc_def.specs.declared.EvcBlock.{EvcBlock}
use Rattle.evc_def.specs.declared.EvcMv.{EvcMv}

-- the units of a picture, and of the largest one, 8128 by 8128
abbrev pub units_of : ℕ → ℕ → ℕ
units_of W H = W / 4 * (H / 4)

abbrev pub most_units : ℕ
most_units = 4129024

-- "row by row over the whole picture": where a map has the unit of a column and a row, counted from 0
abbrev pub unit_index : ℕ → ℕ → ℕ → ℕ
unit_index W column row = row * (W / 4) + column

-- the unit that holds the sample at x and y
abbrev pub unit_at : ℕ → ℕ → ℕ → ℕ
unit_at W x y = unit_index W (x / 4) (y / 4)

-- "unit words, one for each 4 by 4 unit"
abbrev pub word_at : List ℕ → ℕ → ℕ
word_at words unit = get_or words unit 0

abbrev pub words_short : ℕ → ℕ → ℕ → Bool
words_short W H words = ltb words (units_of W H)

-- "a motion map, four signed 16-bit numbers a unit (list 0 across, down, list 1 across, down)"
abbrev pub mv_len : ℕ
mv_len = 4

abbrev pub mv_at : List ℤ → ℕ → ℕ → EvcMv
mv_at map unit lidx = record { x = get_or map (mv_len * unit + 2 * lidx) (pos 0); y = get_or map (mv_len * unit + 2 * lidx + 1) (pos 0) }

abbrev pub map_short : ℕ → ℕ → ℕ → Bool
map_short W H map = ltb map (mv_len * units_of W H)

-- the collocated map, "only where present": whether it is, and its numbers
abbrev pub is_present : Option (Bor (List ℤ)) → Bool
is_present (Some map) = true
is_present None = false

abbrev pub numbers_of : Option (Bor (List ℤ)) → List ℤ
numbers_of (Some map) = map.now
numbers_of None = []

-- a block in units, under the Rust's names: its picture's sides, its place, the index of its first unit, and its sides
abbrev pub w_scu : EvcBlock → ℕ
w_scu b = b.pic_w / 4

abbrev pub h_scu : EvcBlock → ℕ
h_scu b = b.pic_h / 4

abbrev pub x_scu : EvcBlock → ℕ
x_scu b = b.x / 4

abbrev pub y_scu : EvcBlock → ℕ
y_scu b = b.y / 4

abbrev pub scup : EvcBlock → ℕ
scup b = unit_at b.pic_w b.x b.y

abbrev pub scuw : EvcBlock → ℕ
scuw b = b.w / 4

abbrev pub scuh : EvcBlock → ℕ
scuh b = b.h / 4
