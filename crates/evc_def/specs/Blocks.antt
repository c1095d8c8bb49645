-- Document 01, 'Pictures and blocks taken'.
use Rattle.std.specs.Prelude.{Bool, not, ◌&&◌, ◌||◌, ◌≡◌, ℕ, ◌+◌, ◌%◌, ◌≤◌, leb, eqb}
use Rattle.evc_def.specs.declared.EvcBlock.{EvcBlock}

-- "Picture sides W and H are multiples of 4 from 4 to 8128."
abbrev pub is_picture_side : ℕ → Bool
is_picture_side n = leb 4 n && leb n 8128 && eqb (n % 4) 0

-- "A block has sides 4, 8, 16, 32 or 64, chosen separately;"
abbrev pub is_block_side : ℕ → Bool
is_block_side n = eqb n 4 || eqb n 8 || eqb n 16 || eqb n 32 || eqb n 64

-- "its place is a multiple of 4; it lies wholly inside the picture.": a block's side at a place, in one direction of a picture of that size
abbrev pub is_inside : ℕ → ℕ → ℕ → Bool
is_inside size place side = eqb (place % 4) 0 && leb (place + side) size

-- "Order counts are 0 to 32,767."
abbrev pub max_poc : ℕ
max_poc = 32767

-- refused with 1: "a picture side is not allowed"
unfoldable pub bad_picture : ℕ → ℕ → Bool
bad_picture W H = not (is_picture_side W && is_picture_side H)

-- refused with 2: "block side, place or extent is not allowed"
unfoldable pub bad_block : EvcBlock → Bool
bad_block b =
    not (is_block_side b.w && is_block_side b.h && is_inside b.pic_w b.x b.w && is_inside b.pic_h b.y b.h)

-- what these checks leave of one direction, for a function behind them: a block's side at a place in a picture of that size
pub record Allowed (size place side : ℕ) : Type 0 where
  pub size_fours : size % 4 ≡ 0
  pub place_fours : place % 4 ≡ 0
  pub side_fours : side % 4 ≡ 0
  pub size_high : size ≤ 8128
  pub side_low : 4 ≤ side
  pub side_high : side ≤ 64
  pub inside : place + side ≤ size
