-- Units of a picture: how many there are, and that each index lies below. Assumes nothing.
use Prim.Native.Nat.{ℕ, ◌*◌, ◌/◌, ◌≤◌, ◌<◌}
use native.Mathlib.Omega.{arith}
use native.Mathlib.Nat.{mul-le-mul, mul_comm}
use Rattle.evc_int.proofs.Lists.{row_fits}
use Rattle.evc_def.specs.Blocks.{Allowed}
use Rattle.evc_def.specs.declared.EvcBlock.{EvcBlock}
use Rattle.evc_map.specs.Maps.{units_of, most_units, unit_index, scup}

pub units_small : (w h : ℕ) → w ≤ 2032 → h ≤ 2032 → w * h ≤ most_units
units_small w h p q = mul-le-mul p q

pub index_below : (W H column row : ℕ) → column < W / 4 → row < H / 4 → unit_index W column row < units_of W H
index_below W H column row p q = omega (arith, row_fits (W / 4) q, mul_comm (W / 4) (H / 4))

-- the first unit of an allowed block
pub scup_below : (b : EvcBlock) → Allowed b.pic_w b.x b.w → Allowed b.pic_h b.y b.h → scup b < units_of b.pic_w b.pic_h
scup_below b p q = index_below b.pic_w b.pic_h (b.x / 4) (b.y / 4) (omega arith) (omega arith)
