-- A clamped start, in one direction, and the window that begins there: it lies in the plane, for every accepted picture and both types. Assumes nothing.
use mathlib.Core.Bool.{false}
use mathlib.Core.Path.{◌≡◌}
use Prim.Native.Nat.{ℕ, ◌+◌, ◌-◌, ◌*◌, ◌≤◌, ◌<◌, min}
use native.Mathlib.Omega.{arith}
use native.Mathlib.Nat.{mul-le-mul_right}
use lib.IntN.{ℤ, pos, ◌+ℤ◌}
use Rattle.evc_int.specs.Whole.{◌⁺, clip3}
use Rattle.evc_int.proofs.Whole.{parts_are}
use Rattle.evc_def.specs.Blocks.{bad_picture}
use Rattle.evc_plane.specs.declared.PlaneType.{PlaneType}
use Rattle.evc_plane.specs.Planes.{side_of, pad_of, origin_of, stride_of, rows_of, plane_len, config_of, start_at, window_start}
use Rattle.evc_plane.proofs.Sizes.{Sizes, sizes}

module _ (origin size : ℕ) (z : ℤ) where
  -- its stored column is at most `size` past the picture's first
  pub start_range : start_at origin size z ≤ origin + size
  unfolding start_at clip3
  start_range = grind (arith, parts_are)

  -- n columns on, the column held to the picture is that of the start before it was clamped
  pub start_column : (n : ℕ) → n ≤ origin → min (start_at origin size z + n - origin) (size - 1) ≡ min ((z +ℤ pos n) ⁺) (size - 1)
  unfolding start_at clip3
  start_column n h = grind (arith, parts_are)

module _ (t : PlaneType) (W H : ℕ) (good : bad_picture W H ≡ false) where
  known : Sizes (config_of t W H)
  known = sizes t W H good

  -- a clamped window of at most `pad` columns and rows lies in the plane
  pub window_within : (zx zy : ℤ) (c r : ℕ) → c < pad_of t → r < pad_of t → (start_at (origin_of t) (side_of t W) zx + c < stride_of t W) × (start_at (pad_of t) (side_of t H) zy + r < rows_of t H)
  unfolding config_of
  window_within zx zy c r lc lr =
      let z = known in
      let a = start_range (origin_of t) (side_of t W) zx in
      let b = start_range (pad_of t) (side_of t H) zy in
      (omega arith, omega arith)

  -- what `exceeds` asks of it
  pub window_fits : (zx zy : ℤ) (n h : ℕ) → n ≤ pad_of t → h ≤ pad_of t → window_start t W H zx zy + h * stride_of t W + n ≤ plane_len t W H + stride_of t W
  unfolding config_of window_start
  window_fits zx zy n h ln lh =
      let z = known in
      let S = stride_of t W in
      let a = start_range (origin_of t) (side_of t W) zx in
      let b = start_range (pad_of t) (side_of t H) zy in
      let l : start_at (pad_of t) (side_of t H) zy + h ≤ rows_of t H = omega arith in
      let m = mul-le-mul_right S l in
      omega arith
