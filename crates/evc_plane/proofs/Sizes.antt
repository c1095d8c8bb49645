-- The sizes of a plane whose picture is accepted, as inequalities: what fits, and that nothing wraps. Assumes nothing.
use mathlib.Core.Bool.{false}
use mathlib.Core.Path.{◌≡◌, sym, ap, subst, ◌∙◌}
use Prim.Native.Nat.{ℕ, ◌+◌, ◌*◌, ◌≤◌}
use native.Mathlib.Omega.{arith}
use native.Mathlib.Nat.{mul-le-mul, mul-le-mul_right}
use Rattle.evc_def.specs.Blocks.{bad_picture}
use Rattle.evc_def.proofs.Blocks.{PictureSide, picture_sides}
use Rattle.evc_plane.specs.declared.PlaneType.{PlaneType}
use Rattle.evc_plane.specs.declared.PlaneType.TheVariants.{Y, UV}
use Rattle.evc_plane.specs.declared.PlaneConfig.{PlaneConfig}
use Rattle.std.specs.Int.{next_multiple_of}
use Rattle.evc_plane.specs.Planes.{align16, origin_of, stride_of, rows_of, plane_len, config_of}

-- ---- "rounded up to a multiple of 16", as the library does it

pub next_16 : (n : ℕ) → next_multiple_of n 16 ≡ align16 n
next_16 n = omega arith

-- ---- the planes of an accepted picture

pub record Sizes (c : PlaneConfig) : Type 0 where
  pub wide : 2 ≤ c.width
  pub wide_top : c.width ≤ 8128
  pub high : 2 ≤ c.height
  pub high_top : c.height ≤ 8128
  pub pad_low : 40 ≤ c.yorigin
  pub origin_low : c.yorigin ≤ c.xorigin
  pub origin_top : c.xorigin ≤ 80
  pub across : c.xorigin + c.width + c.yorigin ≤ c.stride
  pub stride_top : c.stride ≤ 8288
  pub down : c.alloc_height ≡ c.yorigin + c.height + c.yorigin
  pub len_top : c.stride * c.alloc_height ≤ 8288 * 8288

stride_high : (t : PlaneType) (W : ℕ) → PictureSide W → stride_of t W ≤ 8288
unfolding origin_of stride_of
stride_high Y W w = omega arith
stride_high UV W w = omega arith

rows_high : (t : PlaneType) (H : ℕ) → PictureSide H → rows_of t H ≤ 8288
unfolding rows_of
rows_high Y H h = omega arith
rows_high UV H h = omega arith

sizes' : (t : PlaneType) (W H : ℕ) → PictureSide W → PictureSide H → stride_of t W * rows_of t H ≤ 8288 * 8288 → Sizes (config_of t W H)
unfolding origin_of stride_of rows_of config_of
sizes' Y W H w h l = omega arith
sizes' UV W H w h l = omega arith

pub sizes : (t : PlaneType) (W H : ℕ) → bad_picture W H ≡ false → Sizes (config_of t W H)
sizes t W H e = let b = picture_sides W H e in sizes' t W H b.0 b.1 (mul-le-mul (stride_high t W b.0) (rows_high t H b.1))

-- of what `plane_config` gave
pub sizes_of : (t : PlaneType) (W H : ℕ) (c : PlaneConfig) → c ≡ config_of t W H → bad_picture W H ≡ false → Sizes c
sizes_of t W H c e b = subst Sizes (sym e) (sizes t W H b)

-- ---- products, which omega takes as they are

pub record Rows (c : PlaneConfig) : Type 0 where
  pub len : c.stride * c.alloc_height ≡ c.yorigin * c.stride + c.height * c.stride + c.yorigin * c.stride
  pub pad_row : c.stride ≤ c.yorigin * c.stride
  pub picture_row : c.stride ≤ c.height * c.stride

pub rows : (c : PlaneConfig) → Sizes c → Rows c
rows c z =
    record {
      len = ap (λ (n : ℕ). c.stride * n) z.down ∙ by_terms c.yorigin c.height c.stride;
      pad_row = at_least c.yorigin c.stride (omega arith);
      picture_row = at_least c.height c.stride (omega arith);
    }
  where
    by_terms : (p h S : ℕ) → S * (p + h + p) ≡ p * S + h * S + p * S
    by_terms p h S = omega arith

    at_least : (n S : ℕ) → 1 ≤ n → S ≤ n * S
    at_least n S h = let m : 1 * S ≤ n * S = mul-le-mul_right S h in omega arith

-- the length that a call needs is the product of what `plane_config` gave
pub plane_len_lem : (t : PlaneType) (W H : ℕ) (c : PlaneConfig) → c ≡ config_of t W H → c.stride * c.alloc_height ≡ plane_len t W H
unfolding config_of
plane_len_lem t W H c e = ap (λ (r : PlaneConfig). r.stride * r.alloc_height) e

-- ---- a plane with room for them

pub record Room (c : PlaneConfig) (n : ℕ) : Type 0 where
  pub sized : Sizes c
  pub products : Rows c
  pub within : c.stride * c.alloc_height ≤ n

pub room : (t : PlaneType) (W H : ℕ) (c : PlaneConfig) (n : ℕ) → c ≡ config_of t W H → bad_picture W H ≡ false → plane_len t W H ≤ n → Room c n
room t W H c n e b l =
    let z = sizes_of t W H c e b in
    record { sized = z; products = rows c z; within = omega (arith, plane_len_lem t W H c e) }
