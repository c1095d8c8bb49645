-- Document 01, 'Planes': the sizes of a plane's buffer, and where its picture stands in it. One definition for luma and chroma.
use Rattle.std.specs.Prelude.{◌≡◌, refl, List, ℕ, ◌+◌, ◌*◌, ◌/◌, ◌-◌, min, ℤ, pos, ◌+ℤ◌, get_or}
use Rattle.evc_int.specs.Whole.{−◌, ◌⁺, clip3}
use Rattle.evc_plane.specs.declared.PlaneType.{PlaneType}
use Rattle.evc_plane.specs.declared.PlaneType.TheVariants.{Y, UV}
use Rattle.evc_plane.specs.declared.PlaneConfig.{PlaneConfig}

-- "chroma planes have half of each": a plane's side, from the picture's
abbrev pub side_of : PlaneType → ℕ → ℕ
side_of Y n = n
side_of UV n = n / 2

-- "Luma pad 80, chroma pad 40."
abbrev pub pad_of : PlaneType → ℕ
pad_of Y = 80
pad_of UV = 40

-- "rounded up to a multiple of 16"
abbrev pub align16 : ℕ → ℕ
align16 n = (n + 15) / 16 * 16

-- "The left origin is the pad rounded up to a multiple of 16: 80 and 48."
unfoldable pub origin_of : PlaneType → ℕ
origin_of t = align16 (pad_of t)

-- "Stride is left origin + width + pad, rounded up to 16."
unfoldable pub stride_of : PlaneType → ℕ → ℕ
stride_of t W = align16 (origin_of t + side_of t W + pad_of t)

-- "Rows: pad + height + pad."
unfoldable pub rows_of : PlaneType → ℕ → ℕ
rows_of t H = pad_of t + side_of t H + pad_of t

-- "Lengths needed: a plane, stride × rows"
abbrev pub plane_len : PlaneType → ℕ → ℕ → ℕ
plane_len t W H = stride_of t W * rows_of t H

-- all of these, as the code hands them on
unfoldable pub config_of : PlaneType → ℕ → ℕ → PlaneConfig
config_of t W H =
    record {
      stride = stride_of t W;
      alloc_height = rows_of t H;
      width = side_of t W;
      height = side_of t H;
      xorigin = origin_of t;
      yorigin = pad_of t;
    }

-- the index of the picture's first sample
abbrev pub picture_start : PlaneType → ℕ → ℕ
picture_start t W = pad_of t * stride_of t W + origin_of t

-- the sample in column x of row y of the buffer
abbrev pub stored_at : PlaneType → ℕ → List ℕ → ℕ → ℕ → ℕ
stored_at t W s x y = get_or s (y * stride_of t W + x) 0

-- the picture's sample in column i of row j
abbrev pub sample_at : PlaneType → ℕ → List ℕ → ℕ → ℕ → ℕ
sample_at t W s i j = stored_at t W s (origin_of t + i) (pad_of t + j)

-- the padded reference picture ('What demand 3 compares'): "its sample at any whole (i, j) is the picture's at i held to 0..pw - 1 and j held to
-- 0..ph - 1."
unfoldable pub reference : (ℕ → ℕ → ℕ) → ℕ → ℕ → ℤ → ℤ → ℕ
reference pic pw ph i j = pic (min (i ⁺) (pw - 1)) (min (j ⁺) (ph - 1))

-- that of the picture in a buffer
abbrev pub reference_of : PlaneType → ℕ → ℕ → List ℕ → ℤ → ℤ → ℕ
reference_of t W H s = reference (sample_at t W s) (side_of t W) (side_of t H)

-- "`PlaneSlice::clamp` then holds the start between minus the origin and the plane's size.": in one direction
abbrev pub clamp_start : ℕ → ℕ → ℤ → ℤ
clamp_start origin size z = clip3 (− origin) (pos size) z

-- the stored column or row of a clamped start
unfoldable pub start_at : ℕ → ℕ → ℤ → ℕ
start_at origin size z = (clamp_start origin size z +ℤ pos origin) ⁺

-- the index of the first sample of a window at the place (zx, zy), clamped
unfoldable pub window_start : PlaneType → ℕ → ℕ → ℤ → ℤ → ℕ
window_start t W H zx zy = start_at (pad_of t) (side_of t H) zy * stride_of t W + start_at (origin_of t) (side_of t W) zx

-- 'Edges to try': "Strides: luma width 4: 176; 8128: 8288; chroma width 2: 96; 4064: 4160."
abbrev pub StrideEdges : Type 0
StrideEdges = (stride_of Y 4 ≡ 176) × (stride_of Y 8128 ≡ 8288) × (stride_of UV 4 ≡ 96) × (stride_of UV 8128 ≡ 4160)

pub stride_edges : StrideEdges
unfolding stride_of origin_of
stride_edges = (refl, refl, refl, refl)
