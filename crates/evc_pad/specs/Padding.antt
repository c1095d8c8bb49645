-- Document 01, 'Planes': the padding call ('border step' there).
use Rattle.std.specs.Prelude.{cond, List, [], ◌∷◌, ℕ, ◌-◌, min, eqb, ltb, length}
use Rattle.evc_int.specs.Lists.{with_block}
use Rattle.evc_def.specs.Blocks.{bad_picture}
use Rattle.evc_def.specs.Codes.{◌when◌, first_of}
use Rattle.evc_plane.specs.declared.PlaneType.{PlaneType}
use Rattle.evc_plane.specs.Planes.{pad_of, origin_of, side_of, stride_of, rows_of, plane_len, picture_start, sample_at}
use Rattle.evc_samples.specs.Samples.{exceeds}

-- the value that padding gives to column x and row y of the buffer: the picture's sample at the column and row held to the picture
-- (a difference of naturals stops at 0)
abbrev pub padded_at : PlaneType → ℕ → ℕ → List ℕ → ℕ → ℕ → ℕ
padded_at t W H s y x = sample_at t W s (min (x - origin_of t) (side_of t W - 1)) (min (y - pad_of t) (side_of t H - 1))

-- "`pad` fills left, then all columns right of the picture to the stride, then copies the first and last full rows outward."
unfoldable pub padded : PlaneType → ℕ → ℕ → List ℕ → List ℕ
padded t W H s = with_block s 0 (stride_of t W) (stride_of t W) (rows_of t H) (padded_at t W H s)

-- "Error: 1, 4, 6 (picture samples)."
unfoldable pub pad_code : PlaneType → ℕ → ℕ → List ℕ → ℕ
pad_code t W H s =
    first_of
    (1 when bad_picture W H
    ∷ 4 when ltb (length s) (plane_len t W H)
    ∷ 6 when exceeds s (picture_start t W) (stride_of t W) (side_of t W) (side_of t H)
    ∷ [])

-- "A refusal .. writes nothing."
unfoldable pub pad_after : PlaneType → ℕ → ℕ → List ℕ → List ℕ
pad_after t W H s = cond (eqb (pad_code t W H s) 0) (padded t W H s) s
