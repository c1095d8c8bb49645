-- Document 01, 'One plane': the prediction of a block of one plane. One definition for luma and chroma.
use Rattle.std.specs.Prelude.{Bool, true, false, not, cond, ◌&&◌, ◌||◌, List, [], ◌∷◌, ℕ, ◌+◌, ◌*◌, eqb, ltb, ℤ, ◌+ℤ◌, length, get_or}
use Rattle.std.specs.Int.Signed.{shr_z}
use Rattle.evc_int.specs.Whole.{−◌, ◌modulo◌}
use Rattle.evc_int.specs.Lists.{with_block}
use Rattle.evc_def.specs.Blocks.{is_block_side, bad_picture}
use Rattle.evc_def.specs.Codes.{◌when◌, first_of}
use Rattle.evc_def.specs.declared.EvcMv.{EvcMv}
use Rattle.evc_def.specs.declared.QpelPlace.{QpelPlace}
use Rattle.evc_plane.specs.Planes.{stride_of, plane_len, window_start}
use Rattle.evc_samples.specs.Samples.{exceeds}
use Rattle.evc_filter.specs.Filter.{phases, lead, reach, interpolated, interpolated_twice}
use Rattle.evc_plane.specs.declared.PlaneType.{PlaneType}
use Rattle.evc_plane.specs.declared.PlaneType.TheVariants.{Y, UV}

-- "the phase and place from the given signed 16-bit position (its low 2 bits, and the position >> 2; chroma 3)": of z quarter samples
unfoldable pub phase_of : PlaneType → ℤ → ℕ
phase_of t z = z modulo phases t

-- that place is in whole samples, the Rust's pel
unfoldable pub pel_of : PlaneType → ℤ → ℤ
pel_of t z = shr_z z (phases t)

-- "the path comes from the original vector's low 2 bits (chroma 3)": whether a direction is filtered
unfoldable pub is_filtered : PlaneType → ℤ → Bool
is_filtered t mv = not (eqb (phase_of t mv) 0)

-- "Paths start at the place less 2 (chroma 1) in a filtered direction"
unfoldable pub start_of : PlaneType → Bool → ℤ → ℤ
start_of t filtered z = pel_of t z +ℤ (− cond filtered (lead t) 0)

-- the index of the window's first sample, clamped
unfoldable pub window_of : PlaneType → ℕ → ℕ → Bool → Bool → QpelPlace → ℕ
window_of t W H across down gmv = window_start t W H (start_of t across gmv.x.0) (start_of t down gmv.y.0)

-- the predicted sample whose window's sample has the index `at`, by the path
unfoldable pub sample_by : PlaneType → Bool → Bool → ℕ → ℕ → List ℕ → ℕ → ℕ → ℕ
sample_by t false false dx dy s at stride = get_or s at 0
sample_by t true false dx dy s at stride = interpolated t dx s at 1
sample_by t false true dx dy s at stride = interpolated t dy s at stride
sample_by t true true dx dy s at stride = interpolated_twice t dx dy s at stride

-- the sample in row y and column x of the predicted block
unfoldable pub predicted : PlaneType → ℕ → ℕ → EvcMv → QpelPlace → List ℕ → ℕ → ℕ → ℕ
predicted t W H ori gmv s y x =
    let across = is_filtered t ori.x in
    let down = is_filtered t ori.y in
    sample_by t across down (phase_of t gmv.x.0) (phase_of t gmv.y.0) s (window_of t W H across down gmv + y * stride_of t W + x) (stride_of t W)

-- "A block has sides 4, 8, 16, 32 or 64", and half of these in chroma
abbrev pub is_side : PlaneType → ℕ → Bool
is_side Y n = is_block_side n
is_side UV n = eqb n 2 || eqb n 4 || eqb n 8 || eqb n 16 || eqb n 32

-- "Samples examined for 6: from the clamped start of the two-direction path, w + 5 by h + 5 (chroma + 3)."
unfoldable pub window_exceeds : PlaneType → ℕ → ℕ → QpelPlace → ℕ → ℕ → List ℕ → Bool
window_exceeds t W H gmv w h s = exceeds s (window_of t W H true true gmv) (stride_of t W) (w + reach t) (h + reach t)

-- "Error: 1, 2, 4, 6."
unfoldable pub mc_plane_code : PlaneType → ℕ → ℕ → QpelPlace → ℕ → ℕ → List ℕ → List ℕ → ℕ
mc_plane_code t W H gmv w h s d =
    first_of
    (1 when bad_picture W H
    ∷ 2 when not (is_side t w && is_side t h)
    ∷ 4 when (ltb (length s) (plane_len t W H) || ltb (length d) (w * h))
    ∷ 6 when window_exceeds t W H gmv w h s
    ∷ [])

-- the block at the first w × h places, row after row, and all others as before; after a refusal all as before
unfoldable pub mc_plane_after : PlaneType → ℕ → ℕ → EvcMv → QpelPlace → ℕ → ℕ → List ℕ → List ℕ → List ℕ
mc_plane_after t W H ori gmv w h s d = cond (eqb (mc_plane_code t W H gmv w h s d) 0) (with_block d 0 w w h (predicted t W H ori gmv s)) d
