-- Document 01, 'One plane' and 'The fixed filters': the interpolation. One definition for luma and chroma.
use Rattle.std.specs.Prelude.{List, [], ◌∷◌, ◌≡◌, ℕ, suc, ◌+◌, ◌*◌, min, ℤ, pos, ◌+ℤ◌, ◌*ℤ◌, get_or}
use Rattle.std.specs.Int.Signed.{shr_z}
use Rattle.evc_int.specs.Whole.{−◌, ◌⁺}
use Rattle.evc_plane.specs.declared.PlaneType.{PlaneType}
use Rattle.evc_plane.specs.declared.PlaneType.TheVariants.{Y, UV}

-- "The fixed filters are `tbl_mc_l_coeff` and `tbl_mc_c_coeff`.": the luma filter of each phase, in quarter samples
abbrev pub tbl_mc_l_coeff : List (List ℤ)
tbl_mc_l_coeff =
    (pos 0 ∷ pos 0 ∷ pos 64 ∷ pos 0 ∷ pos 0 ∷ pos 0 ∷ [])
    ∷ (pos 1 ∷ − 5 ∷ pos 52 ∷ pos 20 ∷ − 5 ∷ pos 1 ∷ [])
    ∷ (pos 2 ∷ − 10 ∷ pos 40 ∷ pos 40 ∷ − 10 ∷ pos 2 ∷ [])
    ∷ (pos 1 ∷ − 5 ∷ pos 20 ∷ pos 52 ∷ − 5 ∷ pos 1 ∷ [])
    ∷ []

-- the chroma filter of each phase, in eighth samples
abbrev pub tbl_mc_c_coeff : List (List ℤ)
tbl_mc_c_coeff =
    (pos 0 ∷ pos 64 ∷ pos 0 ∷ pos 0 ∷ [])
    ∷ (− 2 ∷ pos 58 ∷ pos 10 ∷ − 2 ∷ [])
    ∷ (− 4 ∷ pos 52 ∷ pos 20 ∷ − 4 ∷ [])
    ∷ (− 6 ∷ pos 46 ∷ pos 30 ∷ − 6 ∷ [])
    ∷ (− 8 ∷ pos 40 ∷ pos 40 ∷ − 8 ∷ [])
    ∷ (− 6 ∷ pos 30 ∷ pos 46 ∷ − 6 ∷ [])
    ∷ (− 4 ∷ pos 20 ∷ pos 52 ∷ − 4 ∷ [])
    ∷ (− 2 ∷ pos 10 ∷ pos 58 ∷ − 2 ∷ [])
    ∷ []

-- by the plane: Y is luma, UV chroma
abbrev pub table : PlaneType → List (List ℤ)
table Y = tbl_mc_l_coeff
table UV = tbl_mc_c_coeff

-- the taps of a phase
abbrev pub taps : PlaneType → ℕ → List ℤ
taps t phase = get_or (table t) phase []

-- how many phases a sample has: "its low 2 bits, and the position >> 2; chroma 3"
abbrev pub phases : PlaneType → ℕ
phases Y = 4
phases UV = 8

-- "Paths start at the place less 2 (chroma 1) in a filtered direction"
abbrev pub lead : PlaneType → ℕ
lead Y = 2
lead UV = 1

-- how many samples a filter reaches past the first: "w + 5 by h + 5 (chroma + 3)"
abbrev pub reach : PlaneType → ℕ
reach Y = 5
reach UV = 3

-- the tap sum, for any number of taps: tap j times f j
abbrev pub tap_sum : List ℤ → (ℕ → ℤ) → ℤ
tap_sum [] f = pos 0
tap_sum (c ∷ cs) f = c *ℤ f 0 +ℤ tap_sum cs (λ (j : ℕ). f (suc j))

-- "Filtered results are held to 0..1023."
abbrev pub clip_sample : ℤ → ℕ
clip_sample z = min (z ⁺) 1023

-- "One direction: (sum + 32) >> 6."
abbrev pub single_stage : ℤ → ℕ
single_stage sum = clip_sample (shr_z (sum +ℤ pos 32) 64)

-- "Two: rows first, sum >> 2, then columns, (sum + 512) >> 10."
abbrev pub first_stage : ℤ → ℤ
first_stage sum = shr_z sum 4

abbrev pub second_stage : ℤ → ℕ
second_stage sum = clip_sample (shr_z (sum +ℤ pos 512) 1024)

-- the samples of a stored plane from an index on, `step` apart
abbrev pub along : List ℕ → ℕ → ℕ → ℕ → ℤ
along s at step j = pos (get_or s (at + j * step) 0)

-- ---- a predicted sample, by the path. `at` is the index of the window's sample for it: the first one that the taps lie on

-- rows or columns alone
unfoldable pub interpolated : PlaneType → ℕ → List ℕ → ℕ → ℕ → ℕ
interpolated t phase s at step = single_stage (tap_sum (taps t phase) (along s at step))

-- rows, then columns of what the rows gave
unfoldable pub row_stage : PlaneType → ℕ → List ℕ → ℕ → ℤ
row_stage t dx s at = first_stage (tap_sum (taps t dx) (along s at 1))

unfoldable pub interpolated_twice : PlaneType → ℕ → ℕ → List ℕ → ℕ → ℕ → ℕ
interpolated_twice t dx dy s at stride = second_stage (tap_sum (taps t dy) (λ (j : ℕ). row_stage t dx s (at + j * stride)))

-- 'Edges to try': the lines on the filters
abbrev pub FilterEdges : Type 0
FilterEdges =
    (interpolated Y 2 (0 ∷ 0 ∷ 1023 ∷ 1023 ∷ 0 ∷ 0 ∷ []) 0 1 ≡ 1023)
    × (interpolated Y 2 (1023 ∷ 1023 ∷ 0 ∷ 0 ∷ 1023 ∷ 1023 ∷ []) 0 1 ≡ 0)
    × (interpolated Y 1 (0 ∷ 0 ∷ 100 ∷ 200 ∷ 0 ∷ 0 ∷ []) 0 1 ≡ 144)
    × (interpolated Y 3 (0 ∷ 0 ∷ 100 ∷ 200 ∷ 0 ∷ 0 ∷ []) 0 1 ≡ 194)
    × (interpolated UV 1 (0 ∷ 64 ∷ 128 ∷ 0 ∷ []) 0 1 ≡ 78)
    × (row_stage Y 1 (0 ∷ 1 ∷ 0 ∷ 0 ∷ 0 ∷ 0 ∷ []) 0 ≡ − 2)
