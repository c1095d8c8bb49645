-- Document 01, 'What demand 3 compares': the general two-stage filter. One definition for luma and chroma. Its numbers are written out here, so that it stands by itself
-- beside the document: of the call's own definitions it shares the tables of the fixed filters and the tap sum.
use Rattle.std.specs.Prelude.{[], ℕ, min, ℤ, pos, ◌+ℤ◌, get_or}
use Rattle.std.specs.Int.Signed.{shr_z}
use Rattle.evc_int.specs.Whole.{−◌, ◌⁺, ◌modulo◌}
use Rattle.evc_plane.specs.declared.PlaneType.{PlaneType}
use Rattle.evc_plane.specs.declared.PlaneType.TheVariants.{Y, UV}
use Rattle.evc_filter.specs.Filter.{tbl_mc_l_coeff, tbl_mc_c_coeff, tap_sum}

-- "its whole part the place >> 2 (chroma 3 ..)"
abbrev pub whole_part : PlaneType → ℤ → ℤ
whole_part Y place = shr_z place 4
whole_part UV place = shr_z place 8

-- The taps of a place's phase, "the low 2 bits (chroma 3 ..)", run over f "from column whole part + c - 2 (chroma - 1) on".
unfoldable pub tapped : PlaneType → (ℤ → ℤ) → ℤ → ℕ → ℤ
tapped Y f place c = tap_sum (get_or tbl_mc_l_coeff (place modulo 4) []) (λ (n : ℕ). f (whole_part Y place +ℤ pos c +ℤ − 2 +ℤ pos n))
tapped UV f place c = tap_sum (get_or tbl_mc_c_coeff (place modulo 8) []) (λ (n : ℕ). f (whole_part UV place +ℤ pos c +ℤ − 1 +ℤ pos n))

-- "the taps of the phase across run over each row's prolonged samples ..: sum >> 2": column c of row j, over the padded reference picture s
unfoldable pub general₁ : PlaneType → (ℤ → ℤ → ℕ) → ℤ → ℕ → ℤ → ℤ
general₁ t s px c j = shr_z (tapped t (λ (i : ℤ). pos (s i j)) px c) 4

-- "The taps of the phase down run over these results ..: (sum + 512) >> 10, held to 0..1023.": column c and row r of the block at (px, py)
unfoldable pub general : PlaneType → (ℤ → ℤ → ℕ) → ℤ → ℤ → ℕ → ℕ → ℕ
general t s px py c r = min (shr_z (tapped t (general₁ t s px c) py r +ℤ pos 512) 1024 ⁺) 1023
