-- Document 02, W4: "Add a summary of a picture's motion map with its unit words".
use Rattle.std.specs.Prelude.{Bool, true, false, cond, not, ◌&&◌, ◌||◌, List, [], ◌∷◌, ℕ, zero, suc, ◌+◌, ◌*◌, eqb, ℤ, pos, negsuc, nat_abs, ◌+ℤ◌, length, Float, Result, Ok, Err}
use Rattle.std.specs.Float.Ieee as Ieee
use Rattle.std.specs.Float.{binary64}
use Rattle.evc_int.specs.Whole.{eq_z}
use Rattle.evc_def.specs.Blocks.{bad_picture}
use Rattle.evc_def.specs.Codes.{Check, ◌when◌, first_of}
use Rattle.evc_def.specs.Tables.{is_coded, is_intra}
use Rattle.evc_def.specs.declared.EvcMv.{EvcMv}
use Rattle.evc_def.specs.declared.refusal.Refusal.{Refusal}
use Rattle.evc_def.specs.Refusals.{number_of}
use Rattle.evc_map.specs.Maps.{units_of, word_at, words_short, mv_at, map_short}
use Rattle.evc_camera.specs.declared.Sums.{Sums}
use Rattle.evc_camera.specs.declared.CameraMotion.{CameraMotion}
use Rattle.evc_camera.specs.declared.CameraMotion.TheVariants.{None, Still, Moving}
use Rattle.evc_camera.specs.declared.EvcCamera.{EvcCamera}

-- "over units coded and not intra"
abbrev pub is_counted : List ℕ → ℕ → Bool
is_counted words i = is_coded (word_at words i) && not (is_intra (word_at words i))

-- one unit more, with its vector
abbrev pub with_mv : Sums → EvcMv → Sums
with_mv s mv = record { units = s.units + 1; x = s.x +ℤ mv.x; y = s.y +ℤ mv.y }

-- "the exact whole sum" of the list 0 vectors across and down, in quarter samples, and "the number of units", among the first k
unfoldable pub sums_of : List ℤ → List ℕ → ℕ → Sums
sums_of map words zero = record { units = 0; x = pos 0; y = pos 0 }
sums_of map words (suc k) = cond (is_counted words k) (with_mv (sums_of map words k) (mv_at map k 0)) (sums_of map words k)

-- +0.0
abbrev pub plus_zero : Float
plus_zero = Ieee.of_bits binary64 0

abbrev pub is_negative : ℤ → Bool
is_negative (pos n) = false
is_negative (negsuc n) = true

-- "the exact whole sum divided once by four times the number of units": the fraction itself, rounded once to double precision
unfoldable pub mean_of : ℤ → ℕ → Float
mean_of sum units = Ieee.round binary64 (is_negative sum) (nat_abs sum) (4 * units)

-- "no such unit; still, when both sums are zero; or moving, with the mean across and down"
unfoldable pub motion_of : Sums → CameraMotion
motion_of s =
    cond (eqb s.units 0) None
    (cond (eq_z s.x (pos 0) && eq_z s.y (pos 0)) Still (Moving (mean_of s.x s.units) (mean_of s.y s.units)))

-- the number and the values of each case
abbrev pub answer : ℕ → CameraMotion → EvcCamera
answer c None = record { code = c; kind = 0; x = plus_zero; y = plus_zero }
answer c Still = record { code = c; kind = 1; x = plus_zero; y = plus_zero }
answer c (Moving x y) = record { code = c; kind = 2; x = x; y = y }

-- "It refuses 1, then 4": the map or the words are too short
abbrev pub camera_checks : ℕ → ℕ → ℕ → ℕ → List Check
camera_checks W H map words = 1 when bad_picture W H ∷ 4 when (map_short W H map || words_short W H words) ∷ []

-- "with the first reading"
unfoldable pub camera_motion : ℕ → ℕ → List ℤ → List ℕ → EvcCamera
camera_motion W H map words =
    let code = first_of (camera_checks W H (length map) (length words)) in
    answer code (cond (eqb code 0) (motion_of (sums_of map words (units_of W H))) None)

-- an answer as the call returns it
abbrev pub answer_of : Result CameraMotion Refusal → EvcCamera
answer_of (Ok m) = answer 0 m
answer_of (Err r) = answer (number_of r) None
