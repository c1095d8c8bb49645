-- Document 02, W5: flags of pictures that are cut into slices.
use Rattle.std.specs.Prelude.{ℕ, Bool, List, [], ◌∷◌, ◌++◌, length, ◌==◌, nat_lt}
use Rattle.evc_def.specs.Codes.{Check, ◌when◌, first_of}
use Rattle.evc_def.specs.Tables.{slice_num}
use Rattle.evc_def.specs.declared.EvcBlock.{EvcBlock}
use Rattle.evc_avail.specs.Flags.{avail_of, answered, avail_checks}
use Rattle.evc_avail.specs.declared.EvcAvail.{EvcAvail}

-- "treats a unit of another slice as unavailable for every flag, up and right-up too"
abbrev pub of_slice : ℕ → ℕ → Bool
of_slice slice word = slice_num word == slice

-- "the block's slice number, 0 to 127"
abbrev pub max_slice_num : ℕ
max_slice_num = 127

-- "It refuses 13 for a slice number above 127, after 4."
abbrev pub slice_checks : EvcBlock → ℕ → ℕ → List Check
slice_checks b slice words = avail_checks b words ++ (13 when nat_lt max_slice_num slice ∷ [])

unfoldable pub get_avail_inter_slice : EvcBlock → ℕ → List ℕ → EvcAvail
get_avail_inter_slice b slice map = answered (first_of (slice_checks b slice (length map))) (avail_of (of_slice slice) b map)
