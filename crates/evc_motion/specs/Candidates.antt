-- Document 01, 'Candidates'.
use Rattle.std.specs.Prelude.{Bool, cond, ◌&&◌, ◌||◌, List, [], ◌∷◌, ◌++◌, ℕ, ◌+◌, ◌-◌, ltb, eqb, ℤ, pos, length, Result, Ok, Err}
use Rattle.evc_def.specs.Codes.{Check, ◌when◌, first_of, block_checks, zero_mv}
use Rattle.evc_def.specs.Tables.{is_bit}
use Rattle.evc_def.specs.declared.EvcBlock.{EvcBlock}
use Rattle.evc_def.specs.declared.EvcMv.{EvcMv}
use Rattle.evc_def.specs.declared.refusal.Refusal.{Refusal}
use Rattle.evc_def.specs.Refusals.{number_of}
use Rattle.evc_map.specs.Maps.{mv_at, map_short, w_scu, scup, scuw}
use Rattle.evc_motion.specs.declared.EvcCandidates.{EvcCandidates}

-- "Flag 7 means left at x = 0, up at y = 0, or up-right at y = 0 or x + w = W; other bits are ignored."
unfoldable pub flag_outside : EvcBlock → ℕ → Bool
flag_outside b avail =
    (is_bit 1 avail && eqb b.x 0) || (is_bit 0 avail && eqb b.y 0) || (is_bit 6 avail && (eqb b.y 0 || eqb (b.x + b.w) b.pic_w))

-- "a buffer that is needed is too short": the map, and "the collocated one only where present"
unfoldable pub maps_short : EvcBlock → ℕ → Bool → ℕ → Bool
maps_short b map_mv has_col col_mv = map_short b.pic_w b.pic_h map_mv || (has_col && map_short b.pic_w b.pic_h col_mv)

-- "Error: 1, 2, 3, 4, 7."
abbrev pub motion_checks : EvcBlock → ℕ → ℕ → ℕ → Bool → ℕ → List Check
motion_checks b lidx avail map_mv has_col col_mv =
    block_checks b ++ (3 when ltb 1 lidx ∷ 4 when maps_short b map_mv has_col col_mv ∷ 7 when flag_outside b avail ∷ [])

-- "left, up, up-right from the given list of the motion map, else (1,1)"
abbrev pub neighbour : List ℤ → ℕ → Bool → ℕ → EvcMv
neighbour map lidx flagged unit = cond flagged (mv_at map unit lidx) (record { x = pos 1; y = pos 1 })

-- "The fourth is list 0 of the collocated map at the block's first unit, for either list number. Without that map .. the fourth keeps its old value.
-- All four reference numbers become 0."
unfoldable pub candidates : EvcBlock → ℕ → ℕ → List ℤ → Bool → List ℤ → EvcCandidates → EvcCandidates
candidates b lidx avail map has_col col old =
    record {
      left = neighbour map lidx (is_bit 1 avail) (scup b - 1);
      up = neighbour map lidx (is_bit 0 avail) (scup b - w_scu b);
      up_right = neighbour map lidx (is_bit 6 avail) (scup b - w_scu b + scuw b);
      collocated = cond has_col (mv_at col (scup b) 0) old.collocated;
      refi = pos 0 ∷ pos 0 ∷ pos 0 ∷ pos 0 ∷ [];
    }

-- the call's number, and the record afterwards
pub record Motion : Type 0 where
  pub code : ℕ
  pub cand : EvcCandidates

-- the call by value: after a refusal the record is the one that came in
unfoldable pub get_motion : EvcBlock → ℕ → ℕ → List ℤ → Bool → List ℤ → EvcCandidates → Motion
get_motion b lidx avail map has_col col old =
    let code = first_of (motion_checks b lidx avail (length map) has_col (length col)) in
    record { code = code; cand = cond (eqb code 0) (candidates b lidx avail map has_col col old) old }

-- an answer as the call returns it, for a record that came in
abbrev pub motion_of : EvcCandidates → Result EvcCandidates Refusal → Motion
motion_of old (Ok cand) = record { code = 0; cand = cand }
motion_of old (Err r) = record { code = number_of r; cand = old }

-- a record of zeros
abbrev pub zero_candidates : EvcCandidates
zero_candidates = record { left = zero_mv; up = zero_mv; up_right = zero_mv; collocated = zero_mv; refi = pos 0 ∷ pos 0 ∷ pos 0 ∷ pos 0 ∷ [] }
