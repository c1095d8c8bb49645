-- Document 01, 'Direct vectors'.
use Rattle.std.specs.Prelude.{Bool, cond, ◌&&◌, ◌||◌, List, [], ◌∷◌, ◌++◌, ◌≡◌, ℕ, ltb, eqb, ℤ, pos, neg_ℤ, ◌-ℤ◌, ◌*ℤ◌, length, Result, Ok, Err}
use Rattle.std.specs.Int.Signed.{quot_z}
use Rattle.evc_int.specs.Whole.{−◌}
use Rattle.evc_int.specs.LowBits.{low16}
use Rattle.evc_def.specs.Blocks.{max_poc}
use Rattle.evc_def.specs.Codes.{Check, ◌when◌, first_of, block_checks, zero_mv}
use Rattle.evc_def.specs.declared.EvcBlock.{EvcBlock}
use Rattle.evc_def.specs.declared.EvcMv.{EvcMv}
use Rattle.evc_def.specs.declared.refusal.Refusal.{Refusal}
use Rattle.evc_def.specs.Refusals.{number_of}
use Rattle.evc_map.specs.Maps.{mv_at, map_short, scup}
use Rattle.evc_direct.specs.declared.DirectVectors.{DirectVectors}
use Rattle.evc_direct.specs.declared.EvcDirect.{EvcDirect}
use Rattle.evc_direct.specs.declared.Pocs.{Pocs}

-- 5: "an order count in use exceeds 32,767"
unfoldable pub poc_too_large : Pocs → Bool
poc_too_large p = ltb max_poc p.poc || ltb max_poc p.poc0 || ltb max_poc p.poc1 || ltb max_poc p.list_poc0

-- "Error: 1, 2, 4, 5."
abbrev pub direct_checks : EvcBlock → Pocs → Bool → ℕ → List Check
direct_checks b p has_col col_mv =
    block_checks b ++ (4 when (has_col && map_short b.pic_w b.pic_h col_mv) ∷ 5 when poc_too_large p ∷ [])

-- "co = count of reference 1 less its first listed count"
abbrev pub dpoc_co : Pocs → ℤ
dpoc_co p = pos p.poc1 -ℤ pos p.list_poc0

-- "(count - count 0)" and "-(count 1 - count)"
abbrev pub dpoc0 : Pocs → ℤ
dpoc0 p = pos p.poc -ℤ pos p.poc0

abbrev pub dpoc1 : Pocs → ℤ
dpoc1 p = neg_ℤ (pos p.poc1 -ℤ pos p.poc)

-- ".. × v / co, truncated toward zero": a whole number of any size
abbrev pub exact_quotient : ℤ → ℤ → ℤ → ℤ
exact_quotient dpoc v co = quot_z (dpoc *ℤ v) co

pub record Quotients : Type 0 where
  pub x0 : ℤ
  pub y0 : ℤ
  pub x1 : ℤ
  pub y1 : ℤ

-- "all four numbers are 0 if co = 0. Otherwise first = (count - count 0) × v / co, second = -(count 1 - count) × v / co"
unfoldable pub exact_quotients : Pocs → EvcMv → Quotients
exact_quotients p mv =
    cond (eqb p.poc1 p.list_poc0) (record { x0 = pos 0; y0 = pos 0; x1 = pos 0; y1 = pos 0 })
    (record {
      x0 = exact_quotient (dpoc0 p) mv.x (dpoc_co p);
      y0 = exact_quotient (dpoc0 p) mv.y (dpoc_co p);
      x1 = exact_quotient (dpoc1 p) mv.x (dpoc_co p);
      y1 = exact_quotient (dpoc1 p) mv.y (dpoc_co p);
    })

-- "and only the low sixteen bits are kept, as a signed number"
abbrev pub low_mv : ℤ → ℤ → EvcMv
low_mv x y = record { x = low16 x; y = low16 y }

unfoldable pub direct_vectors : Pocs → EvcMv → EvcDirect
direct_vectors p mv =
    let q = exact_quotients p mv in
    record { code = 0; mv0 = low_mv q.x0 q.y0; mv1 = low_mv q.x1 q.y1 }

-- "collocated vector from list 0, zero without a map"
abbrev pub collocated : EvcBlock → Bool → List ℤ → EvcMv
collocated b has_col col = cond has_col (mv_at col (scup b) 0) zero_mv

unfoldable pub get_mv_dir : EvcBlock → Pocs → Bool → List ℤ → EvcDirect
get_mv_dir b p has_col col =
    let code = first_of (direct_checks b p has_col (length col)) in
    cond (eqb code 0) (direct_vectors p (collocated b has_col col)) (record { code = code; mv0 = zero_mv; mv1 = zero_mv })

-- an answer as the call returns it
abbrev pub answer_of : Result DirectVectors Refusal → EvcDirect
answer_of (Ok d) = record { code = 0; mv0 = d.mv0; mv1 = d.mv1 }
answer_of (Err r) = record { code = number_of r; mv0 = zero_mv; mv1 = zero_mv }

-- 'Edges to try': the two lines on direct vectors
abbrev pub DirectEdges : Type 0
DirectEdges =
    (direct_vectors (record { poc = 4; poc0 = 0; poc1 = 8; list_poc0 = 0 }) (record { x = pos 7; y = − 7 })
    ≡ record { code = 0; mv0 = record { x = pos 3; y = − 3 }; mv1 = record { x = − 3; y = pos 3 } })
    × (direct_vectors (record { poc = 5; poc0 = 0; poc1 = 6; list_poc0 = 5 }) (record { x = pos 10000; y = pos 0 })
    ≡ record { code = 0; mv0 = record { x = − 15536; y = pos 0 }; mv1 = record { x = − 10000; y = pos 0 } })
