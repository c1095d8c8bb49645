-- Document 02, W1: replay.
use Rattle.std.specs.Prelude.{Bool, not, cond, ◌&&◌, ◌||◌, List, [], ◌∷◌, ℕ, zero, suc, ◌+◌, ◌-◌, ◌/◌, ltb, eqb, ℤ, length, take, drop}
use Rattle.evc_def.specs.Blocks.{bad_picture}
use Rattle.evc_def.specs.Codes.{◌when◌, first_of}
use Rattle.evc_map.specs.Maps.{map_short}
use Rattle.evc_trace.specs.Format.{version, header_len, record_len, count_len, is_trace, header_of}
use Rattle.evc_record.specs.Record.{Planes, picture_short, Source, source, step_of, target_after}
use Rattle.evc_replay.specs.declared.EvcReplay.{EvcReplay}

-- ---- "Replay refuses, in this order, 11 for an incomplete header, 10 for mark or version, 1 and 4 (every lent plane and map)"

unfoldable pub header_code : List ℕ → Planes → Planes → Bool → List ℤ → Planes → ℕ
header_code s p q has col t =
    let W = (header_of count_len s).pic_w in
    let H = (header_of count_len s).pic_h in
    first_of
    (11 when ltb (length s) (header_len count_len)
    ∷ 10 when not (is_trace version s)
    ∷ 1 when bad_picture W H
    ∷ 4 when (picture_short W H p || picture_short W H q || picture_short W H t || has && map_short W H (length col))
    ∷ [])

-- ---- "Replay must equal the records applied one after another"

-- the bytes of n records from `at` on, the last one with what is left of it
unfoldable pub records_at : List ℕ → ℕ → ℕ → List (List ℕ)
records_at s at zero = []
records_at s at (suc n) = take (record_len count_len) (drop at s) ∷ records_at s (at + record_len count_len) n

-- of all records from `at` on
abbrev pub records_from : List ℕ → ℕ → List (List ℕ)
records_from s at = records_at s at ((length s - at + (record_len count_len - 1)) / record_len count_len)

-- what replay answers, but for its counts (Counts), and the target's planes afterwards
pub record Answer : Type 0 where
  pub code : ℕ
  pub index : ℕ

abbrev pub answer_in : EvcReplay → Answer
answer_in r = record { code = r.code; index = r.index }

pub record Replayed : Type 0 where
  pub answer : Answer
  pub target : Planes

-- "then per record, with its index from 0": k is the index of the first one. "the index is returned (the record count on 0) and the target keeps the blocks before it"
unfoldable pub applied : Source → List (List ℕ) → ℕ → Planes → Replayed
applied e [] k t = record { answer = record { code = 0; index = k }; target = t }
applied e (s ∷ rest) k t =
    cond (eqb (step_of e s).code 0) (applied e rest (k + 1) (target_after e s t))
    (record { answer = record { code = (step_of e s).code; index = k }; target = t })

-- "Replay takes W and H from the header"
unfoldable pub replayed : List ℕ → Planes → Planes → Bool → List ℤ → Planes → Replayed
replayed s p q has col t =
    cond (eqb (header_code s p q has col t) 0)
    (applied (source (header_of count_len s) p q has col) (records_from s (header_len count_len)) 0 t)
    (record { answer = record { code = header_code s p q has col t; index = 0 }; target = t })
