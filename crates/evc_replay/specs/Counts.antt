-- Document 02, W2: "replay as four counts (across low, high, down low, high, both lists) over the finished records, refused or not".
use Rattle.std.specs.Prelude.{Bool, cond, List, [], ◌∷◌, ℕ, eqb, ℤ}
use Rattle.evc_counts.specs.Counts.{nothing_counted, ◌plus◌, counts_of}
use Rattle.evc_counts.specs.declared.MovedCounts.{MovedCounts}
use Rattle.evc_trace.specs.Format.{header_len, count_len, header_of}
use Rattle.evc_record.specs.Record.{Planes, Source, source, record_answer, step_of}
use Rattle.evc_replay.specs.Replay.{header_code, records_from}
use Rattle.evc_replay.specs.declared.EvcReplay.{EvcReplay}

-- "both lists"
abbrev pub record_counts : Source → List ℕ → MovedCounts
record_counts e s = counts_of (record_answer e s).moved0 plus counts_of (record_answer e s).moved1

-- "the finished records": those before the first that is refused
unfoldable pub finished : Source → List (List ℕ) → List (List ℕ)
finished e [] = []
finished e (s ∷ rest) = cond (eqb (step_of e s).code 0) (s ∷ finished e rest) []

unfoldable pub counted_over : Source → List (List ℕ) → MovedCounts
counted_over e [] = nothing_counted
counted_over e (s ∷ rest) = record_counts e s plus counted_over e rest

-- what replay counts; nothing, if it is refused before the first record
unfoldable pub replayed_counts : List ℕ → Planes → Planes → Bool → List ℤ → Planes → MovedCounts
replayed_counts s p q has col t =
    let e = source (header_of count_len s) p q has col in
    cond (eqb (header_code s p q has col t) 0) (counted_over e (finished e (records_from s (header_len count_len)))) nothing_counted

-- the counts in an answer
abbrev pub counts_in : EvcReplay → MovedCounts
counts_in r =
    record {
      across_low = r.across_low;
      across_high = r.across_high;
      down_low = r.down_low;
      down_high = r.down_high;
    }
