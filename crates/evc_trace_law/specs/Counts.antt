-- Document 02, W2: "replay as four counts .. over the finished records, refused or not". Each statement speaks of `replayed_counts`, which the call's contract
-- equates its counts with. proofs/Counts proves them.
use Rattle.std.specs.Prelude.{Bool, List, ◌++◌, ◌≡◌, ℕ, ℤ, take}
use Rattle.evc_counts.specs.Counts.{◌plus◌}
use Rattle.evc_counts.specs.declared.MovedCounts.{MovedCounts}
use Rattle.evc_trace.specs.Format.{count_len, header_len, header_of}
use Rattle.evc_record.specs.Record.{Planes, source}
use Rattle.evc_replay.specs.Counts.{finished, replayed_counts}
use Rattle.evc_replay.specs.Replay.{header_code, records_from}
use Rattle.evc_trace_law.specs.Replays.{Whole, replay}

-- every statement is about one call's references, map and target
module _ (p q : Planes) (has : Bool) (col : List ℤ) (t : Planes) where
  abbrev pub counts : List ℕ → MovedCounts
  counts s = replayed_counts s p q has col t

  -- whole records a that are not refused, and then b: the counts of b, with the same header, are added to those of a
  abbrev pub CountsAdd : Type 0
  CountsAdd =
      (a b : List ℕ) (n : ℕ) → Whole a n → (replay p q has col t a).answer.code ≡ 0
      → counts (a ++ b) ≡ counts a plus replayed_counts (take (header_len count_len) a ++ b) p q has col (replay p q has col t a).target

  -- where the header or a record of a is refused, what follows is not counted; only 11 may come of what is missing
  abbrev pub CountsRefused : Type 0
  CountsRefused = (a b : List ℕ) → ((replay p q has col t a).answer.code ≡ 0 → ⊥) → ((replay p q has col t a).answer.code ≡ 11 → ⊥) → counts (a ++ b) ≡ counts a

  -- the finished records are those before the index that is returned
  abbrev pub FinishedBefore : Type 0
  FinishedBefore =
      (s : List ℕ) → header_code s p q has col t ≡ 0
      → let records = records_from s (header_len count_len) in finished (source (header_of count_len s) p q has col) records ≡ take (replay p q has col t s).answer.index records

abbrev pub Counts : Type 0
Counts = (p q : Planes) (has : Bool) (col : List ℤ) (t : Planes) → CountsAdd p q has col t × CountsRefused p q has col t × FinishedBefore p q has col t
