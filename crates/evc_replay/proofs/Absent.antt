-- Without a collocated map its numbers do not count. Assumes nothing.
use mathlib.Core.Bool.{Bool, true, false, cond}
use mathlib.Core.List.{List, [], ◌∷◌}
use mathlib.Core.Path.{◌≡◌, refl, ap, ap₂}
use Prim.Native.Nat.{ℕ, ◌+◌}
use lib.Dec.{eqb}
use lib.IntN.{ℤ}
use Rattle.evc_direct.proofs.Absent.{absent}
use Rattle.evc_counts.specs.Counts.{nothing_counted, ◌plus◌, counts_of}
use Rattle.evc_counts.specs.declared.MovedCounts.{MovedCounts}
use Rattle.evc_mc.specs.declared.EvcPredicted.{EvcPredicted}
use Rattle.evc_trace.specs.Format.{header_len, count_len, record_of, header_of}
use Rattle.evc_trace.specs.declared.TraceHeader.{TraceHeader}
use Rattle.evc_trace.specs.declared.EvcTraceRecord.{EvcTraceRecord}
use Rattle.evc_record.specs.Record.{Planes, Source, source, block_of, pocs_of, motion_of, block_code, record_code, record_answer, plane_after, target_after}
use Rattle.evc_replay.specs.Counts.{finished, counted_over, replayed_counts}
use Rattle.evc_replay.specs.Replay.{header_code, records_from, applied, replayed}

module _ (h : TraceHeader) (p q : Planes) (has : Bool) (col : List ℤ) where
  abbrev given : Source
  given = source h p q has col

  abbrev read : Source
  read = source h p q has (cond has col [])

  same_motion : (r : EvcTraceRecord) → motion_of h has (cond has col []) r ≡ motion_of h has col r
  unfolding motion_of
  same_motion r = rw (absent (block_of h r) (pocs_of h r) has col)

  same_code : (s : List ℕ) → record_code read s ≡ record_code given s
  unfolding record_code block_code
  same_code s = rw (same_motion (record_of count_len s))

  same_answer : (s : List ℕ) → record_answer read s ≡ record_answer given s
  same_answer s = rw (same_code s, same_motion (record_of count_len s))

  same_target : (s : List ℕ) (t : Planes) → target_after read s t ≡ target_after given s t
  unfolding target_after plane_after
  same_target s t = rw (same_motion (record_of count_len s))

  same_applied : (l : List (List ℕ)) (k : ℕ) (t : Planes) → applied read l k t ≡ applied given l k t
  unfolding applied
  same_applied [] k t = refl
  same_applied (s ∷ rest) k t = rw (same_code s, same_target s t, same_applied rest (k + 1) (target_after given s t))

  same_finished : (l : List (List ℕ)) → finished read l ≡ finished given l
  unfolding finished
  same_finished [] = refl
  same_finished (s ∷ rest) = rw (same_code s, same_finished rest)

  same_counts : (l : List (List ℕ)) → counted_over read l ≡ counted_over given l
  unfolding counted_over
  same_counts [] = refl
  same_counts (s ∷ rest) =
      ap₂ (λ (c d : MovedCounts). c plus d) (ap (λ (a : EvcPredicted). counts_of a.moved0 plus counts_of a.moved1) (same_answer s)) (same_counts rest)

module _ (s : List ℕ) (p q : Planes) (has : Bool) (col : List ℤ) (t : Planes) where
  same_header : header_code s p q has (cond has col []) t ≡ header_code s p q has col t
  unfolding header_code
  same_header = by_flag has
    where
      by_flag : (has : Bool) → header_code s p q has (cond has col []) t ≡ header_code s p q has col t
      by_flag true = refl
      by_flag false = refl

  pub same_replayed : replayed s p q has (cond has col []) t ≡ replayed s p q has col t
  unfolding replayed
  same_replayed = rw (same_header, same_applied (header_of count_len s) p q has col (records_from s (header_len count_len)) 0 t)

  pub same_replayed_counts : replayed_counts s p q has (cond has col []) t ≡ replayed_counts s p q has col t
  unfolding replayed_counts
  same_replayed_counts =
      rw (same_header, same_finished (header_of count_len s) p q has col (records_from s (header_len count_len)))
      (ap (λ (c : MovedCounts). cond (eqb (header_code s p q has col t) 0) c nothing_counted)
      (same_counts (header_of count_len s) p q has col (finished (source (header_of count_len s) p q has col) (records_from s (header_len count_len)))))
