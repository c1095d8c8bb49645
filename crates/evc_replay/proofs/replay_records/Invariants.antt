-- `evc_replay::replay_records` meets its contract. The invariant: what is left of the records, applied to the target as it is, gives what all of them
-- give; and so do their counts, added to those so far. Assumes nothing.
use mathlib.Core.Bool.{false}
use mathlib.Core.Path.{◌≡◌}
use Prim.Native.Nat.{◌+◌, ◌*◌, ◌≤◌}
use lib.ListN.{length}
use Rattle.evc_counts.specs.Counts.{◌plus◌}
use Rattle.evc_counts.specs.Inner.{AtMost}
use Rattle.evc_record.specs.Record.{target_of, source_of, picture_short, SamePlanes}
use Rattle.evc_replay.specs.Replay.{records_from, applied}
use Rattle.evc_replay.proofs.Counts.{counts_over}
use Rattle.evc_replay.proofs.replay_records.Given as goal

abbrev pub invariant-loop-record : goal.invariant-loop-record
invariant-loop-record l =
    let from = source_of l.from in
    let left = l.record-iterator.rest.now in
    (l.record-iterator.size ≡ 22) × (22 * l.index + length left ≤ length l.trace)
    × (picture_short l.from.header.pic_w l.from.header.pic_h (target_of l.target) ≡ false) × SamePlanes l.initial.target l.target
    × (applied from (records_from left 0) l.index (target_of l.target) ≡ applied from (records_from l.trace 13) 0 (target_of l.initial.target))
    × AtMost (2 * l.index) l.counts
    × (l.counts plus counts_over from (records_from left 0) ≡ counts_over from (records_from l.trace 13))
