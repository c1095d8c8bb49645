-- The lines of the records passed are written, each of at most 20 bytes.
use Rattle.std.proofs.Common.{◌*◌, ◌≤◌}
use Rattle.mv_clip_text.specs.Records.{lines}
use Rattle.mv_clip_text.specs.Inner.{Wrote}
use Rattle.mv_clip_text.proofs.chunk_text.Given as goal

abbrev pub invariant-loop-record : goal.invariant-loop-record
invariant-loop-record l = record {
  bounded : l.at ≤ 20 * l.record-index;
  wrote : Wrote l.initial.out l.out 0 l.at (lines l.records l.record-index);
}
