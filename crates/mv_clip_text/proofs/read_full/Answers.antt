-- `mv_clip_text::read_full`: what a read gives stands behind what was there.
use Rattle.std.proofs.Common.{rules, subst, sym}
use Rattle.std.specs.Io.KnownBytes.{Consumes}
use Rattle.mv_clip_text.proofs.Known.{consumes_both, take_past}
use Rattle.mv_clip_text.proofs.read_full.Goals as goal

pub loop-n-preserved : goal.loop-n-preserved
loop-n-preserved g c = record {
  bounded = search rules;
  taken =
      subst
      (Consumes _ _)
      (sym (take_past _ _ _ _ _ c.loop-n.invariant.bounded (search rules)))
      (consumes_both _ _ _ _ _ c.loop-n.invariant.taken c.in_ok-more.ensures.bytes.0);
}
