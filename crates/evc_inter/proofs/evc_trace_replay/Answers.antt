-- `evc_inter::evc_trace_replay` meets its contract. Assumes nothing.
use mathlib.Core.Bool.{Bool}
use mathlib.Core.List.{List}
use mathlib.Core.Path.{◌≡◌, ap₂, ◌∙◌}
use Prim.Native.Nat.{ℕ}
use borrow.Author.Rules.{rules}
use lib.IntN.{ℤ}
use Rattle.evc_record.specs.Record.{Planes, planes, target_of}
use Rattle.evc_replay.specs.Counts.{replayed_counts}
use Rattle.evc_replay.specs.Replay.{Answer, Replayed, replayed}
use Rattle.evc_replay.proofs.Absent.{same_replayed, same_replayed_counts}
use Rattle.evc_inter.proofs.evc_trace_replay.Goals as goal

-- the planes as they were lent
returned : (a : Answer) (p : Planes) (x : Replayed) (y u v : List ℕ) → record { answer = a; target = p } ≡ x → y ≡ p.y → u ≡ p.u → v ≡ p.v → record { answer = a; target = planes y u v } ≡ x
returned a p x y u v e ey eu ev = rw (ey, eu, ev) e

pub returns : goal.returns
returns c =
    let a = c.args in
    let s = a.trace.now in
    let p = planes a.y0.now a.u0.now a.v0.now in
    let q = planes a.y1.now a.u1.now a.v1.now in
    let t = planes a.y.now a.u.now a.v.now in
    let m = c.collocated.ensures in
    let w = c.evc_trace_replay.ensures in
    let same = w.same_planes in
    record {
      after_after = returned _ (target_of c.evc_trace_replay.new.target) _ _ _ _
          (w.target_after ∙ ap₂ (λ (has : Bool) (col : List ℤ). replayed s p q has col t) m.0 m.1 ∙ same_replayed s p q a.has_col a.col_mv.now t)
          (search (rules, same.y)) (search (rules, same.u)) (search (rules, same.v));
      result_value = w.counts ∙ ap₂ (λ (has : Bool) (col : List ℤ). replayed_counts s p q has col t) m.0 m.1 ∙ same_replayed_counts s p q a.has_col a.col_mv.now t;
    }
