-- `evc_lists::print_rows`: each row's line, and none behind the last.
use Rattle.std.proofs.Common.{◌≡◌, subst, sym, ◌∙◌, ap, ℕ, min, length}
use Rattle.std.specs.Io.KnownBytes.{Appends}
use Rattle.std.proofs.KnownBytes.{Appends-trans, Appends-nil}
use Rattle.evc_lists.proofs.Rows.{no_row, next_row}
use Rattle.evc_lists.proofs.print_rows.Goals as goal

pub loop-row-preserved : goal.loop-row-preserved
loop-row-preserved g c =
    let s = c.in-Some.ensures.steps in
    let e : c.loop-row.row-iterator.size ≡ c.args.stride = c.loop-row.invariant.0 in
    let rows = next_row c.args.stride c.args.form c.requires c.loop-row.row-iterator.rest.now c.in-Some.row.now c.next.new.self.rest.now s.1.0
    (s.1.1 ∙ ap (λ (n : ℕ). min n (length c.loop-row.row-iterator.rest.now)) e) s.1.2 in (
      s.0 ∙ e,
      λ last q.
          c.loop-row.invariant.1 last (subst (Appends _ last) (sym rows) (Appends-trans _ _ last _ _ c.in_ok-print_row.ensures q)),
    )

pub returns : goal.returns
returns g c =
    c.loop-row.invariant.1 _
    (subst (Appends _ _) (sym (no_row c.args.stride c.args.form c.requires _ c.in-None.ensures.steps.1.0)) (Appends-nil _))
