-- What is still to be written completes the text of all rows.
use Rattle.std.proofs.Common.{◌≡◌, Option, List, ℕ}
use Rattle.std.specs.Io.KnownBytes.{Appends}
use Rattle.evc_lists.specs.Printed.{rows_text}
use Rattle.evc_lists.proofs.print_rows.Given as goal

abbrev pub invariant-loop-row : goal.invariant-loop-row
invariant-loop-row g l =
    (l.row-iterator.size ≡ l.stride)
    × ((last : Option (List ℕ)) → Appends (g.W.Write.contents l.out) last (rows_text l.stride l.form l.row-iterator.rest.now)
    → Appends (g.W.Write.contents l.fn.out) last (rows_text l.stride l.form l.samples))
