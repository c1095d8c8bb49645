-- `evc_mc::average_plane` meets its contract. The invariant: the first i samples of the part are averaged. Assumes nothing.
use Prim.Native.Nat.{ℕ}
use mathlib.Core.Path.{◌≡◌}
use lib.ListN.{get_or}
use Rattle.evc_int.specs.Lists.{with_row}
use Rattle.evc_mc.specs.Block.{average}
use Rattle.evc_mc.proofs.average_plane.Given as goal

abbrev pub invariant-loop-i : goal.invariant-loop-i
invariant-loop-i l =
    let first = l.initial.sample-items in
    l.sample-items ≡ with_row first 0 l.i (λ (j : ℕ). average (get_or first j 0) (get_or l.second j 0))
