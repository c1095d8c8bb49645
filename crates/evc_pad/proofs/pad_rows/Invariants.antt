-- `evc_pad::pad_rows` meets its contract. The invariant: the first y rows are copied; the row that is read stays. Assumes nothing.
use Prim.Native.Nat.{ℕ, ◌+◌}
use mathlib.Core.Path.{◌≡◌}
use mathlib.Core.List.{List}
use lib.ListN.{get_or}
use Rattle.evc_int.specs.Lists.{with_block}
use Rattle.evc_pad.proofs.pad_rows.Given as goal

abbrev pub row : List ℕ → ℕ → ℕ → ℕ → ℕ
row l from y x = get_or l (from + x) 0

abbrev pub invariant-loop-y : goal.invariant-loop-y
invariant-loop-y l =
    l.plane ≡ with_block l.initial.plane l.to l.stride l.stride l.y (row l.initial.plane l.from)
