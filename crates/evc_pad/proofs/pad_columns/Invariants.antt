-- `evc_pad::pad_columns` meets its contract. The invariant: the first y rows are filled; the column that is read stays. Assumes nothing.
use Prim.Native.Nat.{ℕ, ◌+◌, ◌*◌}
use mathlib.Core.Path.{◌≡◌}
use mathlib.Core.List.{List}
use lib.ListN.{get_or}
use Rattle.evc_int.specs.Lists.{with_block}
use Rattle.evc_pad.proofs.pad_columns.Given as goal

abbrev pub column : List ℕ → ℕ → ℕ → ℕ → ℕ → ℕ → ℕ
column l base stride from y x = get_or l (base + y * stride + from) 0

abbrev pub invariant-loop-y : goal.invariant-loop-y
invariant-loop-y l =
    l.plane ≡ with_block l.initial.plane (l.base + l.x) l.stride l.n l.y (column l.initial.plane l.base l.stride l.from)
