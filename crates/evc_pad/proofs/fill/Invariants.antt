-- `evc_pad::fill` meets its contract. The invariant: the first samples are filled. Assumes nothing.
use mathlib.Core.Path.{◌≡◌}
use lib.ListN.{take, replicate}
use Rattle.evc_pad.proofs.fill.Given as goal

abbrev pub invariant-loop-x : goal.invariant-loop-x
invariant-loop-x l = take l.x-index l.row ≡ replicate l.x-index l.fill_val
