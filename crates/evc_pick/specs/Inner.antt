-- What the picker's contract says of its two lent blocks: how both end once the part that it hands back has ended. It stands in no other contract.
use Rattle.std.specs.Prelude.{List, ◌++◌, ℕ, take}
use Rattle.std.specs.Borrow.{u16, MutBor, Fml, fsep}
use base.Fml.{fall, fwand}
use denote.Slice.{finally}
use Rattle.evc_pick.specs.declared.PredBlock.{PredBlock}
use Rattle.evc_pick.specs.declared.PredBlock.TheVariants.{First, Second}

-- of what there is for the first block and for the second, what there is for this one
abbrev pub by_block : {X : Type 0} → PredBlock → X → X → X
by_block First x y = x
by_block Second x y = y

-- the list with other elements from o on
abbrev pub with_tail : List ℕ → ℕ → List ℕ → List ℕ
with_tail xs o ys = take o xs ++ ys

-- the last list behind x is ys: what its lender reads once the borrow is over
abbrev pub ends_as : MutBor (List ℕ) → List ℕ → Fml
ends_as x ys = finally u16 x.ghost_name ys

-- once r has ended, as ys, there is Q ys
abbrev pub once_ended : MutBor (List ℕ) → (List ℕ → Fml) → Fml
once_ended r Q = fall (List ℕ) (λ ys. fwand (ends_as r ys) (Q ys))

-- both blocks where the part ended as ys: the one that was picked has ys from the offset on, the other is as it was lent
abbrev pub both_end : MutBor (List ℕ) → MutBor (List ℕ) → PredBlock → ℕ → List ℕ → Fml
both_end pred0 pred1 block offset ys =
    fsep (ends_as pred0 (by_block block (with_tail pred0.now offset ys) pred0.now))
    (ends_as pred1 (by_block block pred1.now (with_tail pred1.now offset ys)))
