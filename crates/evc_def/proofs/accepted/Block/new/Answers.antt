-- `Block::new` meets its contract: each return is at the first check that refuses. Assumes nothing.
use mathlib.Core.Bool.{Bool, true, false, not, ◌&&◌}
use mathlib.Core.Path.{◌≡◌, sym, ◌∙◌}
use native.Mathlib.Omega.{arith}
use Rattle.evc_def.specs.Codes.{first_of}
use Rattle.evc_def.proofs.Blocks.{allowed}
use Rattle.evc_def.proofs.accepted.Block.new.Goals as goal

accepted : (p q : Bool) → (not p && not q) ≡ true → (p ≡ false) × (q ≡ false)
accepted p q e = grind arith

pub invariant_of-result : goal.invariant_of-result
unfolding first_of
invariant_of-result c =
    let k = accepted _ _ (sym c.is_accepted.ensures ∙ c.if-is_accepted.true) in
    let a = allowed _ k.0 k.1 in
    record { accepted = k.0; checked = simp (k.0, k.1); across = a.0; down = a.1 }

pub returns-then-bad_picture-clause-code : goal.returns-then-bad_picture-clause-code
unfolding first_of
returns-then-bad_picture-clause-code c = grind arith

pub returns-clause-code : goal.returns-clause-code
unfolding first_of
returns-clause-code c = grind arith
