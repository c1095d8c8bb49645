-- `Picture::new` meets its contract. Assumes nothing.
use mathlib.Core.Path.{sym, ◌∙◌}
use Rattle.evc_def.specs.Codes.{first_of}
use Rattle.evc_def.proofs.Blocks.{picture_sides}
use Rattle.evc_def.proofs.accepted.Picture.new.Goals as goal

pub invariant_of-result : goal.invariant_of-result
invariant_of-result c =
    let e = sym c.bad_picture.ensures ∙ c.if-bad_picture.false in
    let s = picture_sides _ _ e in
    record { accepted = e; width = s.0.top; height = s.1.top }

pub returns-then-bad_picture-clause-code : goal.returns-then-bad_picture-clause-code
unfolding first_of
returns-then-bad_picture-clause-code c = simp (sym c.bad_picture.ensures, c.if-bad_picture.true)

pub returns-clause-code : goal.returns-clause-code
unfolding first_of
returns-clause-code c = simp (sym c.bad_picture.ensures, c.if-bad_picture.false)
