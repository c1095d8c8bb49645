-- `evc_motion::flag_outside` meets its contract. Assumes nothing.
use mathlib.Core.Bool.{Bool, true, false, not, ◌&&◌, ◌||◌, and-false, not-not}
use mathlib.Core.Path.{◌≡◌, sym, ◌∙◌}
use Prim.Native.Nat.{ℕ, ◌+◌}
use borrow.Author.Tests.{not-true}
use lib.Dec.{eqb}
use Rattle.std.proofs.lemmas.Bool.{and_parts}
use Rattle.evc_def.specs.Tables.{is_bit}
use Rattle.evc_def.specs.declared.EvcBlock.{EvcBlock}
use Rattle.evc_motion.specs.Candidates.{flag_outside}
use Rattle.evc_motion.proofs.flag_outside.Goals as goal

module _ (b : EvcBlock) (avail : ℕ) (right : Bool) (e : right ≡ not (eqb (b.x + b.w) b.pic_w)) where
  inner : (not (eqb b.x 0) && not (eqb b.y 0) && right) ≡ true → false ≡ flag_outside b avail
  unfolding flag_outside
  inner t =
      let p = and_parts (not (eqb b.x 0) && not (eqb b.y 0)) right t in
      let q = and_parts (not (eqb b.x 0)) (not (eqb b.y 0)) p.0 in
      rw (not-true (eqb b.x 0) q.0, not-true (eqb b.y 0) q.1, not-true (eqb (b.x + b.w) b.pic_w) (sym e ∙ p.1)) (simp and-false)

  at_edge : (le up up-ri : Bool) → le ≡ is_bit 1 avail → up ≡ is_bit 0 avail → up-ri ≡ is_bit 6 avail → ((le && eqb b.x 0) || (up && eqb b.y 0) || (up-ri && (eqb b.y 0 || not right))) ≡ flag_outside b avail
  unfolding flag_outside
  at_edge le up up-ri p q r = rw (p, q, r, e, not-not (eqb (b.x + b.w) b.pic_w))

-- the picture goes on, as the span of the block says
on : (b : EvcBlock) (place side size : ℕ) (r : Bool) → r ≡ not (eqb (place + side) size) → (size ≡ b.pic_w) × (place ≡ b.x) × (side ≡ b.w) → r ≡ not (eqb (b.x + b.w) b.pic_w)
on b place side size r e s = e ∙ rw (s.0, s.1, s.2)

pub returns-then-b-right : goal.returns-then-b-right
returns-then-b-right c =
    inner c.args.b.given c.args.avail _ (on c.args.b.given _ _ _ _ c.goes_on-right.ensures (simp (c.placed.ensures) at c.across.ensures)) c.if-b-right.true

pub returns-else-b-right : goal.returns-else-b-right
returns-else-b-right c =
    at_edge c.args.b.given c.args.avail _ (on c.args.b.given _ _ _ _ c.goes_on-right.ensures (simp (c.placed.ensures) at c.across.ensures)) _ _ _ c.GET_AVAIL_FLAG.ensures c.GET_AVAIL_FLAG-else-b-right.ensures c.GET_AVAIL_FLAG-else-b-right-2.ensures
