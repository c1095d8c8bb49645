-- `evc_mc::BlockList::exceeds` meets its contract. Assumes nothing.
use mathlib.Core.Bool.{Bool, true, false, ◌||◌}
use mathlib.Core.Path.{◌≡◌, refl}
use Rattle.std.proofs.Common.{Some}
use Rattle.evc_def.specs.declared.EvcBlock.{EvcBlock}
use Rattle.evc_def.specs.declared.QpelPlace.{QpelPlace}
use Rattle.evc_plane.specs.declared.PlaneType.TheVariants.{Y, UV}
use Rattle.evc_clip.specs.Clip.{clipped_place}
use Rattle.evc_interp.specs.Prediction.{window_exceeds}
use Rattle.evc_mc.specs.Block.{RefPicList, luma, cb, cr, width_of, height_of, list_exceeds}
use Rattle.evc_mc.specs.Lent.{lent_list}
use Rattle.evc_mc.proofs.Checks.{sides, plane_side, list_long}
use Rattle.evc_mc.proofs.BlockList.exceeds.Goals as goal

module _ (b : EvcBlock) (l : RefPicList) where
  unused : l.list.used ≡ false → false ≡ list_exceeds b l
  unfolding list_exceeds
  unused e = simp e

  exceeds_is : (gmv : QpelPlace) (p q r : Bool) → l.list.used ≡ true → gmv ≡ clipped_place b l.list.mv
      → p ≡ window_exceeds Y b.pic_w b.pic_h gmv b.w b.h l.y
      → q ≡ window_exceeds UV b.pic_w b.pic_h gmv (width_of b cb) (height_of b cb) l.u
      → r ≡ window_exceeds UV b.pic_w b.pic_h gmv (width_of b cr) (height_of b cr) l.v
      → (p || q || r) ≡ list_exceeds b l
  unfolding list_exceeds
  exceeds_is gmv p q r u e ep eq er = rw (ep, eq, er, e, u) refl

pub returns-in_default : goal.returns-in_default
returns-in_default c = unused c.args.self.now.block.given (lent_list c.args.self.now.list) (simp c.in_default.is)

pub invariant_of-luma : goal.invariant_of-luma
invariant_of-luma c = let b = c.args.self.now.block in let z = sides b.given b.checked in record { w_side = z.w_side; h_side = z.h_side }

pub invariant_of-chroma : goal.invariant_of-chroma
invariant_of-chroma c =
    let b = c.args.self.now.block in
    let z = sides b.given b.checked in
    record { w_side = plane_side UV b.given.w z.w_side; h_side = plane_side UV b.given.h z.h_side }

pub exceeds-requires : goal.exceeds-requires
exceeds-requires c =
    rw (c.picture-pic.ensures.0, c.picture-pic.ensures.1) (list_long c.args.self.now.block.given (lent_list (Some c.in-Some.l)) refl (simp c.in-Some.is at c.requires) luma)

pub exceeds-requires-2 : goal.exceeds-requires-2
exceeds-requires-2 c =
    rw (c.picture-pic.ensures.0, c.picture-pic.ensures.1) (list_long c.args.self.now.block.given (lent_list (Some c.in-Some.l)) refl (simp c.in-Some.is at c.requires) cb)

pub exceeds-requires-3 : goal.exceeds-requires-3
exceeds-requires-3 c =
    rw (c.picture-pic.ensures.0, c.picture-pic.ensures.1) (list_long c.args.self.now.block.given (lent_list (Some c.in-Some.l)) refl (simp c.in-Some.is at c.requires) cr)

pub returns : goal.returns
returns c =
    let s = c.args.self.now in
    let p = c.picture-pic.ensures in
    rw c.in-Some.is
    (exceeds_is s.block.given (lent_list (Some c.in-Some.l)) _ _ _ _ refl (simp c.in-Some.is at s.clipped)
    (simp (p.0, p.1) at c.exceeds.ensures) (simp (p.0, p.1) at c.exceeds-2.ensures) (simp (p.0, p.1) at c.exceeds-3.ensures))
