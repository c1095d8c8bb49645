-- `evc_clip::qpel_gmv` meets its contract: clipping the place is clipping the vector. Assumes nothing.
use mathlib.Core.Path.{◌≡◌, sym, ◌∙◌}
use native.Mathlib.Omega.{arith}
use Rattle.std.proofs.lemmas.Int.{ints}
use Rattle.evc_clip.specs.Clip.{place_of}
use Rattle.evc_clip.proofs.Laws.{last_place, clipped_place_lem}
use Rattle.evc_clip.proofs.qpel_gmv.Goals as goal

pub returns : goal.returns
returns c =
    let s = c.args.s in
    let last : c.qpel-max_clip.result.0 ≡ last_place s.size s.side = omega (arith, ints) in
    let place : c.moved.result.0 ≡ place_of s.place c.args.mv = omega (arith, ints) in
    c.clip3.ensures ∙ rw (last, place) (sym (clipped_place_lem s.size s.place s.side c.args.mv (omega arith)))
