-- `evc_plane::PlaneType::xorigin` meets its contract. Assumes nothing.
use mathlib.Core.Path.{ap, ◌∙◌}
use Rattle.evc_plane.specs.Planes.{align16, origin_of}
use Rattle.evc_plane.proofs.Sizes.{next_16}
use Rattle.evc_plane.proofs.PlaneType.xorigin.Goals as goal

pub returns : goal.returns
unfolding origin_of
returns c = c.next_multiple_of.ensures.value ∙ next_16 _ ∙ ap align16 c.pad_size.ensures
