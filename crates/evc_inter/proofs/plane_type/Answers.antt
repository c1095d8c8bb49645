-- `evc_inter::plane_type` meets its contract. Assumes nothing.
use mathlib.Core.Bool.{Bool, true, false}
use mathlib.Core.Path.{◌≡◌, sym, ap}
use Rattle.evc_plane.specs.declared.PlaneType.TheVariants.{Y, UV}
use Rattle.evc_inter.specs.Kinds.{plane_type}
use Rattle.evc_inter.proofs.plane_type.Goals as goal

chroma : (b : Bool) → b ≡ true → UV ≡ plane_type b
chroma b e = sym (ap plane_type e)

luma : (b : Bool) → b ≡ false → Y ≡ plane_type b
luma b e = sym (ap plane_type e)

pub returns-then-chroma : goal.returns-then-chroma
returns-then-chroma c = chroma _ c.if-chroma.true

pub returns-else-chroma : goal.returns-else-chroma
returns-else-chroma c = luma _ c.if-chroma.false
