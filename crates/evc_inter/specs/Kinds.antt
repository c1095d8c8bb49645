-- The plane that a call's flag chooses.
use Rattle.std.specs.Prelude.{Bool, true, false}
use Rattle.evc_plane.specs.declared.PlaneType.{PlaneType}
use Rattle.evc_plane.specs.declared.PlaneType.TheVariants.{Y, UV}

abbrev pub plane_type : Bool → PlaneType
plane_type false = Y
plane_type true = UV
