-- The pictures of two lists.
use Rattle.std.specs.Prelude.{Bool, true, false, ◌&&◌, List, ℕ, ◌+◌, ◌==◌, cond, get_or, map, set, Option, Some, None}
use Rattle.evc_def.specs.declared.RefList.{RefList}
use Rattle.evc_def.specs.declared.RefList.TheVariants.{List0, List1}
use Rattle.evc_plane.specs.declared.PlaneType.{PlaneType}
use Rattle.evc_pad.specs.Padding.{pad_after}
use Rattle.evc_lists.specs.declared.ArbitraryPlanes.{ArbitraryPlanes}
use Rattle.evc_lists.specs.declared.Component.{Component}
use Rattle.evc_lists.specs.declared.Component.TheVariants.{Y, U, V}
use Rattle.evc_lists.specs.declared.Pictures.{Pictures}
use Rattle.evc_lists.specs.declared.SetSample.{SetSample}
use Rattle.evc_lists.specs.Records.{number32}
use Rattle.evc_lists.specs.Arbitrary.{scattered, below}

abbrev pub type_of : Component → PlaneType
type_of Y = PlaneType.Y
type_of U = PlaneType.UV
type_of V = PlaneType.UV

-- the samples of a plane as they are made: each plane from the next seed on
abbrev pub samples_of : ArbitraryPlanes → Component → ℕ → List ℕ
samples_of a Y limit = map (below limit) (scattered a.seed a.y_len)
samples_of a U limit = map (below limit) (scattered (a.seed + 1) a.u_len)
samples_of a V limit = map (below limit) (scattered (a.seed + 2) a.v_len)

-- the plane is one of six, by its number; any other number sets none
abbrev pub set_sample_of : ℕ → ℕ → ℕ → Option SetSample
set_sample_of plane place value =
    let set : RefList → Component → Option SetSample = λ list component. Some (record { list = list; component = component; place = place; value = value }) in
    cond (plane == 0) (set List0 Y)
    (cond (plane == 1) (set List0 U)
    (cond (plane == 2) (set List0 V)
    (cond (plane == 3) (set List1 Y)
    (cond (plane == 4) (set List1 U)
    (cond (plane == 5) (set List1 V) None)))))

-- how a record has them made
abbrev pub pictures_of : List ℕ → Pictures
pictures_of numbers =
    record {
      pic_w = number32 (get_or numbers 0 0);
      pic_h = number32 (get_or numbers 1 0);
      planes0 = record { seed = get_or numbers 2 0; y_len = get_or numbers 6 0; u_len = get_or numbers 7 0; v_len = get_or numbers 8 0 };
      planes1 = record { seed = get_or numbers 3 0; y_len = get_or numbers 9 0; u_len = get_or numbers 10 0; v_len = get_or numbers 11 0 };
      limit = get_or numbers 4 0;
      is_padded = get_or numbers 5 0 == 1;
      set = set_sample_of (get_or numbers 12 0) (get_or numbers 13 0) (get_or numbers 14 0);
    }

abbrev pub planes_of : Pictures → RefList → ArbitraryPlanes
planes_of p List0 = p.planes0
planes_of p List1 = p.planes1

-- padded, if it is to be
abbrev pub padded_plane : Pictures → PlaneType → List ℕ → List ℕ
padded_plane p t plane = cond p.is_padded (pad_after t p.pic_w p.pic_h plane) plane

abbrev pub same_list : RefList → RefList → Bool
same_list List0 List0 = true
same_list List1 List1 = true
same_list _ _ = false

abbrev pub same_component : Component → Component → Bool
same_component Y Y = true
same_component U U = true
same_component V V = true
same_component _ _ = false

abbrev pub is_in : SetSample → RefList → Component → Bool
is_in s list component = same_list s.list list && same_component s.component component

-- one sample set, if it lies in this plane
abbrev pub with_sample : Option SetSample → RefList → Component → List ℕ → List ℕ
with_sample None list component plane = plane
with_sample (Some s) list component plane = cond (is_in s list component) (set plane s.place s.value) plane

-- padded, and with the sample that is set
abbrev pub finished : Pictures → RefList → Component → List ℕ → List ℕ
finished p list component plane = with_sample p.set list component (padded_plane p (type_of component) plane)

-- a plane of the picture of a list
abbrev pub plane_of : Pictures → RefList → Component → List ℕ
plane_of p list component = finished p list component (samples_of (planes_of p list) component p.limit)
