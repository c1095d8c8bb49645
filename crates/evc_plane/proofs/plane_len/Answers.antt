-- `evc_plane::plane_len` meets its contract. Assumes nothing.
use native.Mathlib.Omega.{arith}
use Rattle.evc_plane.proofs.Sizes.{sizes_of, plane_len_lem}
use Rattle.evc_plane.proofs.plane_len.Goals as goal

pub overflow_mul-result : goal.overflow_mul-result
overflow_mul-result c = omega (arith, sizes_of _ _ _ _ c.plane_config-c.ensures c.args.pic.accepted)

pub returns : goal.returns
returns c = plane_len_lem _ _ _ _ c.plane_config-c.ensures
