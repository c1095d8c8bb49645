-- `evc_plane::window_start` meets its contract. Assumes nothing.
use mathlib.Core.Path.{◌≡◌}
use Prim.Native.Nat.{ℕ, ◌+◌, ◌*◌, ◌≤◌}
use native.Mathlib.Omega.{arith}
use native.Mathlib.Nat.{mul-le-mul}
use lib.IntN.{ℤ}
use Rattle.evc_plane.specs.declared.PlaneConfig.{PlaneConfig}
use Rattle.evc_plane.specs.Planes.{config_of, start_at, window_start}
use Rattle.evc_plane.proofs.Sizes.{Sizes, sizes_of}
use Rattle.evc_plane.proofs.Starts.{start_range}
use Rattle.evc_plane.proofs.window_start.Goals as goal

small : (c : PlaneConfig) (zx zy : ℤ) (x y : ℕ) → x ≡ start_at c.xorigin c.width zx → y ≡ start_at c.yorigin c.height zy → Sizes c → y * c.stride + x ≤ 8288 * 8288 + 8288
small c zx zy x y ex ey z =
    let a = start_range c.xorigin c.width zx in
    let b = start_range c.yorigin c.height zy in
    let l : y ≤ 8288 = omega arith in
    let m : y * c.stride ≤ 8288 * 8288 = mul-le-mul l z.stride_top in omega arith

pub clamp-row-requires : goal.clamp-row-requires
clamp-row-requires c = omega (arith, sizes_of _ _ _ _ c.plane_config-c.ensures c.args.pic.accepted)

pub clamp-column-requires : goal.clamp-column-requires
clamp-column-requires c = omega (arith, sizes_of _ _ _ _ c.plane_config-c.ensures c.args.pic.accepted)

pub overflow_mul-result : goal.overflow_mul-result
overflow_mul-result c =
    omega (arith, small _ _ _ _ _ c.clamp-column.ensures c.clamp-row.ensures (sizes_of _ _ _ _ c.plane_config-c.ensures c.args.pic.accepted))

pub overflow_add-result : goal.overflow_add-result
overflow_add-result c =
    omega (arith, small _ _ _ _ _ c.clamp-column.ensures c.clamp-row.ensures (sizes_of _ _ _ _ c.plane_config-c.ensures c.args.pic.accepted))

pub returns : goal.returns
unfolding config_of window_start
returns c = simp (c.clamp-row.ensures, c.clamp-column.ensures, c.plane_config-c.ensures)
