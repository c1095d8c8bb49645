-- `evc_plane::plane_config` meets its contract: the record that is made is the one that the definition names. Assumes nothing.
use mathlib.Core.Path.{◌∙◌}
use Prim.Native.Nat.{◌+◌}
use native.Mathlib.Omega.{arith}
use Rattle.evc_plane.specs.Planes.{config_of, rows_of, stride_of}
use Rattle.evc_plane.proofs.Sizes.{sizes, next_16}
use Rattle.evc_plane.proofs.plane_config.Goals as goal

pub overflow_add-xorigin : goal.overflow_add-xorigin
unfolding config_of stride_of rows_of
overflow_add-xorigin c = omega (arith, sizes c.args.t c.args.pic.w c.args.pic.h c.args.pic.accepted)

pub overflow_add-xorigin-2 : goal.overflow_add-xorigin-2
unfolding config_of stride_of rows_of
overflow_add-xorigin-2 c = omega (arith, sizes c.args.t c.args.pic.w c.args.pic.h c.args.pic.accepted)

pub overflow_add-result : goal.overflow_add-result
unfolding config_of stride_of rows_of
overflow_add-result c = omega (arith, sizes c.args.t c.args.pic.w c.args.pic.h c.args.pic.accepted)

pub overflow_add-result-2 : goal.overflow_add-result-2
unfolding config_of stride_of rows_of
overflow_add-result-2 c = omega (arith, sizes c.args.t c.args.pic.w c.args.pic.h c.args.pic.accepted)

pub next_multiple_of-requires-clause-fits : goal.next_multiple_of-requires-clause-fits
unfolding config_of stride_of rows_of
next_multiple_of-requires-clause-fits c =
    omega (arith, sizes c.args.t c.args.pic.w c.args.pic.h c.args.pic.accepted, next_16 (c.xorigin-xorigin.result + c.side-width.result + c.pad_size-pad.result))

pub returns : goal.returns
unfolding config_of stride_of rows_of
returns c = let e = c.next_multiple_of.ensures.value ∙ next_16 _ in cc
