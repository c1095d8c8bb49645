-- `evc_paths::evc_mc_nn` meets its contract: the first stage fits its array. Assumes nothing.
use native.Mathlib.Omega.{arith}
use Rattle.evc_plane.specs.declared.PlaneType.TheVariants.{Y, UV}
use Rattle.evc_paths.proofs.Paths.{stage_fits, low_fits}
use Rattle.evc_paths.proofs.evc_mc_nn.Goals as goal

pub groups-requires : goal.groups-requires
groups-requires c =
    let p = c.requires.sizes in
    let l = c.if-h-le8.true in record { covers = c.requires.covers; room = c.requires.room; sizes = (p.0, p.1, p.2, omega arith, p.4, p.5, low_fits c.args.t c.args.h l); few = omega arith }

pub groups-requires-in-Y : goal.groups-requires-in-Y
groups-requires-in-Y c =
    let p = c.requires.sizes in
    let f = stage_fits c.args.t Y c.args.h c.in-Y.is p.3 in record { covers = c.requires.covers; room = c.requires.room; sizes = (p.0, p.1, p.2, f.0, p.4, p.5, f.1); few = omega arith }

pub groups-requires-in-UV : goal.groups-requires-in-UV
groups-requires-in-UV c =
    let p = c.requires.sizes in
    let f = stage_fits c.args.t UV c.args.h c.in-UV.is p.3 in record { covers = c.requires.covers; room = c.requires.room; sizes = (p.0, p.1, p.2, f.0, p.4, p.5, f.1); few = omega arith }
