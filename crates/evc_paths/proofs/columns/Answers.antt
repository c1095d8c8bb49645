-- `evc_paths::columns` meets its contract. Assumes nothing.
use mathlib.Core.Path.{◌∙◌}
use Prim.Native.Nat.{◌*◌}
use native.Mathlib.Omega.{arith}
use borrow.Author.Rules.{rules}
use Rattle.evc_paths.proofs.Paths.{given, lanes, lanes_rows, lanes_room, first_asks, second_asks, second_done}
use Rattle.evc_paths.proofs.columns.Goals as goal

pub sample_block-requires : goal.sample_block-requires
sample_block-requires c =
    let a = c.args in
    let p = c.requires.sizes in
    rw c.filter_of-first.ensures
    (first_asks a.t a.window.now.plane.now a.m.now a.window.now.at a.window.now.stride a.n a.h a.dx p.4 c.requires.covers.1 p.1 p.6 _ _ c.rows_more.ensures c.unit-one.ensures
    c.requires.covers.0 p.0)

pub sample_block-requires-2 : goal.sample_block-requires-2
sample_block-requires-2 c =
    let a = c.args in
    let p = c.requires.sizes in
    let l = given (a.h * a.n) 8 4 8 c.if-h-n-lt8.lanes (search rules) in
    let k = given a.n 8 c.if-h-n-lt8.lanes a.w c.if-n-lt8.width (search rules) in
    let b = lanes a.n a.h p.0 p.1 p.2 in
    let r = lanes_rows a.n a.h a.w _ _ b p.1 c.requires.room.1 l k in
    rw c.filter_of-second.ensures
    (second_asks a.t a.window.now.plane.now a.m.now a.window.now.at a.window.now.stride a.n a.h a.dx p.4 c.requires.covers.1 p.1 p.6 _ _ _ c.rows_more.ensures c.filter_of-first.ensures
    c.sample_block.ensures _ _ r.0 r.1 a.pred.now a.to _ _ _ (let dy = p.5 in omega arith) c.unit-one.ensures
    (lanes_room a.n a.h a.w _ _ b p.1 c.requires.room.1 l k a.to _ c.requires.room.0))

pub returns : goal.returns
returns c =
    let a = c.args in
    let p = c.requires.sizes in
    let l = given (a.h * a.n) 8 4 8 c.if-h-n-lt8.lanes (search rules) in
    let k = given a.n 8 c.if-h-n-lt8.lanes a.w c.if-n-lt8.width (search rules) in
    c.sample_block-2.ensures
    ∙ second_done a.t a.window.now.plane.now a.m.now a.window.now.at a.window.now.stride a.n a.h a.dx p.4 c.requires.covers.1 p.1 p.6 _ _ _ c.rows_more.ensures c.filter_of-first.ensures
    c.sample_block.ensures a.w _ _ (lanes a.n a.h p.0 p.1 p.2) c.requires.room.1 l k a.pred.now a.to a.dy _ c.filter_of-second.ensures p.5
