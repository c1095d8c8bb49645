-- `evc_record::put_component` meets its contract. Assumes nothing.
use mathlib.Core.Path.{◌≡◌, ◌∙◌}
use Prim.Native.Nat.{ℕ, ◌+◌, ◌*◌, ◌≤◌}
use native.Mathlib.Omega.{arith}
use lib.ListN.{length}
use Rattle.evc_record.proofs.Places.{column_small, row_small, row_width, block_within, block_placed}
use Rattle.evc_record.proofs.put_component.Goals as goal

pub overflow_add-x : goal.overflow_add-x
overflow_add-x c = omega (arith, column_small c.args.t c.args.b.given c.args.b.checked _ (c.plane_config-c.ensures ∙ rw (c.picture.ensures.0, c.picture.ensures.1)) _ c.side.ensures)

pub overflow_add-y : goal.overflow_add-y
overflow_add-y c = omega (arith, row_small c.args.t c.args.b.given c.args.b.checked _ (c.plane_config-c.ensures ∙ rw (c.picture.ensures.0, c.picture.ensures.1)) _ c.side-2.ensures)

pub overflow_mul-y : goal.overflow_mul-y
overflow_mul-y c = let a = c.args in let k = block_within a.t a.b.given a.b.checked _ (c.plane_config-c.ensures ∙ rw (c.picture.ensures.0, c.picture.ensures.1)) _ _ _ _ c.side.ensures c.side-2.ensures c.side-w.ensures c.side-h.ensures (length a.plane.now) c.requires.1 in omega arith

pub overflow_add-y-2 : goal.overflow_add-y-2
overflow_add-y-2 c = let a = c.args in let k = block_within a.t a.b.given a.b.checked _ (c.plane_config-c.ensures ∙ rw (c.picture.ensures.0, c.picture.ensures.1)) _ _ _ _ c.side.ensures c.side-2.ensures c.side-w.ensures c.side-h.ensures (length a.plane.now) c.requires.1 in omega arith

pub copy_block-requires : goal.copy_block-requires
copy_block-requires c =
    let a = c.args in
    let k = block_within a.t a.b.given a.b.checked _ (c.plane_config-c.ensures ∙ rw (c.picture.ensures.0, c.picture.ensures.1)) _ _ _ _ c.side.ensures c.side-2.ensures c.side-w.ensures c.side-h.ensures (length a.plane.now) c.requires.1 in
    (rows _ _ _ _ a.offset (length a.pred.now) c.side-w.ensures c.side-h.ensures c.requires.0, omega arith, row_width a.t a.b.given a.b.checked _ c.side-w.ensures)
  where
    rows : (w h w' h' o n : ℕ) → w ≡ w' → h ≡ h' → o + h' * w' ≤ n → o + h * w ≤ n
    rows w h w' h' o n e f l = rw (e, f) l

pub returns : goal.returns
returns c =
    let a = c.args in
    c.copy_block.ensures ∙ block_placed a.t a.b.given a.b.checked _ (c.plane_config-c.ensures ∙ rw (c.picture.ensures.0, c.picture.ensures.1)) _ _ _ _ c.side.ensures c.side-2.ensures c.side-w.ensures c.side-h.ensures a.plane.now a.pred.now a.offset
