-- `evc_pad::pad_plane` meets its contract: its four steps are those of proofs/Padding. Assumes nothing.
use mathlib.Core.Path.{◌≡◌, ◌∙◌, ap}
use mathlib.Core.Bool.{false}
use mathlib.Core.List.{List}
use mathlib.Core.Logic.{inl}
use Prim.Native.Nat.{ℕ, ◌+◌, ◌≤◌}
use native.Mathlib.Omega.{arith}
use lib.ListN.{length}
use Rattle.evc_int.specs.Lists.{with_block}
use Rattle.evc_def.specs.Blocks.{bad_picture}
use Rattle.evc_plane.specs.declared.PlaneType.{PlaneType}
use Rattle.evc_plane.specs.declared.PlaneConfig.{PlaneConfig}
use Rattle.evc_plane.specs.Planes.{rows_of, plane_len, config_of}
use Rattle.evc_pad.specs.Padding.{padded}
use Rattle.evc_plane.proofs.Sizes.{room}
use Rattle.evc_pad.proofs.Padding.{filled_left, filled_right, copied_up, copied_down, held, steps_pad}
use Rattle.evc_pad.proofs.pad_plane.Goals as goal

module _ (t : PlaneType) (W H : ℕ) (c : PlaneConfig) (e : c ≡ config_of t W H) where
  abbrev step : (ℕ → ℕ → ℕ → ℕ → ℕ → List ℕ → List ℕ) → List ℕ → List ℕ
  step f l = f c.yorigin c.xorigin c.width c.height c.stride l

  by_steps : (s l₁ l₂ l₃ l₄ : List ℕ) → bad_picture W H ≡ false → plane_len t W H ≤ length s → l₁ ≡ step filled_left s → l₂ ≡ step filled_right l₁ → l₃ ≡ step copied_up l₂ → l₄ ≡ step copied_down l₃ → l₄ ≡ padded t W H s
  unfolding config_of rows_of padded
  by_steps s l₁ l₂ l₃ l₄ b long e₁ e₂ e₃ e₄ =
      let z = room t W H c (length s) e b long in
      e₄ ∙ ap (step copied_down) (e₃ ∙ ap (step copied_up) (e₂ ∙ ap (step filled_right) e₁))
      ∙ steps_pad c.yorigin c.xorigin c.width c.height c.stride s (omega arith) (omega arith) (omega arith) (omega arith) (omega arith)
      ∙ ap (λ (z : PlaneConfig). with_block s 0 z.stride z.stride (z.yorigin + z.height + z.yorigin) (held z.yorigin z.xorigin z.width z.height z.stride s)) e

pub overflow_add-right : goal.overflow_add-right
overflow_add-right c = omega (arith, room _ _ _ _ (length c.args.plane.now) c.plane_config-c.ensures c.args.pic.accepted c.requires)

pub overflow_mul-first : goal.overflow_mul-first
overflow_mul-first c = omega (arith, room _ _ _ _ (length c.args.plane.now) c.plane_config-c.ensures c.args.pic.accepted c.requires)

pub overflow_mul-bottom : goal.overflow_mul-bottom
overflow_mul-bottom c = omega (arith, room _ _ _ _ (length c.args.plane.now) c.plane_config-c.ensures c.args.pic.accepted c.requires)

pub overflow_add-bottom : goal.overflow_add-bottom
overflow_add-bottom c = omega (arith, room _ _ _ _ (length c.args.plane.now) c.plane_config-c.ensures c.args.pic.accepted c.requires)

pub pad_columns-requires-clause-stride_in_bounds : goal.pad_columns-requires-clause-stride_in_bounds
pad_columns-requires-clause-stride_in_bounds c = omega (arith, room _ _ _ _ (length c.args.plane.now) c.plane_config-c.ensures c.args.pic.accepted c.requires)

pub overflow_sub-stride : goal.overflow_sub-stride
overflow_sub-stride c = omega (arith, room _ _ _ _ (length c.args.plane.now) c.plane_config-c.ensures c.args.pic.accepted c.requires)

pub overflow_sub-right : goal.overflow_sub-right
overflow_sub-right c = omega (arith, room _ _ _ _ (length c.args.plane.now) c.plane_config-c.ensures c.args.pic.accepted c.requires)

pub pad_columns-requires-2-clause-stride_in_bounds : goal.pad_columns-requires-2-clause-stride_in_bounds
pad_columns-requires-2-clause-stride_in_bounds c = omega (arith, room _ _ _ _ (length c.args.plane.now) c.plane_config-c.ensures c.args.pic.accepted c.requires)

pub pad_rows-requires-clause-stride_in_bounds : goal.pad_rows-requires-clause-stride_in_bounds
pad_rows-requires-clause-stride_in_bounds c = omega (arith, room _ _ _ _ (length c.args.plane.now) c.plane_config-c.ensures c.args.pic.accepted c.requires)

pub pad_columns-requires-2-clause-fact : goal.pad_columns-requires-2-clause-fact
pad_columns-requires-2-clause-fact c = let z = room _ _ _ _ (length c.args.plane.now) c.plane_config-c.ensures c.args.pic.accepted c.requires in inl (omega arith)

pub overflow_sub-bottom : goal.overflow_sub-bottom
overflow_sub-bottom c = omega (arith, room _ _ _ _ (length c.args.plane.now) c.plane_config-c.ensures c.args.pic.accepted c.requires)

pub pad_rows-requires-2-clause-stride_in_bounds : goal.pad_rows-requires-2-clause-stride_in_bounds
pad_rows-requires-2-clause-stride_in_bounds c = omega (arith, room _ _ _ _ (length c.args.plane.now) c.plane_config-c.ensures c.args.pic.accepted c.requires)

pub returns : goal.returns
returns c =
    by_steps _ _ _ c.plane_config-c.result c.plane_config-c.ensures _ _ _ _ _ c.args.pic.accepted c.requires c.pad_columns.ensures c.pad_columns-2.ensures c.pad_rows.ensures c.pad_rows-2.ensures
