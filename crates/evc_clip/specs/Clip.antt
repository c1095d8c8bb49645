-- Document 01, 'Clipping'.
use Rattle.std.specs.Prelude.{cond, ◌≡◌, ℕ, eqb, ℤ, pos, ◌+ℤ◌, ◌-ℤ◌, ◌*ℤ◌, Result, Ok, Err}
use Rattle.std.specs.Int.Signed.{lt_z}
use Rattle.evc_int.specs.Whole.{−◌}
use Rattle.evc_def.specs.Codes.{first_of, block_checks, zero_mv}
use Rattle.evc_def.specs.Places.{qpel_place}
use Rattle.evc_def.specs.declared.EvcBlock.{EvcBlock}
use Rattle.evc_def.specs.declared.EvcMv.{EvcMv}
use Rattle.evc_def.specs.declared.QpelPlace.{QpelPlace}
use Rattle.evc_def.specs.declared.refusal.Refusal.{Refusal}
use Rattle.evc_def.specs.Refusals as refusal
use Rattle.evc_clip.specs.declared.Clipped.{Clipped}
use Rattle.evc_clip.specs.declared.EvcClipped.{EvcClipped}
use Rattle.evc_clip.specs.declared.EvcMoved.{EvcMoved}
use Rattle.evc_clip.specs.declared.Moved.{Moved}
use Rattle.evc_clip.specs.declared.Moved.TheVariants.{No, Low, High}
use Rattle.evc_clip.specs.declared.MovedMv.{MovedMv}

-- how many samples past the picture's last one a block's last one may lie, MAX_CU_SIZE of the Rust: "4(W - 1 + 64)"
abbrev pub margin : ℕ
margin = 64

-- Document 02, W2: "for each component whether it was moved to the low side, the high side or not at all", in the numbers of the calls. The side is that of the limit
-- at which the component ends.
abbrev pub not_moved : ℕ
not_moved = 0

abbrev pub moved_low : ℕ
moved_low = 1

abbrev pub moved_high : ℕ
moved_high = 2

abbrev pub number_of : Moved → ℕ
number_of No = not_moved
number_of Low = moved_low
number_of High = moved_high

abbrev pub numbers_of : MovedMv → EvcMoved
numbers_of m = record { x = number_of m.x; y = number_of m.y }

-- the side that faces it, and 0 for 0
abbrev pub other_side : ℕ → ℕ
other_side m = cond (eqb m moved_low) moved_high (cond (eqb m moved_high) moved_low m)

-- a component after clipping, and its report
pub record ClippedComponent : Type 0 where
  pub mv : ℤ
  pub moved : ℕ

-- "if 4x + mvx < -256, the vector becomes -256 - 4x; if 4x + mvx + 4w - 4 > 4(W - 1 + 64), it becomes that limit - 4x - 4w + 4; y likewise."
-- W is the picture's side, x the block's place and w its side, in the component's direction. The sums are exact.
abbrev pub clipped : ℕ → ℕ → ℕ → ℤ → ClippedComponent
clipped W x w mv =
    let limit = pos 4 *ℤ (pos W -ℤ pos 1 +ℤ pos margin) in
    cond (lt_z (pos 4 *ℤ pos x +ℤ mv) (− 256)) (record { mv = − 256 -ℤ pos 4 *ℤ pos x; moved = moved_low })
    (cond (lt_z limit (pos 4 *ℤ pos x +ℤ mv +ℤ pos 4 *ℤ pos w -ℤ pos 4)) (record { mv = limit -ℤ pos 4 *ℤ pos x -ℤ pos 4 *ℤ pos w +ℤ pos 4; moved = moved_high })
    (record { mv = mv; moved = not_moved }))

-- the vector, and the report
unfoldable pub clip_component : ℕ → ℕ → ℕ → ℤ → ℤ
clip_component W x w mv = (clipped W x w mv).mv

unfoldable pub moved_component : ℕ → ℕ → ℕ → ℤ → ℕ
moved_component W x w mv = (clipped W x w mv).moved

-- both components
unfoldable pub clip_mv : EvcBlock → EvcMv → EvcMv
clip_mv b mv =
    record {
      x = clip_component b.pic_w b.x b.w mv.x;
      y = clip_component b.pic_h b.y b.h mv.y;
    }

unfoldable pub moved_mv : EvcBlock → EvcMv → EvcMoved
moved_mv b mv =
    record {
      x = moved_component b.pic_w b.x b.w mv.x;
      y = moved_component b.pic_h b.y b.h mv.y;
    }

abbrev pub nothing_moved : EvcMoved
nothing_moved = record { x = not_moved; y = not_moved }

-- where a vector leads a block, in one direction: "4x + mvx"
abbrev pub place_of : ℕ → ℤ → ℤ
place_of x mv = pos 4 *ℤ pos x +ℤ mv

-- "A list's clipped place is 4x + mvx across and 4y + mvy down, with the clipped vector.": qpel_gmv_x and qpel_gmv_y of the Rust
unfoldable pub clipped_place : EvcBlock → EvcMv → QpelPlace
clipped_place b mv =
    let clipped = clip_mv b mv in
    qpel_place (place_of b.x clipped.x) (place_of b.y clipped.y)

-- the call: "Error: 1, 2."; "a refused clipping .. call, reports nothing moved"
unfoldable pub mv_clip : EvcBlock → EvcMv → EvcClipped
mv_clip b mv =
    let code = first_of (block_checks b) in
    record {
      code = code;
      mv = cond (eqb code 0) (clip_mv b mv) zero_mv;
      moved = cond (eqb code 0) (moved_mv b mv) nothing_moved;
    }

-- an answer as the call returns it
abbrev pub answer_of : Result Clipped Refusal → EvcClipped
answer_of (Ok c) = record { code = 0; mv = c.mv; moved = numbers_of c.moved }
answer_of (Err r) = record { code = refusal.number_of r; mv = zero_mv; moved = nothing_moved }

-- 'Edges to try': the lines on clipping, with their reports
abbrev pub ClipEdges : Type 0
ClipEdges =
    (clipped 64 16 16 (− 320) ≡ record { mv = − 320; moved = not_moved })
    × (clipped 64 16 16 (− 321) ≡ record { mv = − 320; moved = moved_low })
    × (clipped 64 48 16 (pos 256) ≡ record { mv = pos 256; moved = not_moved })
    × (clipped 64 48 16 (pos 257) ≡ record { mv = pos 256; moved = moved_high })
