-- Document 01, 'Block': the prediction of a block from one or two lists, evc_mc2.
use Rattle.std.specs.Prelude.{Bool, not, cond, ◌&&◌, ◌||◌, List, [], ◌∷◌, ◌++◌, ◌≡◌, ℕ, ◌+◌, ◌/◌, eqb, ltb, length, get_or, Result, Ok, Err}
use Rattle.evc_int.specs.Whole.{eq_z}
use Rattle.evc_int.specs.Lists.{with_block}
use Rattle.evc_def.specs.Blocks.{max_poc}
use Rattle.evc_def.specs.Codes.{◌when◌, first_of, block_checks}
use Rattle.evc_def.specs.Tables.{tbl_cu_dim_offset}
use Rattle.evc_def.specs.declared.EvcBlock.{EvcBlock}
use Rattle.evc_def.specs.declared.refusal.Refusal.{Refusal}
use Rattle.evc_def.specs.Refusals.{number_of}
use Rattle.evc_plane.specs.Planes.{side_of, plane_len}
use Rattle.evc_plane.specs.declared.PlaneType.{PlaneType}
use Rattle.evc_plane.specs.declared.PlaneType.TheVariants.{Y, UV}
use Rattle.evc_clip.specs.Clip.{numbers_of, clip_mv, moved_mv, nothing_moved, clipped_place}
use Rattle.evc_clip.specs.declared.EvcMoved.{EvcMoved}
use Rattle.evc_interp.specs.Prediction.{predicted, window_exceeds}
use Rattle.evc_mc.specs.declared.EvcList.{EvcList}
use Rattle.evc_mc.specs.declared.EvcPredicted.{EvcPredicted}
use Rattle.evc_mc.specs.declared.ListsMoved.{ListsMoved}

-- a list: whether it is in use, its vector and count, and the three planes of its picture
pub record RefPicList : Type 0 where
  pub list : EvcList
  pub y : List ℕ
  pub u : List ℕ
  pub v : List ℕ

abbrev pub ref_pic_list : EvcList → List ℕ → List ℕ → List ℕ → RefPicList
ref_pic_list list y u v = record { list = list; y = y; u = u; v = v }

-- the three planes of a picture and of a block
pub data Component : Type 0 where
  luma cb cr : Component

abbrev pub type_of : Component → PlaneType
type_of luma = Y
type_of cb = UV
type_of cr = UV

abbrev pub plane_of : Component → RefPicList → List ℕ
plane_of luma l = l.y
plane_of cb l = l.u
plane_of cr l = l.v

-- "laid out by `tbl_cu_dim_offset`"
abbrev pub offset_of : Component → ℕ
offset_of luma = get_or tbl_cu_dim_offset 0 0
offset_of cb = get_or tbl_cu_dim_offset 1 0
offset_of cr = get_or tbl_cu_dim_offset 2 0

-- "rows as wide as the block's plane"
abbrev pub width_of : EvcBlock → Component → ℕ
width_of b c = side_of (type_of c) b.w

abbrev pub height_of : EvcBlock → Component → ℕ
height_of b c = side_of (type_of c) b.h

-- a lent block, with one component's samples replaced: f y x in row y and column x. "Unwritten places keep their contents."
unfoldable pub with_component : EvcBlock → Component → (ℕ → ℕ → ℕ) → List ℕ → List ℕ
with_component b c f d = with_block d (offset_of c) (width_of b c) (width_of b c) (height_of b c) f

unfoldable pub with_samples : EvcBlock → (Component → ℕ → ℕ → ℕ) → List ℕ → List ℕ
with_samples b f d = with_component b cr (f cr) (with_component b cb (f cb) (with_component b luma (f luma) d))

-- the prediction from one list: the path from its vector, phase and place from the clipped place
unfoldable pub list_sample : EvcBlock → RefPicList → Component → ℕ → ℕ → ℕ
list_sample b l c = predicted (type_of c) b.pic_w b.pic_h l.list.mv (clipped_place b l.list.mv) (plane_of c l)

-- "equal counts and equal clipped vectors"
unfoldable pub same_motion : EvcBlock → EvcList → EvcList → Bool
same_motion b l m =
    eqb l.poc m.poc
    && eq_z (clip_mv b l.mv).x (clip_mv b m.mv).x
    && eq_z (clip_mv b l.mv).y (clip_mv b m.mv).y

-- "If both lists are in use with equal counts and equal clipped vectors, list 0 alone stands.": otherwise two predictions
unfoldable pub is_bi : EvcBlock → EvcList → EvcList → Bool
is_bi b l m = l.used && m.used && not (same_motion b l m)

-- "the first block gets (a + b + 1) >> 1"
abbrev pub average : ℕ → ℕ → ℕ
average a b = (a + b + 1) / 2

-- the first block's sample. "List 0 goes to the first; the second prediction goes to whichever of the two blocks is still empty."
unfoldable pub first_sample : EvcBlock → RefPicList → RefPicList → Component → ℕ → ℕ → ℕ
first_sample b l m c y x =
    cond (is_bi b l.list m.list) (average (list_sample b l c y x) (list_sample b m c y x))
    (cond l.list.used (list_sample b l c y x) (list_sample b m c y x))

-- "two lent blocks of at least 6144 samples, both needed even when one list is in use"
abbrev pub pred_len : ℕ
pred_len = 6144

-- 4: "a buffer that is needed is too short": one of the three planes of a picture
abbrev pub planes_short : ℕ → ℕ → List ℕ → List ℕ → List ℕ → Bool
planes_short W H y u v = ltb (length y) (plane_len Y W H) || ltb (length u) (plane_len UV W H) || ltb (length v) (plane_len UV W H)

-- "A list not in use may lend empty buffers, unread."
unfoldable pub list_short : EvcBlock → RefPicList → Bool
list_short b l = l.list.used && planes_short b.pic_w b.pic_h l.y l.u l.v

-- 5: "an order count in use exceeds 32,767"
abbrev pub poc_exceeds : EvcList → Bool
poc_exceeds l = l.used && ltb max_poc l.poc

-- 6: the windows of a list in all three planes
abbrev pub component_exceeds : EvcBlock → RefPicList → Component → Bool
component_exceeds b l c =
    window_exceeds (type_of c) b.pic_w b.pic_h (clipped_place b l.list.mv) (width_of b c) (height_of b c) (plane_of c l)

unfoldable pub list_exceeds : EvcBlock → RefPicList → Bool
list_exceeds b l = l.list.used && (component_exceeds b l luma || component_exceeds b l cb || component_exceeds b l cr)

-- "Error: 1 to 6 with both lists' windows checked first."
unfoldable pub mc2_code : EvcBlock → RefPicList → RefPicList → List ℕ → List ℕ → ℕ
mc2_code b l m pred0 pred1 =
    first_of
    (block_checks b
    ++ (3 when not (l.list.used || m.list.used)
    ∷ 4 when (list_short b l || list_short b m || ltb (length pred0) pred_len || ltb (length pred1) pred_len)
    ∷ 5 when (poc_exceeds l.list || poc_exceeds m.list)
    ∷ 6 when (list_exceeds b l || list_exceeds b m)
    ∷ []))

-- document 02, W2: "a list not in use, or a refused .. block call, reports nothing moved". Where list 0 alone stands, list 1 is in use all the same.
unfoldable pub list_moved : EvcBlock → EvcList → EvcMoved
list_moved b l = cond l.used (moved_mv b l.mv) nothing_moved

-- what is returned with a number
abbrev pub answered : ℕ → EvcBlock → EvcList → EvcList → EvcPredicted
answered code b l m =
    record {
      code = code;
      moved0 = cond (eqb code 0) (list_moved b l) nothing_moved;
      moved1 = cond (eqb code 0) (list_moved b m) nothing_moved;
    }

-- what the call returns
abbrev pub mc2_answer : EvcBlock → RefPicList → RefPicList → List ℕ → List ℕ → EvcPredicted
mc2_answer b l m pred0 pred1 = answered (mc2_code b l m pred0 pred1) b l.list m.list

-- an answer as the call returns it
abbrev pub answer_of : Result ListsMoved Refusal → EvcPredicted
answer_of (Ok m) = record { code = 0; moved0 = numbers_of m.moved0; moved1 = numbers_of m.moved1 }
answer_of (Err r) = record { code = number_of r; moved0 = nothing_moved; moved1 = nothing_moved }

-- the first block after the call
unfoldable pub mc2_first : EvcBlock → RefPicList → RefPicList → List ℕ → List ℕ → List ℕ
mc2_first b l m pred0 pred1 = cond (eqb (mc2_code b l m pred0 pred1) 0) (with_samples b (first_sample b l m) pred0) pred0

-- the second: "the second block keeps list 1's", and without two predictions what it held
unfoldable pub mc2_second : EvcBlock → RefPicList → RefPicList → List ℕ → List ℕ → List ℕ
mc2_second b l m pred0 pred1 =
    cond (eqb (mc2_code b l m pred0 pred1) 0 && is_bi b l.list m.list) (with_samples b (list_sample b m) pred1) pred1

-- 'Edges to try': "Average of 3 and 4: 4."
abbrev pub AverageEdges : Type 0
AverageEdges = average 3 4 ≡ 4
