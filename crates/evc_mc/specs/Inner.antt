-- What stands between the checks and the prediction of a list.
use Rattle.std.specs.Prelude.{true, false, cond, ◌||◌, List, ◌≡◌, ℕ, ◌+◌, ◌*◌, ◌<◌, ◌≤◌, length, get_or}
use Rattle.evc_def.specs.Codes.{first_of, block_checks}
use Rattle.evc_def.specs.declared.EvcBlock.{EvcBlock}
use Rattle.evc_def.specs.declared.QpelPlace.{QpelPlace}
use Rattle.evc_plane.specs.Planes.{side_of, plane_len}
use Rattle.evc_plane.specs.declared.PlaneType.{PlaneType}
use Rattle.evc_interp.specs.Prediction.{window_exceeds}
use Rattle.evc_mc.specs.Block.{RefPicList, Component, type_of, plane_of, offset_of, width_of, height_of, list_sample, with_samples, list_short, list_exceeds, pred_len}

-- what the checks leave of one plane
pub record Examined (b : EvcBlock) (t : PlaneType) (gmv : QpelPlace) (plane : List ℕ) : Type 0 where
  pub long : plane_len t b.pic_w b.pic_h ≤ length plane
  pub small : window_exceeds t b.pic_w b.pic_h gmv (side_of t b.w) (side_of t b.h) plane ≡ false

-- and of a list: of its three planes, if it is in use
abbrev pub ListExamined : EvcBlock → QpelPlace → RefPicList → Type 0
ListExamined b gmv l = l.list.used ≡ true → (c : Component) → Examined b (type_of c) gmv (plane_of c l)

-- a lent block after a list was predicted to it: as it was, if the list is not in use
unfoldable pub with_list : EvcBlock → RefPicList → List ℕ → List ℕ
with_list b l d = cond l.list.used (with_samples b (list_sample b l) d) d

-- what a lent block holds for row y and column x of a component
abbrev pub block_sample : EvcBlock → List ℕ → Component → ℕ → ℕ → ℕ
block_sample b d c y x = get_or d (offset_of c + y * width_of b c + x) 0

-- no sample of a row of n, or of the three planes of a block, is above 1023
abbrev pub RowSmall : List ℕ → ℕ → ℕ → Type 0
RowSmall d o n = (i : ℕ) → i < n → get_or d (o + i) 0 ≤ 1023

abbrev pub BlockSmall : EvcBlock → List ℕ → Type 0
BlockSmall b d = (c : Component) (y x : ℕ) → y < height_of b c → x < width_of b c → block_sample b d c y x ≤ 1023

-- what an accepted call has passed
pub record Accepted (b : EvcBlock) (l m : RefPicList) (p q : List ℕ) : Type 0 where
  pub block : first_of (block_checks b) ≡ 0
  pub some_used : (l.list.used || m.list.used) ≡ true
  pub l_short : list_short b l ≡ false
  pub m_short : list_short b m ≡ false
  pub p_long : pred_len ≤ length p
  pub q_long : pred_len ≤ length q
  pub l_exceeds : list_exceeds b l ≡ false
  pub m_exceeds : list_exceeds b m ≡ false
