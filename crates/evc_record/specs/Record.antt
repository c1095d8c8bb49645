-- Document 02, W1: one record of a trace: its number, and what it puts into the target.
use Rattle.std.specs.Prelude.{Bool, not, cond, ◌&&◌, List, [], ◌∷◌, ◌≡◌, ℕ, ◌+◌, ◌*◌, ltb, eqb, ℤ, length, replicate}
use Rattle.evc_int.specs.Lists.{with_block}
use Rattle.evc_def.specs.Codes.{◌when◌, first_of, zero_mv}
use Rattle.evc_def.specs.declared.EvcBlock.{EvcBlock}
use Rattle.evc_def.specs.declared.EvcMv.{EvcMv}
use Rattle.evc_plane.specs.Planes.{side_of, pad_of, origin_of, stride_of}
use Rattle.evc_plane.specs.declared.PlaneType.{PlaneType}
use Rattle.evc_map.specs.Maps.{is_present, numbers_of}
use Rattle.evc_direct.specs.Direct.{get_mv_dir}
use Rattle.evc_direct.specs.declared.EvcDirect.{EvcDirect}
use Rattle.evc_direct.specs.declared.Pocs.{Pocs}
use Rattle.evc_clip.specs.Clip.{clip_mv}
use Rattle.evc_mc.specs.Block.{RefPicList, Component, luma, cb, cr, type_of, width_of, height_of, first_sample, pred_len, planes_short, mc2_code, answered}
use Rattle.evc_mc.specs.declared.EvcList.{EvcList}
use Rattle.evc_mc.specs.declared.EvcPredicted.{EvcPredicted}
use Rattle.evc_mc.specs.declared.Planes.{Planes as LentPlanes}
use Rattle.evc_record.specs.declared.PlanesMut.{PlanesMut}
use Rattle.evc_record.specs.declared.Source.{Source as LentSource}
use Rattle.evc_trace.specs.Format.{record_len, count_len, record_of, last_byte, is_well_formed}
use Rattle.evc_trace.specs.declared.TraceHeader.{TraceHeader}
use Rattle.evc_trace.specs.declared.EvcTraceRecord.{EvcTraceRecord}

-- the three planes of a picture
pub record Planes : Type 0 where
  pub y : List ℕ
  pub u : List ℕ
  pub v : List ℕ

abbrev pub planes : List ℕ → List ℕ → List ℕ → Planes
planes y u v = record { y = y; u = u; v = v }

-- as they are lent
abbrev pub planes_of : LentPlanes → Planes
planes_of p = planes p.y.now p.u.now p.v.now

abbrev pub target_of : PlanesMut → Planes
target_of p = planes p.y.now p.u.now p.v.now

-- the same planes are lent
pub record SamePlanes (p q : PlanesMut) : Type 0 where
  pub y : p.y.ghost_name ≡ q.y.ghost_name
  pub u : p.u.ghost_name ≡ q.u.ghost_name
  pub v : p.v.ghost_name ≡ q.v.ghost_name

-- 4: "every lent plane"
unfoldable pub picture_short : ℕ → ℕ → Planes → Bool
picture_short W H p = planes_short W H p.y p.u p.v

-- what every record is replayed from: the header, "two lent references and the collocated motion map or none"
pub record Source : Type 0 where
  pub header : TraceHeader
  pub ref0 : Planes
  pub ref1 : Planes
  pub has_col : Bool
  pub col : List ℤ

abbrev pub source : TraceHeader → Planes → Planes → Bool → List ℤ → Source
source h p q has col = record { header = h; ref0 = p; ref1 = q; has_col = has; col = col }

-- as it is lent
abbrev pub source_of : LentSource → Source
source_of e =
    let l = e.references in source e.header (planes_of l.ref0) (planes_of l.ref1) (is_present l.col_mv) (numbers_of l.col_mv)

-- ---- the block, its motion and its lists

abbrev pub block_of : TraceHeader → EvcTraceRecord → EvcBlock
block_of h r = record { pic_w = h.pic_w; pic_h = h.pic_h; x = r.x; y = r.y; w = r.w; h = r.h }

-- the header's count, the record's two, the header's first listed count
abbrev pub pocs_of : TraceHeader → EvcTraceRecord → Pocs
pocs_of h r = record { poc = h.poc; poc0 = r.poc0; poc1 = r.poc1; list_poc0 = h.list_poc0 }

-- the record's vectors, and for kind 3 the direct ones with the direct call's number
unfoldable pub motion_of : TraceHeader → Bool → List ℤ → EvcTraceRecord → EvcDirect
motion_of h has col r =
    cond (eqb r.kind 3) (get_mv_dir (block_of h r) (pocs_of h r) has col) (record { code = 0; mv0 = r.mv0; mv1 = r.mv1 })

-- "0 list 0, 1 list 1, 2 both, 3 direct with both lists"
abbrev pub list0_of : EvcTraceRecord → EvcDirect → EvcList
list0_of r m = record { used = not (eqb r.kind 1); mv = m.mv0; poc = r.poc0 }

abbrev pub list1_of : EvcTraceRecord → EvcDirect → EvcList
list1_of r m = record { used = not (eqb r.kind 0); mv = m.mv1; poc = r.poc1 }

abbrev pub with_planes : EvcList → Planes → RefPicList
with_planes l p = record { list = l; y = p.y; u = p.u; v = p.v }

module _ (e : Source) (r : EvcTraceRecord) where
  abbrev pub motion : EvcDirect
  motion = motion_of e.header e.has_col e.col r

  abbrev pub ref_list0 : RefPicList
  ref_list0 = with_planes (list0_of r motion) e.ref0

  abbrev pub ref_list1 : RefPicList
  ref_list1 = with_planes (list1_of r motion) e.ref1

-- ---- its number

-- "11 if incomplete, 12 for a kind above 3 or a nonzero field due to be zero"
unfoldable pub form_code : List ℕ → ℕ
form_code s =
    first_of
    (11 when ltb (length s) (record_len count_len)
    ∷ 12 when not (is_well_formed (record_of count_len s) && eqb (last_byte count_len s) 0)
    ∷ [])

-- the block's own number, with two blocks of 6144 samples
abbrev pub blank : List ℕ
blank = replicate pred_len 0

unfoldable pub block_code : Source → EvcTraceRecord → ℕ
block_code e r = mc2_code (block_of e.header r) (ref_list0 e r) (ref_list1 e r) blank blank

-- the first number, or the second where the first is 0
infixr 60 ◌or_else◌
abbrev pub ◌or_else◌ : ℕ → ℕ → ℕ
a or_else b = cond (eqb a 0) b a

-- "and the direct call's or block's own number"
unfoldable pub record_code : Source → List ℕ → ℕ
record_code e s = form_code s or_else (motion e (record_of count_len s)).code or_else block_code e (record_of count_len s)

-- with the block's reports (document 02, W2); nothing is reported of a record that is refused
abbrev pub record_answer : Source → List ℕ → EvcPredicted
record_answer e s =
    let r = record_of count_len s in
    answered (record_code e s) (block_of e.header r) (list0_of r (motion e r)) (list1_of r (motion e r))

-- ---- its step: number, block, clipped vectors (zero for a list not in use) and the first block's samples

pub record Step : Type 0 where
  pub code : ℕ
  pub block : EvcBlock
  pub mv0 : EvcMv
  pub mv1 : EvcMv
  pub sample : Component → ℕ → ℕ → ℕ

abbrev pub clipped_of : EvcBlock → EvcList → EvcMv
clipped_of b l = cond l.used (clip_mv b l.mv) zero_mv

abbrev pub step_of : Source → List ℕ → Step
step_of e s =
    let r = record_of count_len s in
    let b = block_of e.header r in
    record {
      code = record_code e s;
      block = b;
      mv0 = clipped_of b (list0_of r (motion e r));
      mv1 = clipped_of b (list1_of r (motion e r));
      sample = first_sample b (ref_list0 e r) (ref_list1 e r);
    }

-- ---- "puts predicted blocks into a lent target's planes, borders untouched"

-- the index of a block's first sample in a plane
abbrev pub place_in : PlaneType → EvcBlock → ℕ
place_in t b = (pad_of t + side_of t b.y) * stride_of t b.pic_w + (origin_of t + side_of t b.x)

-- a plane with a block's samples put into its picture: f y x in row y and column x of the block
unfoldable pub with_picture : EvcBlock → Component → (ℕ → ℕ → ℕ) → List ℕ → List ℕ
with_picture b c f p = with_block p (place_in (type_of c) b) (stride_of (type_of c) b.pic_w) (width_of b c) (height_of b c) f

-- the target after a record that is not refused
unfoldable pub plane_after : Source → List ℕ → Component → List ℕ → List ℕ
plane_after e s c p = with_picture (step_of e s).block c ((step_of e s).sample c) p

unfoldable pub target_after : Source → List ℕ → Planes → Planes
target_after e s t = planes (plane_after e s luma t.y) (plane_after e s cb t.u) (plane_after e s cr t.v)
