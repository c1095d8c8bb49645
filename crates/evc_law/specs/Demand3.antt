-- Demand 3, in the words of document 01, 'What demand 3 compares'; the mirrors and the exchange also say what becomes of the reports of document 02's W2. Each
-- statement speaks of the definitions that evc_mc2's contract equates its answer and its first block with, so it holds of every call. evc_law/proofs/Theorems
-- proves them.
use Rattle.std.specs.Prelude.{true, cond, ◌&&◌, List, ◌≡◌, ℕ, ◌+◌, ◌*◌, ◌-◌, ◌/◌, ◌≤◌, ◌<◌, pos, neg_ℤ, length, get_or, replicate}
use Rattle.evc_int.specs.Whole.{−◌}
use Rattle.evc_def.specs.declared.EvcBlock.{EvcBlock}
use Rattle.evc_def.specs.declared.EvcMv.{EvcMv}
use Rattle.evc_def.specs.declared.QpelPlace.{QpelPlace}
use Rattle.evc_plane.specs.Planes.{side_of, plane_len, sample_at, reference_of}
use Rattle.evc_pad.specs.Padding.{pad_code, pad_after}
use Rattle.evc_clip.specs.Clip.{other_side, clipped_place}
use Rattle.evc_clip.specs.declared.EvcMoved.{EvcMoved}
use Rattle.evc_mc.specs.declared.EvcList.{EvcList}
use Rattle.evc_mc.specs.declared.EvcPredicted.{EvcPredicted}
use Rattle.evc_mc.specs.Block.{RefPicList, ref_pic_list, Component, luma, cb, cr, type_of, plane_of, offset_of, width_of, height_of, pred_len, mc2_answer, mc2_first}
use Rattle.evc_law.specs.General.{general}

-- ---- a call and its premises

-- the planes of a picture before padding
abbrev pub Picture : Type 0
Picture = Component → List ℕ

-- "each list in use lends the three planes that our own border step made for a picture of the call's W and H, samples at most 1023": padding accepted the
-- picture (it refuses a sample above 1023), and the planes are what it left
abbrev pub Made : EvcBlock → RefPicList → Picture → Type 0
Made b l p =
    l.list.used ≡ true → (c : Component) →
    (pad_code (type_of c) b.pic_w b.pic_h (p c) ≡ 0) × (plane_of c l ≡ pad_after (type_of c) b.pic_w b.pic_h (p c))

-- "equal pictures agree in every picture sample of all three planes"
abbrev pub Equal : EvcBlock → Picture → Picture → Type 0
Equal b p q =
    (c : Component) (i j : ℕ) → i < side_of (type_of c) b.pic_w → j < side_of (type_of c) b.pic_h →
    sample_at (type_of c) b.pic_w (p c) i j ≡ sample_at (type_of c) b.pic_w (q c) i j

-- a call over padded planes, with the pictures that they were made from; "equal order counts only for equal pictures", which "concerns two lists in use"
pub record Call : Type 0 where
  pub block : EvcBlock
  pub l0 : RefPicList
  pub l1 : RefPicList
  pub picture0 : Picture
  pub picture1 : Picture
  pub pred0 : List ℕ
  pub pred1 : List ℕ

pub record Premises (k : Call) : Type 0 where
  pub made0 : Made k.block k.l0 k.picture0
  pub made1 : Made k.block k.l1 k.picture1
  pub counts : k.l0.list.used ≡ true → k.l1.list.used ≡ true → k.l0.list.poc ≡ k.l1.list.poc → Equal k.block k.picture0 k.picture1

-- what the call returns, its number, and "the predicted samples of the first block": column x of row y of a component
abbrev pub answer : Call → EvcPredicted
answer k = mc2_answer k.block k.l0 k.l1 k.pred0 k.pred1

abbrev pub code : Call → ℕ
code k = (answer k).code

abbrev pub Accepted : Call → Type 0
Accepted k = code k ≡ 0

abbrev pub sample : Call → Component → ℕ → ℕ → ℕ
sample k c x y = get_or (mc2_first k.block k.l0 k.l1 k.pred0 k.pred1) (offset_of c + y * width_of k.block c + x) 0

-- ---- the premises can be met, by a call that is accepted

-- a picture with one value at every place
abbrev pub flat_picture : ℕ → ℕ → ℕ → Picture
flat_picture W H v c = replicate (plane_len (type_of c) W H) v

-- a list in use over that picture, padded
abbrev pub flat_list : ℕ → ℕ → ℕ → EvcMv → ℕ → RefPicList
flat_list W H v mv poc =
    let plane : Component → List ℕ = λ (c : Component). pad_after (type_of c) W H (flat_picture W H v c) in
    ref_pic_list (record { used = true; mv = mv; poc = poc }) (plane luma) (plane cb) (plane cr)

-- two lists in use with equal counts, over equal pictures of 16 by 12; one vector is clipped, the other is filtered both ways
abbrev pub witness : Call
witness =
    record {
      block = record { pic_w = 16; pic_h = 12; x = 8; y = 4; w = 8; h = 4 };
      l0 = flat_list 16 12 1023 (record { x = − 1000; y = pos 2 }) 7;
      l1 = flat_list 16 12 1023 (record { x = pos 5; y = − 3 }) 7;
      picture0 = flat_picture 16 12 1023;
      picture1 = flat_picture 16 12 1023;
      pred0 = replicate pred_len 0;
      pred1 = replicate pred_len 0;
    }

abbrev pub Witness : Type 0
Witness = Premises witness × Accepted witness

-- ---- the general filter

-- the general filter at a place, over the padded reference picture
abbrev pub general_at : EvcBlock → QpelPlace → Picture → Component → ℕ → ℕ → ℕ
general_at b place p c x y = general (type_of c) (reference_of (type_of c) b.pic_w b.pic_h (p c)) place.x.0 place.y.0 x y

-- at a list's clipped place
abbrev pub general_list : EvcBlock → EvcList → Picture → Component → ℕ → ℕ → ℕ
general_list b l p c x y = general_at b (clipped_place b l.mv) p c x y

-- "With both lists in use the sample is (a + b + 1) >> 1, also where counts and vectors are equal."
abbrev pub rounded_average : ℕ → ℕ → ℕ
rounded_average a b = (a + b + 1) / 2

-- the sample of a call whose lists have these
abbrev pub of_lists : Call → (EvcList → Picture → ℕ) → ℕ
of_lists k of =
    let a = of k.l0.list k.picture0 in
    let b = of k.l1.list k.picture1 in
    cond (k.l0.list.used && k.l1.list.used) (rounded_average a b) (cond k.l0.list.used a b)

abbrev pub general_sample : Call → Component → ℕ → ℕ → ℕ
general_sample k c x y = of_lists k (λ (l : EvcList) (p : Picture). general_list k.block l p c x y)

-- "each predicted sample of the first block, in all three planes, equals the general two-stage filter .. at the clipped place over a picture prolonged by its
-- edge samples; with two references, the rounded average of both"
abbrev pub GeneralFilter : Type 0
GeneralFilter =
    (k : Call) → Premises k → Accepted k → (c : Component) (x y : ℕ) → x < width_of k.block c → y < height_of k.block c →
    sample k c x y ≡ general_sample k c x y

-- ---- the mirrors

-- "Left to right: column i of each picture plane becomes pw - 1 - i before our border step"
abbrev pub PictureLeftRight : EvcBlock → Picture → Picture → Type 0
PictureLeftRight b p q =
    (c : Component) (i i' j : ℕ) → i + i' + 1 ≡ side_of (type_of c) b.pic_w → j < side_of (type_of c) b.pic_h →
    sample_at (type_of c) b.pic_w (q c) i j ≡ sample_at (type_of c) b.pic_w (p c) i' j

-- "Top to bottom likewise."
abbrev pub PictureTopBottom : EvcBlock → Picture → Picture → Type 0
PictureTopBottom b p q =
    (c : Component) (i j j' : ℕ) → i < side_of (type_of c) b.pic_w → j + j' + 1 ≡ side_of (type_of c) b.pic_h →
    sample_at (type_of c) b.pic_w (q c) i j ≡ sample_at (type_of c) b.pic_w (p c) i j'

-- "x becomes W - x - w"
abbrev pub block_left_right : EvcBlock → EvcBlock
block_left_right b =
    record {
      pic_w = b.pic_w;
      pic_h = b.pic_h;
      x = b.pic_w - b.x - b.w;
      y = b.y;
      w = b.w;
      h = b.h;
    }

abbrev pub block_top_bottom : EvcBlock → EvcBlock
block_top_bottom b =
    record {
      pic_w = b.pic_w;
      pic_h = b.pic_h;
      x = b.x;
      y = b.pic_h - b.y - b.h;
      w = b.w;
      h = b.h;
    }

-- "mvx of each list in use is negated, and all else stays". A component of -32768 has no negation among signed 16-bit numbers, so no call has one; the laws hold
-- for all whole numbers.
abbrev pub mv_left_right : EvcMv → EvcMv
mv_left_right mv = record { x = neg_ℤ mv.x; y = mv.y }

abbrev pub mv_top_bottom : EvcMv → EvcMv
mv_top_bottom mv = record { x = mv.x; y = neg_ℤ mv.y }

-- a list's mirror: `turn` is what becomes of its vector, `Turned` of its picture. A list not in use has neither
pub record ListMirrored (turn : EvcMv → EvcMv) (Turned : Picture → Picture → Type 0) (b : EvcBlock) (l : RefPicList) (p : Picture) (m : RefPicList) (q : Picture) : Type 0 where
  pub used : m.list.used ≡ l.list.used
  pub mv : l.list.used ≡ true → m.list.mv ≡ turn l.list.mv
  pub poc : l.list.used ≡ true → m.list.poc ≡ l.list.poc
  pub picture : l.list.used ≡ true → Turned p q
  pub made : Made b m q

-- the mirrored call; its lent blocks hold anything
pub record Mirrored (turn : EvcMv → EvcMv) (Turned : Picture → Picture → Type 0) (place : EvcBlock) (k m : Call) : Type 0 where
  pub block : m.block ≡ place
  pub list0 : ListMirrored turn Turned place k.l0 k.picture0 m.l0 m.picture0
  pub list1 : ListMirrored turn Turned place k.l1 k.picture1 m.l1 m.picture1
  pub long0 : pred_len ≤ length m.pred0
  pub long1 : pred_len ≤ length m.pred1

-- what becomes of a report: the low and the high side change places in the direction that is mirrored
abbrev pub moved_left_right : EvcMoved → EvcMoved
moved_left_right m = record { x = other_side m.x; y = m.y }

abbrev pub moved_top_bottom : EvcMoved → EvcMoved
moved_top_bottom m = record { x = m.x; y = other_side m.y }

abbrev pub ReportsMirrored : (EvcMoved → EvcMoved) → Call → Call → Type 0
ReportsMirrored turn k m = ((answer m).moved0 ≡ turn (answer k).moved0) × ((answer m).moved1 ≡ turn (answer k).moved1)

-- "column c of each predicted plane equals the straight call's column n - 1 - c, n being that plane's block width"
abbrev pub LeftRight : Type 0
LeftRight =
    (k m : Call) → Premises k → Accepted k → Mirrored mv_left_right (PictureLeftRight k.block) (block_left_right k.block) k m →
    Accepted m × ReportsMirrored moved_left_right k m × ((c : Component) (x x' y : ℕ) → x + x' + 1 ≡ width_of k.block c → y < height_of k.block c → sample m c x y ≡ sample k c x' y)

abbrev pub TopBottom : Type 0
TopBottom =
    (k m : Call) → Premises k → Accepted k → Mirrored mv_top_bottom (PictureTopBottom k.block) (block_top_bottom k.block) k m →
    Accepted m × ReportsMirrored moved_top_bottom k m × ((c : Component) (x y y' : ℕ) → x < width_of k.block c → y + y' + 1 ≡ height_of k.block c → sample m c x y ≡ sample k c x y')

-- ---- the exchange

-- "Exchange swaps the lists' planes, vectors, counts and whether they are in use"; the lent blocks hold anything
abbrev pub exchanged : Call → List ℕ → List ℕ → Call
exchanged k pred0 pred1 =
    record {
      block = k.block;
      l0 = k.l1;
      l1 = k.l0;
      picture0 = k.picture1;
      picture1 = k.picture0;
      pred0 = pred0;
      pred1 = pred1;
    }

-- the reports are exchanged with their lists
abbrev pub ReportsExchanged : Call → Call → Type 0
ReportsExchanged k m = ((answer m).moved0 ≡ (answer k).moved1) × ((answer m).moved1 ≡ (answer k).moved0)

-- "that call is accepted too, and its first block has the same samples"; "the second block is not compared"
abbrev pub Exchange : Type 0
Exchange =
    (k : Call) (pred0 pred1 : List ℕ) → Premises k → Accepted k → pred_len ≤ length pred0 → pred_len ≤ length pred1 →
    Accepted (exchanged k pred0 pred1)
    × ReportsExchanged k (exchanged k pred0 pred1)
    × ((c : Component) (x y : ℕ) → x < width_of k.block c → y < height_of k.block c → sample (exchanged k pred0 pred1) c x y ≡ sample k c x y)

-- ---- demand 3

abbrev pub Demand3 : Type 0
Demand3 = GeneralFilter × LeftRight × TopBottom × Exchange
