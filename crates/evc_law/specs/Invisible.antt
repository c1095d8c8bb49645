-- Document 02, W6: "Say when cutting and clipping are invisible. Show over the existing predictor that ..": each statement speaks of the definitions that
-- evc_mc2's contract equates its answer and its first block with, so it holds of every call. "The mirror law's premises apply.": they are Demand3's, `Premises`.
-- evc_law/proofs/Invisible proves them.
use Rattle.std.specs.Prelude.{Bool, true, false, cond, List, ◌≡◌, ℕ, ◌+◌, ◌*◌, ◌/◌, ◌≤◌, ◌<◌, eqb, ℤ, pos, ◌+ℤ◌, length, ◌≤ℤ◌}
use Rattle.evc_int.specs.Whole.{−◌}
use Rattle.evc_def.specs.Places.{qpel_place}
use Rattle.evc_def.specs.declared.EvcBlock.{EvcBlock}
use Rattle.evc_def.specs.declared.EvcMv.{EvcMv}
use Rattle.evc_def.specs.declared.QpelPlace.{QpelPlace}
use Rattle.evc_plane.specs.declared.PlaneType.{PlaneType}
use Rattle.evc_plane.specs.declared.PlaneType.TheVariants.{Y, UV}
use Rattle.evc_plane.specs.Planes.{side_of, sample_at, reference}
use Rattle.evc_clip.specs.Clip.{clip_component, clip_mv, place_of, clipped_place}
use Rattle.evc_mc.specs.declared.EvcList.{EvcList}
use Rattle.evc_mc.specs.Block.{Component, luma, type_of, width_of, height_of, pred_len}
use Rattle.evc_law.specs.General.{general}
use Rattle.evc_law.specs.Demand3.{Picture, Call, Premises, Accepted, sample, general_at, of_lists}

-- ---- the split into quarters ("cutting")

-- a quarter of a block: the left or the right half of its columns, the upper or the lower half of its rows
abbrev pub quarter_of : EvcBlock → Bool → Bool → EvcBlock
quarter_of b right lower =
    record {
      pic_w = b.pic_w;
      pic_h = b.pic_h;
      x = b.x + cond right (b.w / 2) 0;
      y = b.y + cond lower (b.h / 2) 0;
      w = b.w / 2;
      h = b.h / 2;
    }

-- "predicting its four quarters separately .. (.. same references and vectors)": the call on one of them; its lent blocks hold anything
abbrev pub quarter : Call → Bool → Bool → List ℕ → List ℕ → Call
quarter k right lower pred0 pred1 =
    record {
      block = quarter_of k.block right lower;
      l0 = k.l0;
      l1 = k.l1;
      picture0 = k.picture0;
      picture1 = k.picture1;
      pred0 = pred0;
      pred1 = pred1;
    }

-- "the same samples": those of the whole that lie in the quarter q are q's own
abbrev pub SameSamples : Call → Bool → Bool → Call → Component → Type 0
SameSamples k right lower q c =
    let w = width_of q.block c in
    let h = height_of q.block c in
    (x y : ℕ) → x < w → y < h → sample k c (cond right w 0 + x) (cond lower h 0 + y) ≡ sample q c x y

-- the call on a quarter is accepted, is half as wide and half as high in each plane, so that the four are the whole, and has the whole's samples
pub record SamePrediction (k : Call) (right lower : Bool) (q : Call) : Type 0 where
  pub accepted : Accepted q
  pub width : (c : Component) → width_of k.block c ≡ 2 * width_of q.block c
  pub height : (c : Component) → height_of k.block c ≡ 2 * height_of q.block c
  pub samples : (c : Component) → SameSamples k right lower q c

-- "where a block's vectors need no clipping": clipping leaves those of the lists in use as they are
abbrev pub Unclipped : EvcBlock → EvcList → Type 0
Unclipped b l = l.used ≡ true → clip_mv b l.mv ≡ l.mv

-- "predicting its four quarters separately gives the same samples (sides 8 and up, ..)"
abbrev pub Quarters : Type 0
Quarters =
    (k : Call) → Premises k → Accepted k → 8 ≤ k.block.w → 8 ≤ k.block.h → Unclipped k.block k.l0.list → Unclipped k.block k.l1.list →
    (right lower : Bool) (pred0 pred1 : List ℕ) → pred_len ≤ length pred0 → pred_len ≤ length pred1 →
    SamePrediction k right lower (quarter k right lower pred0 pred1)

-- ---- clipping

-- "the exact unclipped place": 4x + mvx across and 4y + mvy down, with the vector as given
abbrev pub exact_place : EvcBlock → EvcMv → QpelPlace
exact_place b mv = qpel_place (place_of b.x mv.x) (place_of b.y mv.y)

-- the general filter there: a list's sample, and a call's
abbrev pub exact_list : EvcBlock → EvcList → Picture → Component → ℕ → ℕ → ℕ
exact_list b l p c x y = general_at b (exact_place b l.mv) p c x y

abbrev pub exact_sample : Call → Component → ℕ → ℕ → ℕ
exact_sample k c x y = of_lists k (λ (l : EvcList) (p : Picture). exact_list k.block l p c x y)

-- "clipping changes no sample compared with the exact unclipped place", of one component
abbrev pub Exact : Call → Component → Type 0
Exact k c = (x y : ℕ) → x < width_of k.block c → y < height_of k.block c → sample k c x y ≡ exact_sample k c x y

-- "for sides of at most 32"
abbrev pub ClippingSmall : Type 0
ClippingSmall = (k : Call) → Premises k → Accepted k → k.block.w ≤ 32 → k.block.h ≤ 32 → (c : Component) → Exact k c

-- "and that for chroma it never does"
abbrev pub ClippingChroma : Type 0
ClippingChroma = (k : Call) → Premises k → Accepted k → (c : Component) → type_of c ≡ UV → Exact k c

-- ---- the counterexample

-- "a block 64 wide, x 0, mvx -257, vertical component 0, with columns 0 and 1 holding 0 and 1023": every such call, list 0 alone in use
pub record Example (k : Call) : Type 0 where
  pub wide : k.block.w ≡ 64
  pub x : k.block.x ≡ 0
  pub mv : k.l0.list.mv ≡ record { x = − 257; y = pos 0 }
  pub list0 : k.l0.list.used ≡ true
  pub list1 : k.l1.list.used ≡ false
  pub columns : (j : ℕ) → j < k.block.pic_h →
      (sample_at Y k.block.pic_w (k.picture0 luma) 0 j ≡ 0) × (sample_at Y k.block.pic_w (k.picture0 luma) 1 j ≡ 1023)

-- it "gives 0 in its last column, where the unclipped place would give 16.": in every row
abbrev pub Counterexample : Type 0
Counterexample = (k : Call) → Premises k → Accepted k → Example k → (y : ℕ) → y < k.block.h → (sample k luma 63 y ≡ 0) × (exact_sample k luma 63 y ≡ 16)

-- its right quarters give 16 in their last column: the split shows too
abbrev pub QuartersShow : Type 0
QuartersShow =
    (k : Call) → Premises k → Accepted k → Example k → 8 ≤ k.block.h →
    (lower : Bool) (pred0 pred1 : List ℕ) → pred_len ≤ length pred0 → pred_len ≤ length pred1 →
    let q = quarter k true lower pred0 pred1 in
    (y : ℕ) → y < q.block.h → sample q luma 31 y ≡ 16

-- by computation: column x of row y of a block's luma is 0 at the clipped place and another number at the exact one
abbrev pub Shows : EvcBlock → EvcMv → (ℕ → ℕ → ℕ) → ℕ → ℕ → ℕ → Type 0
Shows b mv picture x y other =
    let s = reference picture b.pic_w b.pic_h in
    let clipped = clipped_place b mv in
    let exact = exact_place b mv in
    (general Y s clipped.x.0 clipped.y.0 x y ≡ 0) × (general Y s exact.x.0 exact.y.0 x y ≡ other)

-- blocks over the whole of a picture
abbrev pub wide_block : EvcBlock
wide_block = record { pic_w = 64; pic_h = 4; x = 0; y = 0; w = 64; h = 4 }

abbrev pub high_block : EvcBlock
high_block = record { pic_w = 4; pic_h = 64; x = 0; y = 0; w = 4; h = 64 }

-- d quarters of a sample past the limit on the left, and its mirror images on the right, above and below: the line next to that edge's holds 1023, all others 0
abbrev pub OnEachSide : ℕ → ℕ → Type 0
OnEachSide d other =
    Shows wide_block (record { x = − (256 + d); y = pos 0 }) (λ (i j : ℕ). cond (eqb i 1) 1023 0) 63 0 other
    × Shows wide_block (record { x = pos (256 + d); y = pos 0 }) (λ (i j : ℕ). cond (eqb i 62) 1023 0) 0 0 other
    × Shows high_block (record { x = pos 0; y = − (256 + d) }) (λ (i j : ℕ). cond (eqb j 1) 1023 0) 0 63 other
    × Shows high_block (record { x = pos 0; y = pos (256 + d) }) (λ (i j : ℕ). cond (eqb j 62) 1023 0) 0 0 other

-- 1 quarter past it, as W6 says, and 2 and 3
abbrev pub Computed : Type 0
Computed = OnEachSide 1 16 × OnEachSide 2 32 × OnEachSide 3 16

-- ---- beyond W6: clipping shows nowhere else

-- a luma sample, in the quarters that vectors count
abbrev pub whole_sample : ℕ
whole_sample = 4

-- where it is hidden in one direction of a plane, W, x and w being the picture's side, the block's place and its side: the plane's block has at most 32 samples
-- there, or clipping leaves the vector as it is, or raises or lowers it by a whole luma sample or more
pub data Hidden (t : PlaneType) (W x w : ℕ) (mv : ℤ) : Type 0 where
  small : side_of t w ≤ 32 → Hidden t W x w mv
  kept : clip_component W x w mv ≡ mv → Hidden t W x w mv
  raised : (mv +ℤ pos whole_sample) ≤ℤ clip_component W x w mv → Hidden t W x w mv
  lowered : (clip_component W x w mv +ℤ pos whole_sample) ≤ℤ mv → Hidden t W x w mv

pub record HiddenList (t : PlaneType) (b : EvcBlock) (l : EvcList) : Type 0 where
  pub across : l.used ≡ true → Hidden t b.pic_w b.x b.w l.mv.x
  pub down : l.used ≡ true → Hidden t b.pic_h b.y b.h l.mv.y

-- so it shows in luma alone, with a side of 64, where clipping moves a vector by 1 to 3 quarters of a sample
abbrev pub ClippingHidden : Type 0
ClippingHidden =
    (k : Call) → Premises k → Accepted k → (c : Component) → HiddenList (type_of c) k.block k.l0.list → HiddenList (type_of c) k.block k.l1.list → Exact k c

-- and where it is hidden the split is too, whether vectors need clipping or not
abbrev pub QuartersHidden : Type 0
QuartersHidden =
    (k : Call) → Premises k → Accepted k → 8 ≤ k.block.w → 8 ≤ k.block.h →
    (right lower : Bool) (pred0 pred1 : List ℕ) → pred_len ≤ length pred0 → pred_len ≤ length pred1 →
    let q = quarter k right lower pred0 pred1 in
    Accepted q × ((c : Component) → HiddenList (type_of c) k.block k.l0.list → HiddenList (type_of c) k.block k.l1.list → SameSamples k right lower q c)

-- ---- W6

abbrev pub Invisible : Type 0
Invisible = Quarters × ClippingSmall × ClippingChroma × Counterexample × QuartersShow × Computed × ClippingHidden × QuartersHidden
