-- Demand 3's theorems: each predicted sample of an accepted call is the general filter's; the mirrors; the exchange of the lists. Assumes nothing.
use mathlib.Core.Bool.{Bool, true, false, not, cond, ◌&&◌, ◌||◌}
use mathlib.Core.List.{List}
use mathlib.Core.Path.{◌≡◌, refl, sym, ap, ap₂, subst, ◌∙◌, fun_ext}
use Prim.Native.Nat.{ℕ, ◌+◌, ◌*◌, ◌≤◌, ◌<◌}
use native.Mathlib.Omega.{arith}
use lib.Dec.{T, eqb}
use lib.IntN.{ℤ, pos, ◌+ℤ◌, ◌*ℤ◌}
use lib.ListN.{get_or}
use borrow.Author.Tests.{eqb-true}
use Rattle.evc_int.specs.Whole.{eq_z}
use Rattle.std.proofs.Math.Bool.{or_comm}
use Rattle.std.proofs.lemmas.Bool.{and_parts}
use Rattle.evc_int.proofs.Whole.{eq_z-true}
use Rattle.evc_def.specs.Blocks.{Allowed, max_poc}
use Rattle.evc_def.specs.Codes.{first_of, block_checks}
use Rattle.evc_def.specs.declared.EvcBlock.{EvcBlock}
use Rattle.evc_def.specs.declared.EvcMv.{EvcMv}
use Rattle.evc_def.proofs.Blocks.{allowed_block}
use Rattle.evc_clip.specs.Clip.{clip_mv, clipped_place}
use Rattle.evc_plane.specs.Planes.{side_of, sample_at, reference_of}
use Rattle.evc_plane.proofs.Reference.{reference_agree}
use Rattle.evc_mc.specs.declared.EvcList.{EvcList}
use Rattle.evc_mc.specs.Block.{RefPicList, Component, type_of, offset_of, width_of, height_of, with_samples, list_sample, same_motion, is_bi, average, first_sample, mc2_code, mc2_first}
use Rattle.evc_law.specs.General.{general}
use Rattle.evc_law.specs.Demand3.{Picture, Equal, Call, Premises, Accepted, sample, general_list, rounded_average, GeneralFilter, PictureLeftRight, PictureTopBottom, block_left_right, block_top_bottom, mv_left_right, mv_top_bottom, Mirrored, LeftRight, TopBottom, exchanged, Exchange, Demand3}
use Rattle.evc_law.proofs.Calls.{list_general, Asked, accepts_call, accepted_call, block_holds}
use Rattle.evc_law.proofs.Reports.{reports_left_right, reports_top_bottom, reports_exchanged}
use Rattle.evc_law.proofs.Mirror.{some_side, block_left_right_lem, block_top_bottom_lem, list_left_right, list_top_bottom, equal_left_right, equal_top_bottom, mirrored_sample, mirrored_premises}

-- ---- what an accepted call leaves in its first block

first_is : (b : EvcBlock) (l m : RefPicList) (pred0 pred1 : List ℕ) → mc2_code b l m pred0 pred1 ≡ 0 → mc2_first b l m pred0 pred1 ≡ with_samples b (first_sample b l m) pred0
unfolding mc2_first
first_is b l m pred0 pred1 done = rw done

pub sample_is : (k : Call) → Accepted k → (c : Component) (x y : ℕ) → x < width_of k.block c → y < height_of k.block c → sample k c x y ≡ first_sample k.block k.l0 k.l1 c y x
sample_is k done c x y lx ly =
    let b = k.block in
    let a = accepted_call b k.l0 k.l1 k.pred0 k.pred1 done in
    let o = allowed_block b a.block in
    ap (λ (d : List ℕ). get_or d (offset_of c + y * width_of b c + x) 0) (first_is b k.l0 k.l1 k.pred0 k.pred1 done)
    ∙ block_holds b o.0.side_high o.1.side_high (first_sample b k.l0 k.l1) k.pred0 a.long0 c x y lx ly

-- ---- equal motion over equal pictures

pub record SameMotion (b : EvcBlock) (l m : EvcList) : Type 0 where
  pub count : l.poc ≡ m.poc
  pub across : (clip_mv b l.mv).x ≡ (clip_mv b m.mv).x
  pub down : (clip_mv b l.mv).y ≡ (clip_mv b m.mv).y

pub same_motion_lem : (b : EvcBlock) (l m : EvcList) → same_motion b l m ≡ true → SameMotion b l m
unfolding same_motion
same_motion_lem b l m e =
    let f = and_parts (eqb l.poc m.poc && eq_z (clip_mv b l.mv).x (clip_mv b m.mv).x) (eq_z (clip_mv b l.mv).y (clip_mv b m.mv).y) e in
    let g = and_parts (eqb l.poc m.poc) (eq_z (clip_mv b l.mv).x (clip_mv b m.mv).x) f.0 in
    record { count = eqb-true _ _ g.0; across = eq_z-true _ _ g.1; down = eq_z-true _ _ f.1 }

module _ (b : EvcBlock) (across : Allowed b.pic_w b.x b.w) (down : Allowed b.pic_h b.y b.h) where
  equal_reference : (p q : Picture) → Equal b p q → (c : Component) → reference_of (type_of c) b.pic_w b.pic_h (p c) ≡ reference_of (type_of c) b.pic_w b.pic_h (q c)
  equal_reference p q h c =
      let k = type_of c in
      let W = b.pic_w in
      let H = b.pic_h in
      fun_ext (λ (i : ℤ). fun_ext (λ (j : ℤ).
      reference_agree (sample_at k W (q c)) (side_of k W) (side_of k H) (sample_at k W (p c)) (some_side k W b.x b.w across) (some_side k H b.y b.h down) (h c) i j))

  equal_lists : (l m : EvcList) (p q : Picture) → SameMotion b l m → Equal b p q → (c : Component) (x y : ℕ) → general_list b l p c x y ≡ general_list b m q c x y
  unfolding clipped_place
  equal_lists l m p q same h c x y =
      ap (λ (s : ℤ → ℤ → ℕ). general (type_of c) s (clipped_place b l.mv).x.0 (clipped_place b l.mv).y.0 x y) (equal_reference p q h c)
      ∙ ap₂ (λ (u v : ℤ). general (type_of c) (reference_of (type_of c) b.pic_w b.pic_h (q c)) (pos 4 *ℤ pos b.x +ℤ u) (pos 4 *ℤ pos b.y +ℤ v) x y) same.across same.down

-- ---- the general filter

-- the samples d and e of the lists in use are the general filter's, f and g; these are one where list 0 alone stands
chosen : (u v same : Bool) (d e f g : ℕ) → (u ≡ true → d ≡ f) → (v ≡ true → e ≡ g) → (u ≡ true → v ≡ true → same ≡ true → f ≡ g) → u || v ≡ true
    → cond (u && v && not same) (average d e) (cond u d e) ≡ cond (u && v) (rounded_average f g) (cond u f g)
chosen true true true d e f g p q r some = let a = p refl in let b = r refl refl refl in omega arith
chosen true true false d e f g p q r some = ap₂ average (p refl) (q refl)
chosen true false same d e f g p q r some = p refl
chosen false true same d e f g p q r some = q refl
chosen false false same d e f g p q r some = absurd (subst T (sym some) tt)

pub general_filter : GeneralFilter
unfolding first_sample is_bi
general_filter k given done c x y lx ly =
    let b = k.block in
    let l = k.l0 in
    let m = k.l1 in
    let a = accepted_call b l m k.pred0 k.pred1 done in
    let o = allowed_block b a.block in
    sample_is k done c x y lx ly
    ∙ chosen l.list.used m.list.used (same_motion b l.list m.list) (list_sample b l c y x) (list_sample b m c y x)
    (general_list b l.list k.picture0 c x y) (general_list b m.list k.picture1 c x y)
    (λ u. list_general b o.0 o.1 l k.picture0 given.made0 u c x y lx ly)
    (λ v. list_general b o.0 o.1 m k.picture1 given.made1 v c x y lx ly)
    (λ u v e.
    let s = same_motion_lem b l.list m.list e in
    equal_lists b o.0 o.1 l.list m.list k.picture0 k.picture1 s (given.counts u v s.count) c x y)
    a.some

-- ---- the mirrors

abbrev AskedOf : Call → Type 0
AskedOf k = Asked k.block k.l0 k.l1 k.pred0 k.pred1

-- the mirrored call has it too, if its block is accepted
asked_mirror : (turn : EvcMv → EvcMv) (Turned : Picture → Picture → Type 0) (place : EvcBlock) (k m : Call) → Mirrored turn Turned place k m → first_of (block_checks place) ≡ 0 → AskedOf k → AskedOf m
asked_mirror turn Turned place k m mirror at a =
    let l0 = mirror.list0 in
    let l1 = mirror.list1 in
    record {
      block = subst (λ (b : EvcBlock). first_of (block_checks b) ≡ 0) (sym mirror.block) at;
      some = ap₂ (λ (u v : Bool). u || v) l0.used l1.used ∙ a.some;
      count0 = λ u. let v = sym l0.used ∙ u in subst (λ (n : ℕ). n ≤ max_poc) (sym (l0.poc v)) (a.count0 v);
      count1 = λ u. let v = sym l1.used ∙ u in subst (λ (n : ℕ). n ≤ max_poc) (sym (l1.poc v)) (a.count1 v);
      long0 = mirror.long0;
      long1 = mirror.long1;
    }

asked : (k : Call) → Accepted k → AskedOf k
asked k done = accepted_call k.block k.l0 k.l1 k.pred0 k.pred1 done

-- either mirror
module _ (turn : EvcMv → EvcMv) (Turned : Picture → Picture → Type 0) (place : EvcBlock) (k m : Call) (known : Premises k) (done : Accepted k) (mirror : Mirrored turn Turned place k m)
    (block : first_of (block_checks k.block) ≡ 0 → first_of (block_checks place) ≡ 0)
    (equal : (p p' q q' : Picture) → Turned p q → Turned p' q' → Equal k.block p p' → Equal place q q') where
  premises : Premises m
  premises = mirrored_premises turn Turned place k m mirror equal known

  mirror_accepted : Accepted m
  mirror_accepted =
      accepts_call m.block m.l0 m.l1 m.pred0 m.pred1 m.picture0 m.picture1 premises.made0 premises.made1
      (asked_mirror turn Turned place k m mirror (block (asked k done).block) (asked k done))

  mirror_samples : (c : Component) (x y x' y' : ℕ) → x < width_of place c → y < height_of place c → x' < width_of k.block c → y' < height_of k.block c
      → ((l n : EvcList) (p q : Picture) → n.mv ≡ turn l.mv → Turned p q → general_list place n q c x y ≡ general_list k.block l p c x' y')
      → sample m c x y ≡ sample k c x' y'
  mirror_samples c x y x' y' lx ly lx' ly' lists =
      let at = sym mirror.block in
      general_filter m premises mirror_accepted c x y (subst (λ (b : EvcBlock). x < width_of b c) at lx) (subst (λ (b : EvcBlock). y < height_of b c) at ly)
      ∙ mirrored_sample turn Turned place k m mirror c x y x' y' (asked k done).some lists
      ∙ sym (general_filter k known done c x' y' lx' ly')

pub left_right : LeftRight
left_right k m known done mirror =
    let b = k.block in
    let a = allowed_block b (asked k done).block in
    let block = block_left_right_lem b in
    let equal = equal_left_right b in (
      mirror_accepted mv_left_right (PictureLeftRight b) (block_left_right b) k m known done mirror block equal,
      reports_left_right (PictureLeftRight b) k m a.0 a.1 done (mirror_accepted mv_left_right (PictureLeftRight b) (block_left_right b) k m known done mirror block equal) mirror,
      λ c x x' y e ly.
          mirror_samples mv_left_right (PictureLeftRight b) (block_left_right b) k m known done mirror block equal c x y x' y (omega arith) ly (omega arith) ly
          (λ l n p q v t. list_left_right b a.0 a.1 l n p q v t c x x' y e),
    )

pub top_bottom : TopBottom
top_bottom k m known done mirror =
    let b = k.block in
    let a = allowed_block b (asked k done).block in
    let block = block_top_bottom_lem b in
    let equal = equal_top_bottom b in (
      mirror_accepted mv_top_bottom (PictureTopBottom b) (block_top_bottom b) k m known done mirror block equal,
      reports_top_bottom (PictureTopBottom b) k m a.0 a.1 done (mirror_accepted mv_top_bottom (PictureTopBottom b) (block_top_bottom b) k m known done mirror block equal) mirror,
      λ c x y y' lx e.
          mirror_samples mv_top_bottom (PictureTopBottom b) (block_top_bottom b) k m known done mirror block equal c x y x y' lx (omega arith) lx (omega arith)
          (λ l n p q v t. list_top_bottom b a.0 a.1 l n p q v t c x y y' e),
    )

-- ---- the exchange

swapped : (u v : Bool) (f g : ℕ) → u || v ≡ true → cond (v && u) (rounded_average g f) (cond v g f) ≡ cond (u && v) (rounded_average f g) (cond u f g)
swapped true true f g e = omega arith
swapped true false f g e = refl
swapped false true f g e = refl
swapped false false f g e = absurd (subst T (sym e) tt)

exchanged_premises : (k : Call) (pred0 pred1 : List ℕ) → Premises k → Premises (exchanged k pred0 pred1)
exchanged_premises k pred0 pred1 given =
    record {
      made0 = given.made1;
      made1 = given.made0;
      counts = λ u v e c i j li lj. sym (given.counts v u (sym e) c i j li lj);
    }

pub exchange : Exchange
exchange k pred0 pred1 given done long0 long1 =
    let b = k.block in
    let a = accepted_call b k.l0 k.l1 k.pred0 k.pred1 done in
    let yes : Accepted (exchanged k pred0 pred1) =
    accepts_call b k.l1 k.l0 pred0 pred1 k.picture1 k.picture0 given.made1 given.made0
    (record {
      block = a.block;
      some = or_comm k.l1.list.used k.l0.list.used ∙ a.some;
      count0 = a.count1;
      count1 = a.count0;
      long0 = long0;
      long1 = long1;
    }) in (
      yes,
      reports_exchanged k (exchanged k pred0 pred1) done yes refl refl refl,
      λ c x y lx ly.
          general_filter (exchanged k pred0 pred1) (exchanged_premises k pred0 pred1 given) yes c x y lx ly
          ∙ swapped k.l0.list.used k.l1.list.used _ _ a.some
          ∙ sym (general_filter k given done c x y lx ly),
    )

-- ---- demand 3

pub demand3 : Demand3
demand3 = (general_filter, left_right, top_bottom, exchange)
