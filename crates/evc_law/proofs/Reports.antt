-- The reports of W2: what they say of a vector; of a mirrored call, and of one with its lists exchanged. Assumes nothing.
use mathlib.Core.Bool.{Bool, true, false, cond}
use mathlib.Core.Path.{◌≡◌, refl, sym, ap, ap₂, ◌∙◌}
use Prim.Native.Nat.{◌-◌}
use native.Mathlib.Omega.{arith}
use lib.IntN.{ℤ}
use Rattle.evc_def.specs.Blocks.{Allowed}
use Rattle.evc_def.specs.declared.EvcBlock.{EvcBlock}
use Rattle.evc_def.specs.declared.EvcMv.{EvcMv}
use Rattle.evc_clip.specs.Clip.{nothing_moved, clip_mv, moved_mv}
use Rattle.evc_clip.specs.declared.EvcMoved.{EvcMoved}
use Rattle.evc_clip.proofs.Laws.{unreported_kept, kept_unreported, moved_mirror}
use Rattle.evc_mc.specs.Block.{RefPicList, list_moved}
use Rattle.evc_law.specs.Demand3.{Picture, Call, answer, Accepted, block_left_right, block_top_bottom, mv_left_right, mv_top_bottom, ListMirrored, Mirrored, moved_left_right, moved_top_bottom, ReportsMirrored, ReportsExchanged}
use Rattle.evc_law.specs.Invisible.{Unclipped}
use Rattle.evc_law.specs.Reports.{ReportedIfChanged, ReportedIfClipped, Reports}

-- ---- what a report says of a vector

changed : ReportedIfChanged
changed W x w mv = (unreported_kept W x w mv, kept_unreported W x w mv)

clipped : ReportedIfClipped
unfolding list_moved moved_mv clip_mv
clipped b l = (unmoved, unclipped)
  where
    vector : (p q : ℤ) (mv : EvcMv) → p ≡ mv.x → q ≡ mv.y → record { x = p; y = q } ≡ mv
    vector p q mv e f = rw (e, f)

    unmoved : list_moved b l ≡ nothing_moved → Unclipped b l
    unmoved e u =
        let m : moved_mv b l.mv ≡ nothing_moved = rw u at e in
        vector _ _ l.mv (unreported_kept _ _ _ _ (ap (λ (r : EvcMoved). r.x) m)) (unreported_kept _ _ _ _ (ap (λ (r : EvcMoved). r.y) m))

    by_use : (u : Bool) → (u ≡ true → clip_mv b l.mv ≡ l.mv) → cond u (moved_mv b l.mv) nothing_moved ≡ nothing_moved
    by_use false h = refl
    by_use true h =
        let e = h refl in
        rw (kept_unreported b.pic_w b.x b.w l.mv.x (ap (λ (mv : EvcMv). mv.x) e), kept_unreported b.pic_h b.y b.h l.mv.y (ap (λ (mv : EvcMv). mv.y) e))

    unclipped : Unclipped b l → list_moved b l ≡ nothing_moved
    unclipped h = by_use l.used h

pub reports : Reports
reports = (changed, clipped)

-- ---- the reports of an accepted call are its lists' own

reported : (k : Call) → Accepted k → ((answer k).moved0 ≡ list_moved k.block k.l0.list) × ((answer k).moved1 ≡ list_moved k.block k.l1.list)
reported k done = rw done (refl, refl)

-- ---- the mirrors

list_mirrored : (turn : EvcMv → EvcMv) (turned : EvcMoved → EvcMoved) (Turned : Picture → Picture → Type 0) (b place : EvcBlock) (l m : RefPicList) (p q : Picture) → ListMirrored turn Turned place l p m q
    → turned nothing_moved ≡ nothing_moved → ((mv : EvcMv) → moved_mv place (turn mv) ≡ turned (moved_mv b mv)) → list_moved place m.list ≡ turned (list_moved b l.list)
unfolding list_moved
list_mirrored turn turned Turned b place l m p q mirror none vectors = rw mirror.used (go l.list.used mirror.mv)
  where
    go : (u : Bool) → (u ≡ true → m.list.mv ≡ turn l.list.mv) → cond u (moved_mv place m.list.mv) nothing_moved ≡ turned (cond u (moved_mv b l.list.mv) nothing_moved)
    go true e = ap (moved_mv place) (e refl) ∙ vectors l.list.mv
    go false e = sym none

mirrored : (turn : EvcMv → EvcMv) (turned : EvcMoved → EvcMoved) (Turned : Picture → Picture → Type 0) (place : EvcBlock) (k m : Call) → Accepted k → Accepted m → Mirrored turn Turned place k m
    → turned nothing_moved ≡ nothing_moved → ((mv : EvcMv) → moved_mv place (turn mv) ≡ turned (moved_mv k.block mv)) → ReportsMirrored turned k m
mirrored turn turned Turned place k m done done' mirror none vectors =
    let r = reported k done in
    let r' = reported m done' in (
      r'.0 ∙ ap (λ (b : EvcBlock). list_moved b m.l0.list) mirror.block ∙ list_mirrored turn turned Turned k.block place k.l0 m.l0 k.picture0 m.picture0 mirror.list0 none vectors ∙ ap turned (sym r.0),
      r'.1 ∙ ap (λ (b : EvcBlock). list_moved b m.l1.list) mirror.block ∙ list_mirrored turn turned Turned k.block place k.l1 m.l1 k.picture1 m.picture1 mirror.list1 none vectors ∙ ap turned (sym r.1),
    )

module _ (b : EvcBlock) (across : Allowed b.pic_w b.x b.w) (down : Allowed b.pic_h b.y b.h) where
  vectors_left_right : (mv : EvcMv) → moved_mv (block_left_right b) (mv_left_right mv) ≡ moved_left_right (moved_mv b mv)
  unfolding moved_mv
  vectors_left_right mv = rw (moved_mirror b.pic_w b.x (b.pic_w - b.x - b.w) b.w mv.x (omega arith))

  vectors_top_bottom : (mv : EvcMv) → moved_mv (block_top_bottom b) (mv_top_bottom mv) ≡ moved_top_bottom (moved_mv b mv)
  unfolding moved_mv
  vectors_top_bottom mv = rw (moved_mirror b.pic_h b.y (b.pic_h - b.y - b.h) b.h mv.y (omega arith))

pub reports_left_right : (Turned : Picture → Picture → Type 0) (k m : Call) → Allowed k.block.pic_w k.block.x k.block.w → Allowed k.block.pic_h k.block.y k.block.h
    → Accepted k → Accepted m → Mirrored mv_left_right Turned (block_left_right k.block) k m → ReportsMirrored moved_left_right k m
reports_left_right Turned k m across down done done' mirror = mirrored mv_left_right moved_left_right Turned (block_left_right k.block) k m done done' mirror refl (vectors_left_right k.block across down)

pub reports_top_bottom : (Turned : Picture → Picture → Type 0) (k m : Call) → Allowed k.block.pic_w k.block.x k.block.w → Allowed k.block.pic_h k.block.y k.block.h
    → Accepted k → Accepted m → Mirrored mv_top_bottom Turned (block_top_bottom k.block) k m → ReportsMirrored moved_top_bottom k m
reports_top_bottom Turned k m across down done done' mirror = mirrored mv_top_bottom moved_top_bottom Turned (block_top_bottom k.block) k m done done' mirror refl (vectors_top_bottom k.block across down)

-- ---- the exchange: the block stays

pub reports_exchanged : (k m : Call) → Accepted k → Accepted m → m.block ≡ k.block → m.l0 ≡ k.l1 → m.l1 ≡ k.l0 → ReportsExchanged k m
reports_exchanged k m done done' eb e0 e1 =
    let r = reported k done in
    let r' = reported m done' in (
      r'.0 ∙ ap₂ (λ (b : EvcBlock) (l : RefPicList). list_moved b l.list) eb e0 ∙ sym r.1,
      r'.1 ∙ ap₂ (λ (b : EvcBlock) (l : RefPicList). list_moved b l.list) eb e1 ∙ sym r.0,
    )
