-- What records leave as it was, one after another: lengths, and every sample outside their blocks, so all borders. Assumes nothing.
use mathlib.Core.Bool.{Bool, true, false, cond}
use mathlib.Core.List.{List, [], ◌∷◌}
use mathlib.Core.Logic.{⊎_elim, inl, inr}
use mathlib.Core.Path.{◌≡◌, refl, sym, ap, subst, ◌∙◌}
use Prim.Native.Nat.{ℕ, zero, suc, ◌+◌, ◌*◌, ◌<◌, ◌≤◌}
use native.Mathlib.Omega.{arith}
use lib.Dec.{T, eqb, eqb→eq}
use lib.ListN.{length, get_or}
use Rattle.evc_int.specs.Lists.{with_block}
use Rattle.evc_int.proofs.Lists.{with_row-out, row_fits}
use Rattle.evc_def.specs.Blocks.{bad_picture}
use Rattle.evc_def.specs.Codes.{first_of, block_checks}
use Rattle.evc_def.specs.declared.EvcBlock.{EvcBlock}
use Rattle.evc_def.proofs.Blocks.{allowed_block}
use Rattle.evc_plane.specs.Planes.{side_of, pad_of, origin_of, stride_of, plane_len, config_of}
use Rattle.evc_plane.proofs.Sizes.{sizes, rows}
use Rattle.evc_mc.specs.Block.{Component, luma, cb, cr, type_of, width_of, height_of}
use Rattle.evc_mc.proofs.Checks.{accepts}
use Rattle.evc_trace.specs.Format.{count_len, record_of}
use Rattle.evc_record.specs.Record.{Planes, Source, motion, ref_list0, ref_list1, blank, block_of, form_code, block_code, record_code, step_of, place_in, with_picture, plane_after, target_after}
use Rattle.evc_replay.specs.Replay.{Replayed, applied}
use Rattle.evc_record.proofs.Places.{halves, picture_length}
use Rattle.evc_replay.proofs.Records.{both_zero}
use Rattle.evc_trace_law.specs.Replays.{plane_in, OutsideRows, OutsideBlock, OutsidePicture}

-- ---- one record

rows_outside : (l : List ℕ) (at stride n h : ℕ) (f : ℕ → ℕ → ℕ) (i : ℕ) → OutsideRows at stride n h i → get_or (with_block l at stride n h f) i 0 ≡ get_or l i 0
unfolding with_block
rows_outside l at stride n zero f i o = refl
rows_outside l at stride n (suc h) f i o =
    with_row-out 0 (with_block l at stride n h f) (at + h * stride) n (f h) i (o h (omega arith)) ∙ rows_outside l at stride n h f i (λ y b. o y (omega arith))

picture_outside : (b : EvcBlock) (c : Component) (f : ℕ → ℕ → ℕ) (p : List ℕ) (i : ℕ) → OutsideBlock b c i → get_or (with_picture b c f p) i 0 ≡ get_or p i 0
unfolding with_picture
picture_outside b c f p i o = rows_outside p (place_in (type_of c) b) (stride_of (type_of c) b.pic_w) (width_of b c) (height_of b c) f i o

module _ (e : Source) (s : List ℕ) (t : Planes) where
  plane_after_lem : (c : Component) → plane_in c (target_after e s t) ≡ plane_after e s c (plane_in c t)
  unfolding target_after
  plane_after_lem luma = refl
  plane_after_lem cb = refl
  plane_after_lem cr = refl

  step_outside : (c : Component) (i : ℕ) → OutsideBlock (step_of e s).block c i → get_or (plane_in c (target_after e s t)) i 0 ≡ get_or (plane_in c t) i 0
  unfolding plane_after
  step_outside c i o = ap (λ (l : List ℕ). get_or l i 0) (plane_after_lem c) ∙ picture_outside (step_of e s).block c ((step_of e s).sample c) (plane_in c t) i o

  step_length : (c : Component) → length (plane_in c (target_after e s t)) ≡ length (plane_in c t)
  unfolding plane_after
  step_length c = ap length (plane_after_lem c) ∙ picture_length (step_of e s).block c ((step_of e s).sample c) (plane_in c t)

-- ---- the records of a list, k before them

pub applied_length : (e : Source) (rs : List (List ℕ)) (k : ℕ) (t : Planes) (c : Component) → length (plane_in c (applied e rs k t).target) ≡ length (plane_in c t)
unfolding applied
applied_length e [] k t c = refl
applied_length e (s ∷ rs) k t c = go (eqb (record_code e s) 0) (applied e rs (k + 1) (target_after e s t)) (applied_length e rs (k + 1) (target_after e s t) c ∙ step_length e s t c)
  where
    go : (b : Bool) (x : Replayed) → length (plane_in c x.target) ≡ length (plane_in c t) → length (plane_in c (cond b x (record { answer = record { code = record_code e s; index = k }; target = t })).target) ≡ length (plane_in c t)
    go true x h = h
    go false x h = refl

index_from : (e : Source) (rs : List (List ℕ)) (k : ℕ) (t : Planes) → k ≤ (applied e rs k t).answer.index
unfolding applied
index_from e [] k t = omega arith
index_from e (s ∷ rs) k t = go (eqb (record_code e s) 0) (applied e rs (k + 1) (target_after e s t)) (index_from e rs (k + 1) (target_after e s t))
  where
    go : (b : Bool) (x : Replayed) → k + 1 ≤ x.answer.index → k ≤ (cond b x (record { answer = record { code = record_code e s; index = k }; target = t })).answer.index
    go true x h = omega arith
    go false x h = omega arith

-- a finished record was not refused
pub finished : (e : Source) (rs : List (List ℕ)) (k : ℕ) (t : Planes) (j : ℕ) → k + j < (applied e rs k t).answer.index → record_code e (get_or rs j []) ≡ 0
unfolding applied
finished e [] k t j l = absurd (omega arith)
finished e (s ∷ rs) k t j l = go (eqb (record_code e s) 0) refl (applied e rs (k + 1) (target_after e s t)) j (λ i. finished e rs (k + 1) (target_after e s t) i) l
  where
    go : (b : Bool) → eqb (record_code e s) 0 ≡ b → (x : Replayed) (j : ℕ) → ((i : ℕ) → k + 1 + i < x.answer.index → record_code e (get_or rs i []) ≡ 0)
        → k + j < (cond b x (record { answer = record { code = record_code e s; index = k }; target = t })).answer.index → record_code e (get_or (s ∷ rs) j []) ≡ 0
    go true z x zero more l = eqb→eq _ 0 (subst T (sym z) tt)
    go true z x (suc j) more l = more j (omega arith)
    go false z x j more l = absurd (omega arith)

pub outside_kept : (e : Source) (rs : List (List ℕ)) (k : ℕ) (t : Planes) (c : Component) (i : ℕ)
    → ((j : ℕ) → k + j < (applied e rs k t).answer.index → OutsideBlock (step_of e (get_or rs j [])).block c i) → get_or (plane_in c (applied e rs k t).target) i 0 ≡ get_or (plane_in c t) i 0
unfolding applied
outside_kept e [] k t c i o = refl
outside_kept e (s ∷ rs) k t c i o = go (eqb (record_code e s) 0) (applied e rs (k + 1) (target_after e s t)) (outside_kept e rs (k + 1) (target_after e s t) c i) (index_from e rs (k + 1) (target_after e s t)) o
  where
    go : (b : Bool) (x : Replayed) → (((j : ℕ) → k + 1 + j < x.answer.index → OutsideBlock (step_of e (get_or rs j [])).block c i) → get_or (plane_in c x.target) i 0 ≡ get_or (plane_in c (target_after e s t)) i 0)
        → k + 1 ≤ x.answer.index
        → ((j : ℕ) → k + j < (cond b x (record { answer = record { code = record_code e s; index = k }; target = t })).answer.index → OutsideBlock (step_of e (get_or (s ∷ rs) j [])).block c i)
        → get_or (plane_in c (cond b x (record { answer = record { code = record_code e s; index = k }; target = t })).target) i 0 ≡ get_or (plane_in c t) i 0
    go true x more l o = more (λ j h. o (suc j) (omega arith)) ∙ step_outside e s t c i (o 0 (omega arith))
    go false x more l o = refl

-- ---- a block lies in its picture

pub accepted_block : (e : Source) (s : List ℕ) → record_code e s ≡ 0 → first_of (block_checks (step_of e s).block) ≡ 0
unfolding record_code block_code
accepted_block e s z =
    let r = record_of count_len s in
    let later = (both_zero (form_code s) _ z).1 in
    (accepts (block_of e.header r) (ref_list0 e r) (ref_list1 e r) blank blank (both_zero (motion e r).code _ later).1).block

pub block_inside : (b : EvcBlock) → first_of (block_checks b) ≡ 0 → (c : Component) (i : ℕ) → OutsidePicture b.pic_w b.pic_h c i → OutsideBlock b c i
block_inside b g c i o y l =
    let k = type_of c in
    let a = allowed_block b g in
    let across = halves k b.pic_w b.x b.w a.0.inside in
    let down = halves k b.pic_h b.y b.h a.1.inside in
    let e = same_row (pad_of k) (side_of k b.y) y (stride_of k b.pic_w) (origin_of k) (side_of k b.x) in
    ⊎_elim (λ h. inl (omega arith)) (λ h. inr (omega arith)) (o (side_of k b.y + y) (omega arith))
  where
    same_row : (pad place y stride origin column : ℕ) → (pad + place) * stride + (origin + column) + y * stride ≡ pad * stride + origin + (place + y) * stride + column
    same_row pad place y stride origin column = omega arith

pub excess_outside : (W H : ℕ) → bad_picture W H ≡ false → (c : Component) (i : ℕ) → plane_len (type_of c) W H ≤ i → OutsidePicture W H c i
unfolding config_of
excess_outside W H g c i l y h =
    let k = type_of c in
    let z = sizes k W H g in
    let r = rows (config_of k W H) z in
    inr (omega (arith, z.across, r.len, r.pad_row, row_fits (stride_of k W) h))
