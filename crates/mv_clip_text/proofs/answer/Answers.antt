-- `mv_clip_text::answer`: eight fields, in the document's order.
use Rattle.std.proofs.Common.{rules, ◌≡◌, ◌∙◌, sym, ap, List, ℕ, ℤ, w16, SFits, to_z-of_z}
use Rattle.evc_int.specs.LowBits.{signed16}
use Rattle.evc_clip.specs.declared.EvcClipped.{EvcClipped}
use Rattle.evc_clip.specs.Clip.{mv_clip}
use Rattle.mv_clip_text.specs.Records.{field, answer_at}
use Rattle.mv_clip_text.proofs.Laws.{negative_picture, negative_refused, small}
use Rattle.mv_clip_text.proofs.answer.Goals as goal

-- the record that is made is the one that the definition names
module _ (s : List ℕ) where
  answered : (x y W H w h : ℕ) (u v : ℤ) (r : EvcClipped) → x ≡ field s 0 0 → y ≡ field s 0 1 → W ≡ field s 0 2 → H ≡ field s 0 3 → w ≡ field s 0 4 → h ≡ field s 0 5 → u ≡ signed16 (field s 0 6) → v ≡ signed16 (field s 0 7) → r ≡ mv_clip (record { x = x; y = y; pic_w = W; pic_h = H; w = w; h = h }) (record { x = u; y = v }) → r ≡ answer_at s 0
  unfolding answer_at
  answered x y W H w h u v r e₀ e₁ e₂ e₃ e₄ e₅ e₆ e₇ e = e ∙ simp (e₀, e₁, e₂, e₃, e₄, e₅, e₆, e₇)

pub returns : goal.returns
returns c =
    let u : SFits w16 c.component.result = search rules in
    let v : SFits w16 c.component-2.result = search rules in
    let e : c.into.result ≡ answer_at c.args.record.now 0 =
    answered c.args.record.now _ _ _ _ _ _ _ _ _
    c.field.ensures c.field-2.ensures c.field-3.ensures c.field-4.ensures c.field-5.ensures c.field-6.ensures
    (to_z-of_z u ∙ c.component.ensures) (to_z-of_z v ∙ c.component-2.ensures)
    (c.into.ensures ∙ c.mv_clip.ensures) in
    record {
      value = e;
      negative_picture = λ h. e ∙ negative_picture _ _ h;
      negative = λ k l h z. negative_refused _ _ k l h (ap (λ (r : EvcClipped). r.code) (sym e) ∙ z);
      small = rw e (small _ _);
    }
