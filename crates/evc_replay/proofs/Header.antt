-- The checks before the first record, and what follows them. Assumes nothing.
use mathlib.Core.Bool.{Bool, true, false, not, ◌&&◌, ◌||◌}
use mathlib.Core.List.{List}
use mathlib.Core.Path.{◌≡◌, sym, ◌∙◌}
use Prim.Native.Nat.{ℕ, ◌≤◌, ◌<◌}
use native.Mathlib.Omega.{arith}
use borrow.Author.Tests.{ne_eqb, lt-ltb, le-ltb, ltb-false}
use lib.IntN.{ℤ}
use lib.ListN.{length}
use Rattle.std.proofs.lemmas.Bool.{or_parts}
use Rattle.evc_def.specs.Blocks.{bad_picture}
use Rattle.evc_def.specs.Codes.{first_of, picture_checks}
use Rattle.evc_def.specs.Refusals.{number_of}
use Rattle.evc_def.specs.declared.refusal.Refusal.{Refusal}
use Rattle.evc_def.proofs.Codes.{refused, passed, none, accepted, stops}
use Rattle.evc_def.proofs.Refusals.{not_0}
use Rattle.evc_mc.specs.Block.{planes_short}
use Rattle.evc_map.specs.Maps.{map_short}
use Rattle.evc_trace.specs.Format.{version, is_trace, header_of}
use Rattle.evc_trace.specs.declared.TraceHeader.{TraceHeader}
use Rattle.evc_record.specs.Record.{Planes, source, picture_short}
use Rattle.evc_counts.specs.Counts.{nothing_counted}
use Rattle.evc_counts.specs.declared.MovedCounts.{MovedCounts}
use Rattle.evc_replay.specs.Counts.{finished, counted_over, replayed_counts}
use Rattle.evc_replay.specs.Replay.{header_code, Replayed, records_from, applied, replayed}

-- 4: "every lent plane and map"
abbrev pub short : TraceHeader → Planes → Planes → Planes → Bool → List ℤ → Bool
short h p q t has col = picture_short h.pic_w h.pic_h p || picture_short h.pic_w h.pic_h q || picture_short h.pic_w h.pic_h t || has && map_short h.pic_w h.pic_h (length col)

-- the test of the code is that of the definition
pub tested : (h : TraceHeader) (p q t : Planes) (has : Bool) (col : List ℤ) (a b c d : Bool) → a ≡ planes_short h.pic_w h.pic_h p.y p.u p.v → b ≡ planes_short h.pic_w h.pic_h q.y q.u q.v
    → c ≡ planes_short h.pic_w h.pic_h t.y t.u t.v → d ≡ (has && map_short h.pic_w h.pic_h (length col)) → (a || b || c || d) ≡ short h p q t has col
unfolding picture_short
tested h p q t has col a b c d e₀ e₁ e₂ e₃ = rw (e₀, e₁, e₂, e₃)

module _ (s : List ℕ) (p q : Planes) (has : Bool) (col : List ℤ) (t : Planes) where
  pub code_11 : length s < 13 → 11 ≡ header_code s p q has col t
  unfolding header_code
  code_11 l = sym (refused _ _ _ (lt-ltb _ _ l))

  module _ (l : 13 ≤ length s) where
    pub code_10 : not (is_trace version s) ≡ true → 10 ≡ header_code s p q has col t
    unfolding header_code
    code_10 e = sym (passed _ _ _ (le-ltb _ _ l) ∙ refused _ _ _ e)

    module _ (m : not (is_trace version s) ≡ false) (h : TraceHeader) (eh : header_of 2 s ≡ h) where
      pub picture : (r : Refusal) → number_of r ≡ first_of (picture_checks h.pic_w h.pic_h) → number_of r ≡ header_code s p q has col t
      unfolding header_code
      picture r e = rw eh (e ∙ sym (stops (picture_checks h.pic_w h.pic_h) _ (λ z. not_0 r (e ∙ z))) ∙ sym (passed _ _ _ (le-ltb _ _ l) ∙ passed _ _ _ m))

      module _ (g : bad_picture h.pic_w h.pic_h ≡ false) where
        pub code_4 : short h p q t has col ≡ true → 4 ≡ header_code s p q has col t
        unfolding header_code
        code_4 e = rw eh (sym (passed _ _ _ (le-ltb _ _ l) ∙ passed _ _ _ m ∙ passed _ _ _ g ∙ refused _ _ _ e))

        pub code_0 : short h p q t has col ≡ false → 0 ≡ header_code s p q has col t
        unfolding header_code
        code_0 e = rw eh (sym (passed _ _ _ (le-ltb _ _ l) ∙ passed _ _ _ m ∙ passed _ _ _ g ∙ passed _ _ _ e ∙ none))

  -- what an accepted header leaves
  pub good_header : header_code s p q has col t ≡ 0 → (13 ≤ length s) × (picture_short (header_of 2 s).pic_w (header_of 2 s).pic_h t ≡ false)
  unfolding header_code
  good_header e =
      let a = accepted 11 _ _ (omega arith) e in
      let b = accepted 10 _ _ (omega arith) a.1 in
      let c = accepted 1 _ _ (omega arith) b.1 in
      let d = accepted 4 _ _ (omega arith) c.1 in
      let W = (header_of 2 s).pic_w in
      let H = (header_of 2 s).pic_h in
      let f = or_parts (picture_short W H p || picture_short W H q || picture_short W H t) (has && map_short W H (length col)) d.0 in
      (ltb-false _ _ a.0, (or_parts (picture_short W H p || picture_short W H q) (picture_short W H t) f.0).1)

  pub not_begun : (c : ℕ) → c ≡ header_code s p q has col t → (c ≡ 0 → ⊥) → record { answer = record { code = c; index = 0 }; target = t } ≡ replayed s p q has col t
  unfolding replayed
  not_begun c e n = rw (sym e, ne_eqb c 0 n)

  pub begun : (h : TraceHeader) (x : Replayed) → header_code s p q has col t ≡ 0 → header_of 2 s ≡ h → x ≡ applied (source h p q has col) (records_from s 13) 0 t → x ≡ replayed s p q has col t
  unfolding replayed
  begun h x z eh e = rw (z, eh) e

  pub nothing_counted_lem : (c : ℕ) → c ≡ header_code s p q has col t → (c ≡ 0 → ⊥) → nothing_counted ≡ replayed_counts s p q has col t
  unfolding replayed_counts
  nothing_counted_lem c e n = rw (sym e, ne_eqb c 0 n)

  pub counted : (h : TraceHeader) (c : MovedCounts) → header_code s p q has col t ≡ 0 → header_of 2 s ≡ h → (let e = source h p q has col in c ≡ counted_over e (finished e (records_from s 13))) → c ≡ replayed_counts s p q has col t
  unfolding replayed_counts
  counted h c z eh e = rw (z, eh) e
