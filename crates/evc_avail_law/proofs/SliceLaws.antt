-- W5's laws. Assumes nothing.
use mathlib.Core.Bool.{Bool, true, false, cond, and-false}
use mathlib.Core.List.{List, [], ◌∷◌, map}
use mathlib.Core.Logic.{⊎_elim}
use mathlib.Core.Path.{◌≡◌, refl, sym, ap, ◌∙◌}
use Prim.Native.Nat.{ℕ, zero, suc, ◌≤◌, ◌<◌}
use native.Mathlib.Omega.{arith}
use borrow.Author.Tests.{eqb-true, eqb-false, le-ltb}
use lib.Dec.{eqb}
use lib.ListN.{length, length-map}
use Rattle.evc_def.specs.Blocks.{bad_picture, bad_block}
use Rattle.evc_def.specs.Codes.{first_of}
use Rattle.evc_def.specs.declared.EvcBlock.{EvcBlock}
use Rattle.evc_def.proofs.Codes.{stops, goes_on, passed, none}
use Rattle.evc_map.specs.Maps.{word_at}
use Rattle.evc_avail.specs.Around.{index_of}
use Rattle.evc_avail.specs.Flags.{of_picture, is_inter_in, is_not_intra_in, avail_left_in, avail_right_in, avail_up_in, avail_of, answered, avail_checks, get_avail_inter}
use Rattle.evc_avail.specs.Slices.{of_slice, max_slice_num, slice_checks, get_avail_inter_slice}
use Rattle.evc_avail_law.specs.SliceLaws.{column_of, row_of, word_beside, TwoSlices, OneSlice, OtherSlices, intra_outside, AsIntra, Unread, SliceLaws}
use Rattle.evc_avail.proofs.Around.{unit_below}
use Rattle.evc_avail.proofs.Answers.{covers}
use Rattle.evc_avail_law.proofs.Candidates.{inside, within_slice}
use Rattle.evc_avail_law.proofs.Units.{Alike, same_flags}

two_slices_lem : TwoSlices
unfolding get_avail_inter_slice get_avail_inter avail_of avail_left_in avail_right_in avail_up_in is_inter_in is_not_intra_in first_of bad_picture bad_block
two_slices_lem = (refl, refl, refl, refl)

-- ---- numbers

-- a slice number that is allowed leaves the old call's checks
old_code : (b : EvcBlock) (slice words : ℕ) → slice ≤ max_slice_num → first_of (slice_checks b slice words) ≡ first_of (avail_checks b words)
old_code b slice words l = by_test (eqb (first_of (avail_checks b words)) 0) refl
  where
    by_test : (t : Bool) → eqb (first_of (avail_checks b words)) 0 ≡ t → first_of (slice_checks b slice words) ≡ first_of (avail_checks b words)
    by_test true e =
        let z = eqb-true _ 0 e in
        goes_on 0 (avail_checks b words) _ tt z ∙ passed _ _ _ (le-ltb max_slice_num slice l) ∙ none ∙ sym z
    by_test false e = stops (avail_checks b words) _ (eqb-false _ 0 e)

-- the flags count where no check refuses
same_answer : (code a a' : ℕ) → (code ≡ 0 → a ≡ a') → answered code a ≡ answered code a'
same_answer code a a' h = by_test (eqb code 0) refl
  where
    by_test : (t : Bool) → eqb code 0 ≡ t → answered code a ≡ answered code a'
    by_test true e = rw (h (eqb-true code 0 e))
    by_test false e = rw e

-- ---- all or none of the block's slice

one_slice : OneSlice
unfolding get_avail_inter_slice get_avail_inter
one_slice b slice words l a =
    ap (λ (code : ℕ). answered code (avail_of (of_slice slice) b words)) (old_code b slice (length words) l)
    ∙ same_answer _ _ _ (λ e. same_flags (of_slice slice) of_picture b words words (λ k t. record { inter = rw (a k t); not_intra = rw (a k t) }))

none_counts : (b : EvcBlock) (words : List ℕ) → avail_of (λ (word : ℕ). false) b words ≡ 0
unfolding avail_of avail_left_in avail_right_in avail_up_in is_inter_in is_not_intra_in
none_counts b words = simp and-false

other_slices : OtherSlices
unfolding get_avail_inter_slice
other_slices b slice words a =
    ap (λ (avail : ℕ). (answered (first_of (slice_checks b slice (length words))) avail).avail)
    (same_flags (of_slice slice) (λ (word : ℕ). false) b words words (λ k t. record { inter = rw (a k t); not_intra = rw (a k t) }) ∙ none_counts b words)
    ∙ zero_either (eqb (first_of (slice_checks b slice (length words))) 0)
  where
    zero_either : (t : Bool) → cond {A = ℕ} t 0 0 ≡ 0
    zero_either true = refl
    zero_either false = refl

-- ---- another slice as intra

map_at : (f : ℕ → ℕ) (words : List ℕ) (i : ℕ) → i < length words → word_at (map f words) i ≡ f (word_at words i)
map_at f [] i l = absurd (omega arith)
map_at f (word ∷ words) zero l = refl
map_at f (word ∷ words) (suc i) l = map_at f words i (omega arith)

intra_alike : (slice v : ℕ) → Alike (of_slice slice) of_picture v (intra_outside slice v)
intra_alike slice v = by_test (of_slice slice v) refl
  where
    by_test : (t : Bool) → of_slice slice v ≡ t → Alike (of_slice slice) of_picture v (intra_outside slice v)
    by_test true e = record { inter = rw e; not_intra = rw e }
    by_test false e = record { inter = rw e; not_intra = rw e }

as_intra : AsIntra
unfolding get_avail_inter_slice get_avail_inter
as_intra b slice words l =
    let words' = map (intra_outside slice) words in
    let long = length-map words (intra_outside slice) in
    ap (λ (code : ℕ). answered code (avail_of (of_slice slice) b words)) (old_code b slice (length words) l ∙ ap (λ (n : ℕ). first_of (avail_checks b n)) (sym long))
    ∙ same_answer _ _ _ (λ e.
    let k = (covers b (length words) (ap (λ (n : ℕ). first_of (avail_checks b n)) (sym long) ∙ e)).0 in
    same_flags (of_slice slice) of_picture b words words' (λ n t.
    let i = unit_below b (column_of b n) (row_of b n) t in
    rw (map_at (intra_outside slice) words (index_of b (column_of b n) (row_of b n)) (omega arith)) (intra_alike slice (word_beside b words n))))

-- ---- what is not read

unread : Unread
unfolding get_avail_inter_slice
unread b slice words words' c a =
    ap (λ (code : ℕ). answered code (avail_of (of_slice slice) b words)) c
    ∙ same_answer _ _ _ (λ e. same_flags (of_slice slice) (of_slice slice) b words words' (λ k t. ⊎_elim
    (λ s. record { inter = rw s; not_intra = rw s })
    (λ o. record { inter = rw (o.0, o.1); not_intra = rw (o.0, o.1) })
    (a k t)))

pub slice_laws : SliceLaws
slice_laws = (two_slices_lem, one_slice, other_slices, as_intra, unread, inside, within_slice)
