-- `mv_clip_text::put_signed`: a minus sign in front of the opposite number, or the number.
use Rattle.std.proofs.Common.{arith, subst, ◌≡◌, List, [], ◌∷◌, ◌++◌, ℕ, suc, ℤ, pos, negsuc, ◌-ℤ◌, ◌<ℤ◌, ◌≤ℤ◌}
use Rattle.std.proofs.lemmas.Int.{ints}
use Rattle.mv_clip_text.specs.Decimal.{decimal, signed_decimal}
use Rattle.mv_clip_text.specs.Inner.{Wrote}
use Rattle.mv_clip_text.proofs.Wrote.{wrote_both}
use Rattle.mv_clip_text.proofs.put_signed.Goals as goal

negative : (z : ℤ) (n : ℕ) → z <ℤ pos 0 → pos n ≡ pos 0 -ℤ z → (45 ∷ []) ++ decimal n ≡ signed_decimal z
unfolding signed_decimal
negative (pos m) n h e = absurd (omega (arith, ints))
negative (negsuc m) n h e = let f : n ≡ suc m = omega (arith, ints) in rw f

natural : (z : ℤ) (n : ℕ) → pos 0 ≤ℤ z → pos n ≡ z → decimal n ≡ signed_decimal z
unfolding signed_decimal
natural (pos m) n h e = let f : n ≡ m = omega (arith, ints) in rw f
natural (negsuc m) n h e = absurd (omega (arith, ints))

-- the two branches, where n is what was cast to unsigned
with_sign : {a b c : List ℕ} {at mid end : ℕ} {n : ℕ} (z : ℤ) → Wrote a b at mid (45 ∷ []) → Wrote b c mid end (decimal n) → z <ℤ pos 0 → pos n ≡ pos 0 -ℤ z → Wrote a c at end (signed_decimal z)
with_sign {a} {b} {c} {at} {mid} {end} {n} z p q h e = subst (Wrote a c at end) (negative z n h e) (wrote_both p q)

without_sign : {a b : List ℕ} {at end : ℕ} {n : ℕ} (z : ℤ) → Wrote a b at end (decimal n) → pos 0 ≤ℤ z → pos n ≡ z → Wrote a b at end (signed_decimal z)
without_sign {a} {b} {at} {end} {n} z p h e = subst (Wrote a b at end) (natural z n h e) p

pub returns-then-v-lt0-clause-wrote : goal.returns-then-v-lt0-clause-wrote
returns-then-v-lt0-clause-wrote c =
    let h : c.args.v <ℤ pos 0 = grind (arith, ints) in
    with_sign c.args.v c.put-digits.ensures c.put_decimal.ensures.wrote h (omega (arith, ints))

pub returns-clause-wrote : goal.returns-clause-wrote
returns-clause-wrote c =
    let h : pos 0 ≤ℤ c.args.v = grind (arith, ints) in
    without_sign c.args.v c.put_decimal-2.ensures.wrote h (omega (arith, ints))
