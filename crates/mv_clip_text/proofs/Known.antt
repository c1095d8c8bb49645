-- The known bytes of readers and writers: one run behind the other. Assumes nothing.
use Rattle.std.proofs.Common.{List, [], ◌++◌, ℕ, ◌≡◌, ◌+◌, ◌≤◌, Option, Some, None, refl, sym, ap, ◌∙◌, subst, append_assoc, length, take, length-take-le}
use Rattle.std.proofs.Math.Seq.{take-append-add}
use Rattle.std.proofs.lemmas.List.{take-append-le}
use Rattle.std.specs.Io.KnownBytes.{Appends, Consumes}

pub consumes_nothing : (a : Option (List ℕ)) → Consumes a a []
consumes_nothing None = tt
consumes_nothing (Some x) = refl

pub consumes_both : (a b c : Option (List ℕ)) (s t : List ℕ) → Consumes a b s → Consumes b c t → Consumes a c (s ++ t)
consumes_both None b c s t p q = tt
consumes_both (Some x) None c s t p q = absurd p
consumes_both (Some x) (Some y) None s t p q = q
consumes_both (Some x) (Some y) (Some z) s t p q = p ∙ ap (λ (l : List ℕ). s ++ l) q ∙ sym (append_assoc s t z)

pub appends_both : (a b c : Option (List ℕ)) (s t : List ℕ) → Appends a b s → Appends b c t → Appends a c (s ++ t)
appends_both None b c s t p q = tt
appends_both (Some x) None c s t p q = absurd p
appends_both (Some x) (Some y) None s t p q = q
appends_both (Some x) (Some y) (Some z) s t p q = q ∙ ap (λ (l : List ℕ). l ++ t) p ∙ append_assoc x s t

-- the front of a buffer of which a part behind `a` was written anew
pub take_past : (a n : ℕ) (xs ys zs : List ℕ) → a ≤ length xs → n ≤ length ys → take (a + n) (take a xs ++ (ys ++ zs)) ≡ take a xs ++ take n ys
take_past a n xs ys zs h k =
    subst
    (λ m. take (m + n) (take a xs ++ (ys ++ zs)) ≡ take a xs ++ take n ys)
    (length-take-le a xs h)
    (take-append-add (take a xs) (ys ++ zs) n ∙ ap (λ (l : List ℕ). take a xs ++ l) (take-append-le n ys zs k))
