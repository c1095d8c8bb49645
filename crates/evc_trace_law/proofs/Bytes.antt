-- Numbers and bytes: what was written is read, and what is read is written back. Assumes nothing.
use Prim.Native.Nat.{ℕ, zero, suc, ◌+◌, ◌*◌, ◌/◌, ◌%◌, ◌^◌, ◌<◌, ◌≤◌}
use mathlib.Core.Bool.{Bool, true, false, cond}
use mathlib.Core.List.{List, [], ◌∷◌, ◌++◌, append_assoc}
use mathlib.Core.Path.{◌≡◌, refl, sym, ap, ap₂, subst, ◌∙◌}
use native.Mathlib.Nat.{pow-suc}
use native.Mathlib.Omega.{arith}
use lib.Dec.{ltb}
use lib.IntN.{ℤ, pos, negsuc, ◌-ℤ◌}
use lib.ListN.{length, length-append, get_or, take, drop}
use lib.Seq.{get_or-append_seam, drop-cons, drop-drop, take-add, take_all}
use mir.Syntax.{w16}
use mir.Val.{SFits}
use Rattle.evc_int.specs.Whole.{−◌, ◌modulo◌}
use Rattle.evc_int.specs.LowBits.{signed16, low16}
use Rattle.evc_int.proofs.Division.{split_only}
use Rattle.evc_int.proofs.Expressions.{ !, ◌⊕◌, ◌⊗◌, ◌⊖◌, solve}
use Rattle.evc_int.proofs.LowBits.{low16_same}
use Rattle.evc_bytes.specs.Bytes.{bytes_of, number_at}
use Rattle.evc_trace_law.specs.RoundTrip.{Bytes}

-- ---- written and read

pub length_bytes : (n x : ℕ) → length (bytes_of n x) ≡ n
length_bytes zero x = refl
length_bytes (suc n) x = ap suc (length_bytes n (x / 256))

-- a number behind some bytes
pub read_back : (n x : ℕ) (a b : List ℕ) → x < 256 ^ n → number_at n (a ++ (bytes_of n x ++ b)) (length a) ≡ x
read_back zero x a b h = let k : x < 1 = h in omega arith
read_back (suc n) x a b h =
    let more = read_back n (x / 256) (a ++ (x % 256 ∷ [])) b (high x (256 ^ n) (subst (λ (m : ℕ). x < m) (pow-suc 256 n) h)) in
    let there : number_at n (a ++ (x % 256 ∷ (bytes_of n (x / 256) ++ b))) (length a + 1) ≡ x / 256 = subst (λ (l : List ℕ). number_at n l (length a + 1) ≡ x / 256) (append_assoc a (x % 256 ∷ []) (bytes_of n (x / 256) ++ b)) (subst (λ (i : ℕ). number_at n ((a ++ (x % 256 ∷ [])) ++ (bytes_of n (x / 256) ++ b)) i ≡ x / 256) (length-append a (x % 256 ∷ [])) more) in
    rw (get_or-append_seam a (x % 256) (bytes_of n (x / 256) ++ b) 0, there) (whole x)
  where
    high : (x p : ℕ) → x < p * 256 → x / 256 < p
    high x p h = omega arith

    whole : (x : ℕ) → x % 256 + 256 * (x / 256) ≡ x
    whole x = omega arith

-- two numbers of n bytes, one behind the other
pub pair_read : (n p q : ℕ) (a z : List ℕ) → p < 256 ^ n → q < 256 ^ n
    → (number_at n (a ++ (bytes_of n p ++ (bytes_of n q ++ z))) (length a) ≡ p) × (number_at n (a ++ (bytes_of n p ++ (bytes_of n q ++ z))) (length a + n) ≡ q)
pair_read n p q a z hp hq =
    let at : length (a ++ bytes_of n p) ≡ length a + n = length-append a (bytes_of n p) ∙ ap (λ (k : ℕ). length a + k) (length_bytes n p) in
    let second = subst (λ (i : ℕ). number_at n (a ++ bytes_of n p ++ (bytes_of n q ++ z)) i ≡ q) at (read_back n q (a ++ bytes_of n p) z hq) in
    (read_back n p a (bytes_of n q ++ z) hp, subst (λ (l : List ℕ). number_at n l (length a + n) ≡ q) (append_assoc a (bytes_of n p) (bytes_of n q ++ z)) second)

-- of two bytes, as the lists compute
pub two : (x : ℕ) → x < 65536 → x % 256 + 256 * (x / 256 % 256 + 256 * 0) ≡ x
two x h = omega arith

pub component : (z : ℤ) → SFits w16 z → signed16 ((z modulo 65536) % 256 + 256 * ((z modulo 65536) / 256 % 256 + 256 * 0)) ≡ z
unfolding low16
component z f = ap signed16 (two (z modulo 65536) (below z f)) ∙ low16_same z f
  where
    below : (z : ℤ) → SFits w16 z → z modulo 65536 < 65536
    below (pos n) f = omega arith
    below (negsuc n) f = omega arith

-- ---- read and written back

-- the n bytes from `at` on
unfoldable pub part : List ℕ → ℕ → ℕ → List ℕ
part s at n = take n (drop at s)

pub all_of : (s : List ℕ) (n : ℕ) → length s ≡ n → part s 0 n ≡ s
unfolding part
all_of s n e = take_all n s (omega arith)

-- one part behind the other
pub join : (s bytes rest : List ℕ) (at n m : ℕ) → bytes ≡ part s at n → rest ≡ part s (at + n) m → bytes ++ rest ≡ part s at (n + m)
unfolding part
join s bytes rest at n m p q =
    ap₂ (λ (a b : List ℕ). a ++ b) p q
    ∙ ap (λ (l : List ℕ). take n (drop at s) ++ take m l) (sym (drop-drop n at s))
    ∙ sym (take-add n m (drop at s))

pub byte_back : (s : List ℕ) (at x : ℕ) → at < length s → get_or s at 0 ≡ x → x ∷ [] ≡ part s at 1
unfolding part
byte_back s at x l e = sym (ap (take 1) (drop-cons s at 0 l) ∙ ap (λ (b : ℕ). b ∷ []) e)

module _ (s : List ℕ) (bytes : Bytes s) where
  pub number_back : (n at : ℕ) → at + n ≤ length s → bytes_of n (number_at n s at) ≡ part s at n
  unfolding part
  number_back zero at l = refl
  number_back (suc n) at l =
      let b = bytes at in
      let more = number_back n (at + 1) (omega arith) in
      let cons : drop at s ≡ get_or s at 0 ∷ drop (at + 1) s = drop-cons s at 0 (omega arith) ∙ ap (λ (i : ℕ). get_or s at 0 ∷ drop i s) (next at) in
      ap₂ (λ (b : ℕ) (l : List ℕ). b ∷ l) (low (get_or s at 0) (number_at n s (at + 1)) b) (ap (bytes_of n) (high (get_or s at 0) (number_at n s (at + 1)) b) ∙ more)
      ∙ sym (ap (take (suc n)) cons)
    where
      next : (i : ℕ) → suc i ≡ i + 1
      next i = omega arith

      low : (b x : ℕ) → b < 256 → (b + 256 * x) % 256 ≡ b
      low b x h = omega arith

      high : (b x : ℕ) → b < 256 → (b + 256 * x) / 256 ≡ x
      high b x h = omega arith

  pub component_back : (at : ℕ) → at + 2 ≤ length s → bytes_of 2 (signed16 (number_at 2 s at) modulo 65536) ≡ part s at 2
  component_back at l = ap (bytes_of 2) (bits (number_at 2 s at) (let b = bytes at in let c = bytes (at + 1) in omega arith)) ∙ number_back 2 at l
    where
      bits : (n : ℕ) → n < 65536 → signed16 n modulo 65536 ≡ n
      bits n h = go (ltb n 32768)
        where
          go : (t : Bool) → cond t (pos n) (pos n -ℤ pos 65536) modulo 65536 ≡ n
          go true = (split_only 65536 (pos n) (pos 0) n h (solve (! (pos n)) (! (pos 65536) ⊗ ! (pos 0) ⊕ ! (pos n)) (omega arith))).1
          go false = (split_only 65536 (pos n -ℤ pos 65536) (− 1) n h (solve (! (pos n) ⊖ ! (pos 65536)) (! (pos 65536) ⊗ ! (− 1) ⊕ ! (pos n)) (omega arith))).1
