-- The program's loop: what its turns have read and written, and how it ends. Assumes nothing.
use Rattle.std.proofs.Common.{Bool, List, [], ◌++◌, ℕ, ◌≡◌, ◌+◌, ◌-◌, ◌*◌, ◌%◌, ◌^◌, ◌<◌, true, false, Option, Some, None, IfSome, arith, refl, sym, ap, ◌∙◌, subst, append-nil, append_assoc, length, length-append}
use Rattle.std.specs.Io.KnownBytes.{Appends, Consumes, IsAtEnd}
use Rattle.mv_clip_text.specs.Records.{lines, text}
use Rattle.mv_clip_text.specs.Program.{header, ChunkAnswered}
use Rattle.mv_clip_text.proofs.Laws.{chunks}
use Rattle.mv_clip_text.proofs.Known.{consumes_nothing, consumes_both, appends_both}

-- after k full chunks
pub record Done (unread left before after : Option (List ℕ)) (k : ℕ) : Type 0 where
  pub bytes : List ℕ
  pub taken : Consumes unread left bytes
  pub answered : Appends before after (header ++ text bytes)
  pub long : length bytes ≡ 49152 * k

pub started : (unread before after : Option (List ℕ)) → Appends before after header → Done unread unread before after 0
unfolding text lines
started unread before after h = record { bytes = []; taken = consumes_nothing unread; answered = h; long = refl }

both : (unread left before after after' : Option (List ℕ)) (k : ℕ) (d : Done unread left before after k) (c : List ℕ) → Appends after after' (text c) → Appends before after' (header ++ text (d.bytes ++ c))
both unread left before after after' k d c h =
    let whole : length d.bytes % 16 ≡ 0 = omega (arith, d.long) in
    subst
    (Appends before after')
    (append_assoc header (text d.bytes) (text c) ∙ ap (λ (l : List ℕ). header ++ l) (sym (chunks d.bytes c whole)))
    (appends_both before after after' (header ++ text d.bytes) (text c) d.answered h)

pub one_more : (unread left left' before after after' : Option (List ℕ)) (k : ℕ) (full : Bool) → Done unread left before after k → ChunkAnswered left left' after after' full → full ≡ true → Done unread left' before after' (k + 1)
one_more unread left left' before after after' k full d c e = record {
  bytes = d.bytes ++ c.chunk;
  taken = consumes_both unread left left' d.bytes c.chunk d.taken c.taken;
  answered = both unread left before after after' k d c.chunk c.answered;
  long = omega (arith, d.long, c.long e, length-append d.bytes c.chunk);
}

-- what was taken is all that there was
all_of : (s : List ℕ) (left : Option (List ℕ)) (t : List ℕ) → Consumes (Some s) left t → IsAtEnd left → t ≡ s
all_of s None t p q = absurd p
all_of s (Some r) t p q = sym (p ∙ ap (λ (l : List ℕ). t ++ l) q ∙ append-nil t)

pub last : (unread left left' before after after' : Option (List ℕ)) (k : ℕ) (full : Bool) → Done unread left before after k → ChunkAnswered left left' after after' full → full ≡ false → IfSome unread (λ s. length s < 49152 * (2 ^ 64 - 1) → Appends before after' (header ++ text s))
last None left left' before after after' k full d c e = tt
last (Some s) left left' before after after' k full d c e = λ h.
    subst
    (λ (l : List ℕ). Appends before after' (header ++ text l))
    (all_of s left' (d.bytes ++ c.chunk) (consumes_both (Some s) left left' d.bytes c.chunk d.taken c.taken) (c.ended e))
    (both (Some s) left before after after' k d c.chunk c.answered)
