-- What a call gives, refused or not, and what an accepted call has. Assumes nothing.
use Rattle.std.proofs.Common.{◌≡◌, ℕ, ◌≤◌, List, Err, sym, arith, ltb-false, ne_eqb}
use Rattle.evc_def.specs.Blocks.{Allowed}
use Rattle.evc_def.specs.Codes.{Check, first_of, block_checks}
use Rattle.evc_def.specs.Refusals.{number_of}
use Rattle.evc_def.specs.declared.EvcBlock.{EvcBlock}
use Rattle.evc_def.specs.declared.refusal.Refusal.{Refusal}
use Rattle.evc_def.proofs.Codes.{accepted, both_accepted}
use Rattle.evc_def.proofs.Blocks.{allowed_block}
use Rattle.evc_def.proofs.Refusals.{not_0}
use Rattle.evc_map.specs.Maps.{units_of}
use Rattle.evc_avail.specs.Flags.{avail_checks, answered, answer_of}

module _ (checks : List Check) (avail : ℕ) where
  pub refusal : (r : Refusal) → number_of r ≡ first_of checks → answer_of (Err r) ≡ answered (first_of checks) avail
  refusal r e = rw (sym e, ne_eqb (number_of r) 0 (not_0 r))

  pub done : (r : ℕ) → first_of checks ≡ 0 → r ≡ avail → record { code = 0; avail = r } ≡ answered (first_of checks) avail
  done r e p = rw (e, p)

-- an accepted call has all unit words, and its block is allowed
pub covers : (b : EvcBlock) (words : ℕ) → first_of (avail_checks b words) ≡ 0 → (units_of b.pic_w b.pic_h ≤ words) × (Allowed b.pic_w b.x b.w × Allowed b.pic_h b.y b.h)
covers b words e =
    let f = both_accepted 0 (block_checks b) _ tt e in
    let k = allowed_block b f.0 in
    (ltb-false _ _ (accepted 4 _ _ (omega arith) f.1).0, k)
