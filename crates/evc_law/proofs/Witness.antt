-- Demand 3's premises can be met: the witness meets them, and is accepted. Assumes nothing.
use mathlib.Core.Path.{◌≡◌, refl, sym, subst, ◌∙◌}
use Prim.Native.Nat.{ℕ, zero, suc, ◌≤◌, zero-le}
use native.Mathlib.Nat.{le_refl}
use native.Mathlib.Omega.{arith}
use lib.ListN.{length, get_or, replicate, length-replicate}
use borrow.Author.Tests.{le-ltb}
use Rattle.evc_def.specs.Blocks.{bad_picture, bad_block}
use Rattle.evc_def.specs.Codes.{first_of}
use Rattle.evc_def.proofs.Codes.{passed, none}
use Rattle.evc_pad.specs.Padding.{pad_code, pad_after}
use Rattle.evc_plane.specs.Planes.{side_of, stride_of, plane_len, picture_start}
use Rattle.evc_samples.proofs.Samples.{none_exceeds}
use Rattle.evc_mc.specs.Block.{Component, luma, cb, cr, type_of, plane_of, pred_len}
use Rattle.evc_def.specs.declared.EvcMv.{EvcMv}
use Rattle.evc_law.specs.Demand3.{Premises, Accepted, flat_picture, flat_list, witness, Witness}
use Rattle.evc_law.proofs.Calls.{accepts_call}

replicate_most : (n v j : ℕ) → get_or (replicate n v) j 0 ≤ v
replicate_most zero v j = zero-le
replicate_most (suc n) v zero = le_refl v
replicate_most (suc n) v (suc j) = replicate_most n v j

long : (n v : ℕ) → n ≤ length (replicate n v)
long n v = subst (λ (m : ℕ). n ≤ m) (sym (length-replicate n v)) (le_refl n)

-- padding accepts a picture whose one value is a sample
flat_accepted : (c : Component) → pad_code (type_of c) 16 12 (flat_picture 16 12 1023 c) ≡ 0
unfolding pad_code bad_picture
flat_accepted c =
    let t = type_of c in
    let s = flat_picture 16 12 1023 c in
    passed 1 _ _ refl
    ∙ passed 4 _ _ (le-ltb _ _ (long (plane_len t 16 12) 1023))
    ∙ passed 6 _ _ (none_exceeds s (picture_start t 16) (stride_of t 16) (side_of t 16) (side_of t 12) (λ y x _ _. replicate_most (plane_len t 16 12) 1023 _))
    ∙ none

flat_plane : (mv : EvcMv) (poc : ℕ) (c : Component) → plane_of c (flat_list 16 12 1023 mv poc) ≡ pad_after (type_of c) 16 12 (flat_picture 16 12 1023 c)
flat_plane mv poc luma = refl
flat_plane mv poc cb = refl
flat_plane mv poc cr = refl

premises : Premises witness
premises =
    record {
      made0 = λ _ c. (flat_accepted c, flat_plane _ _ c);
      made1 = λ _ c. (flat_accepted c, flat_plane _ _ c);
      counts = λ _ _ _ c i j _ _. refl;
    }

accepted : Accepted witness
unfolding first_of bad_picture bad_block
accepted =
    accepts_call witness.block witness.l0 witness.l1 witness.pred0 witness.pred1 witness.picture0 witness.picture1 premises.made0 premises.made1
    (record {
      block = refl;
      some = refl;
      count0 = λ _. omega arith;
      count1 = λ _. omega arith;
      long0 = long pred_len 0;
      long1 = long pred_len 0;
    })

pub premises_met : Witness
premises_met = (premises, accepted)
