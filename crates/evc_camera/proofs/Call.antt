-- An accepted call: small sides, and maps that cover the picture. Assumes nothing.
use mathlib.Core.Path.{◌≡◌}
use Prim.Native.Nat.{ℕ, ◌*◌, ◌≤◌}
use native.Mathlib.Omega.{arith}
use borrow.Author.Tests.{ltb-false}
use Rattle.std.proofs.lemmas.Bool.{or_parts}
use Rattle.evc_def.specs.Blocks.{bad_picture}
use Rattle.evc_def.specs.Codes.{first_of}
use Rattle.evc_def.proofs.Blocks.{picture_sides}
use Rattle.evc_def.proofs.Codes.{accepted}
use Rattle.evc_map.specs.Maps.{units_of, words_short, mv_len, map_short}
use Rattle.evc_camera.specs.Camera.{camera_checks}

pub record Covered (W H map words : ℕ) : Type 0 where
  pub across : W ≤ 8128
  pub down : H ≤ 8128
  pub vectors : mv_len * units_of W H ≤ map
  pub units : units_of W H ≤ words

pub covered : (W H map words : ℕ) → first_of (camera_checks W H map words) ≡ 0 → Covered W H map words
covered W H map words e =
    let p = accepted 1 (bad_picture W H) _ (omega arith) e in
    let q = accepted 4 _ _ (omega arith) p.1 in
    let s = picture_sides W H p.0 in
    let l = or_parts (map_short W H map) (words_short W H words) q.0 in
    record { across = s.0.top; down = s.1.top; vectors = ltb-false _ _ l.0; units = ltb-false _ _ l.1 }
