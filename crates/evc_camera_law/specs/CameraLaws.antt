-- Document 02, W4: its example, what the reading depends on, and the flipped reel. Each statement speaks of `camera_motion`, which the call's contract
-- equates its answer with. proofs/CameraLaws proves them.
use Rattle.std.specs.Prelude.{true, false, cond, ◌&&◌, ◌≡◌, ℕ, zero, suc, ◌+◌, ◌*◌, ◌/◌, ◌<◌, ◌≤◌, T, ℤ, pos, negsuc, neg_ℤ, nat_abs, length, get_or, Float}
use mathlib.Core.List.{List, [], ◌∷◌, map, Permᴰ}
use Rattle.std.specs.Float.Ieee as Ieee
use Rattle.std.specs.Float.{fin}
use Rattle.evc_int.specs.Whole.{−◌}
use Rattle.evc_def.specs.Codes.{first_of}
use Rattle.evc_def.specs.declared.EvcMv.{EvcMv}
use Rattle.evc_map.specs.Maps.{units_of, mv_at}
use Rattle.evc_law.specs.Demand3.{mv_left_right, mv_top_bottom}
use Rattle.evc_camera.specs.declared.Sums.{Sums}
use Rattle.evc_camera.specs.declared.EvcCamera.{EvcCamera}
use Rattle.evc_camera.specs.Camera.{is_counted, sums_of, plus_zero, camera_checks, camera_motion}

-- ---- two units across

-- a picture of 8 by 4, both units coded and not intra, with these list 0 vectors across; list 1 holds something else
abbrev pub two_across : ℤ → ℤ → EvcCamera
two_across a b = camera_motion 8 4 (a ∷ pos 0 ∷ pos 9 ∷ pos 9 ∷ b ∷ pos 0 ∷ pos 9 ∷ pos 9 ∷ []) (2147483648 ∷ 2147483648 ∷ [])

-- 13 / 8
abbrev pub 1·625 : Float
1·625 = fin false 13 (negsuc 2)

-- "Quarter vectors 6 and 7 across two units give 1.625."
abbrev pub SixAndSeven : Type 0
SixAndSeven = two_across (pos 6) (pos 7) ≡ record { code = 0; kind = 2; x = 1·625; y = plus_zero }

-- "still, when both sums are zero": the sums, and not each vector
abbrev pub FourAndMinusFour : Type 0
FourAndMinusFour = two_across (pos 4) (− 4) ≡ record { code = 0; kind = 1; x = plus_zero; y = plus_zero }

-- ---- a call

pub record Call : Type 0 where
  pub W : ℕ
  pub H : ℕ
  pub mvs : List ℤ
  pub words : List ℕ

abbrev pub code_of : Call → ℕ
code_of c = first_of (camera_checks c.W c.H (length c.mvs) (length c.words))

abbrev pub reading : Call → EvcCamera
reading c = camera_motion c.W c.H c.mvs c.words

-- "It refuses 1, then 4, with the first reading."
abbrev pub Refused : Type 0
Refused = (c : Call) → (code_of c ≡ 0 → ⊥) → reading c ≡ record { code = code_of c; kind = 0; x = plus_zero; y = plus_zero }

-- ---- what it depends on

-- the list 0 vectors of those among the first k units that count
unfoldable pub counted_mvs : List ℤ → List ℕ → ℕ → List EvcMv
counted_mvs mvs words zero = []
counted_mvs mvs words (suc k) = cond (is_counted words k) (mv_at mvs k 0 ∷ counted_mvs mvs words k) (counted_mvs mvs words k)

abbrev pub vectors : Call → List EvcMv
vectors c = counted_mvs c.mvs c.words (units_of c.W c.H)

-- unit j of d counts if unit i of c does, and its vector is then that one's by g
pub record SameUnit (g : EvcMv → EvcMv) (c d : Call) (i j : ℕ) : Type 0 where
  pub counts : is_counted c.words i ≡ is_counted d.words j
  pub mv : is_counted c.words i ≡ true → g (mv_at c.mvs i 0) ≡ mv_at d.mvs j 0

-- so it is of each unit, at its place
pub record InPlace (g : EvcMv → EvcMv) (c d : Call) : Type 0 where
  pub width : c.W ≡ d.W
  pub height : c.H ≡ d.H
  pub unit : (i : ℕ) → i < units_of c.W c.H → SameUnit g c d i i

-- nothing else is read: neither list 1, nor units that do not count, nor other bits of a word, nor what lies behind the picture's units
abbrev pub Unread : Type 0
Unread = (c d : Call) → code_of c ≡ 0 → code_of d ≡ 0 → InPlace (λ (mv : EvcMv). mv) c d → reading c ≡ reading d

-- nor the order of the units: those vectors alone, of pictures of any sides
abbrev pub AnyOrder : Type 0
AnyOrder = (c d : Call) → code_of c ≡ 0 → code_of d ≡ 0 → Permᴰ (vectors c) (vectors d) → reading c ≡ reading d

-- ---- the flipped reel: units change places, and one component of every counted vector is negated

-- the columns of units from right to left
pub record ColumnsReversed (g : EvcMv → EvcMv) (c d : Call) : Type 0 where
  pub width : c.W ≡ d.W
  pub height : c.H ≡ d.H
  pub unit : (x x' y : ℕ) → x + x' + 1 ≡ c.W / 4 → y < c.H / 4 → SameUnit g c d (y * (c.W / 4) + x) (y * (c.W / 4) + x')

-- the rows of units from bottom to top
pub record RowsReversed (g : EvcMv → EvcMv) (c d : Call) : Type 0 where
  pub width : c.W ≡ d.W
  pub height : c.H ≡ d.H
  pub unit : (x y y' : ℕ) → x < c.W / 4 → y + y' + 1 ≡ c.H / 4 → SameUnit g c d (y * (c.W / 4) + x) (y' * (c.W / 4) + x)

-- in all three d has the vectors of c by g, in some order
abbrev pub Reordered : Type 0
Reordered =
    (g : EvcMv → EvcMv) (c d : Call)
    → (InPlace g c d → Permᴰ (map g (vectors c)) (vectors d))
    × (ColumnsReversed g c d → Permᴰ (map g (vectors c)) (vectors d))
    × (RowsReversed g c d → Permᴰ (map g (vectors c)) (vectors d))

abbrev pub sums : Call → Sums
sums c = sums_of c.mvs c.words (units_of c.W c.H)

-- a mean that is not zero changes its sign, and +0.0 stays
abbrev pub turned : Float → Float
turned v = cond (Ieee.eq v plus_zero) v (Ieee.neg v)

-- with vectors mirrored as demand 3 has it, that sum is negated and its mean turned; the other, and the kind, are kept
abbrev pub LeftRight : Type 0
LeftRight =
    (c d : Call) → code_of c ≡ 0 → code_of d ≡ 0 → Permᴰ (map mv_left_right (vectors c)) (vectors d)
    → (sums d ≡ record { units = (sums c).units; x = neg_ℤ (sums c).x; y = (sums c).y })
    × (reading d ≡ record { code = 0; kind = (reading c).kind; x = turned (reading c).x; y = (reading c).y })

abbrev pub TopBottom : Type 0
TopBottom =
    (c d : Call) → code_of c ≡ 0 → code_of d ≡ 0 → Permᴰ (map mv_top_bottom (vectors c)) (vectors d)
    → (sums d ≡ record { units = (sums c).units; x = (sums c).x; y = neg_ℤ (sums c).y })
    × (reading d ≡ record { code = 0; kind = (reading c).kind; x = (reading c).x; y = turned (reading c).y })

-- ---- the numbers

-- what moves shows it: one of the two means is not zero
abbrev pub Shown : Type 0
Shown = (c : Call) → (reading c).kind ≡ 2 → (Ieee.eq (reading c).x plus_zero && Ieee.eq (reading c).y plus_zero) ≡ false

-- 8192 samples are 32768 quarters, the longest component of a vector
abbrev pub 8192·0 : Float
8192·0 = fin false 1 (pos 13)

abbrev pub Within8192 : Float → Type 0
Within8192 v = T (Ieee.le (Ieee.neg 8192·0) v) × T (Ieee.le v 8192·0)

-- in a map of 16-bit numbers both lie within 8192 samples; so neither is infinite, nor 'not a number'
abbrev pub Bounded : Type 0
Bounded = (c : Call) → ((i : ℕ) → nat_abs (get_or c.mvs i (pos 0)) ≤ 32768) → Within8192 (reading c).x × Within8192 (reading c).y

abbrev pub CameraLaws : Type 0
CameraLaws = SixAndSeven × FourAndMinusFour × Refused × Unread × AnyOrder × Reordered × LeftRight × TopBottom × Shown × Bounded
