-- A unit's word without its slice number. Assumes nothing.
use Rattle.std.proofs.Common.{◌≡◌, ℕ, ◌+◌, ◌-◌, ◌%◌, ◌^◌, ◌<◌, ◌≤◌, arith}
use Rattle.evc_def.specs.Tables.{slice_num}
use Rattle.evc_avail.specs.Flags.{of_picture}
use Rattle.evc_avail.specs.Slices.{of_slice, max_slice_num}
use Rattle.evc_avail.specs.Inner.{Seen}

-- where every unit counts, by a difference
pub picture_seen : (word seen : ℕ) → seen ≡ word - slice_num word → Seen of_picture word seen
picture_seen word seen e = record { available = grind arith; coded = λ t. grind arith; intra = λ t. grind arith }

-- and in a slice, by one that wraps
pub slice_seen : (slice word seen : ℕ) → slice ≤ max_slice_num → seen < 2 ^ 32 → (seen + slice) % 2 ^ 32 ≡ word → Seen (of_slice slice) word seen
slice_seen slice word seen l s e = record { available = grind arith; coded = λ t. grind arith; intra = λ t. grind arith }
