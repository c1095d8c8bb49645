-- What a sum of counts asks.
use Rattle.std.specs.Prelude.{ℕ, ◌≤◌}
use Rattle.evc_counts.specs.declared.MovedCounts.{MovedCounts}

-- no count is above n
pub record AtMost (n : ℕ) (c : MovedCounts) : Type 0 where
  pub across_low : c.across_low ≤ n
  pub across_high : c.across_high ≤ n
  pub down_low : c.down_low ≤ n
  pub down_high : c.down_high ≤ n
