-- Document 02, W2: "four counts (across low, high, down low, high, both lists)".
use Rattle.std.specs.Prelude.{cond, ℕ, ◌+◌, eqb}
use Rattle.evc_clip.specs.Clip.{moved_low, moved_high}
use Rattle.evc_clip.specs.declared.EvcMoved.{EvcMoved}
use Rattle.evc_counts.specs.declared.MovedCounts.{MovedCounts}

abbrev pub nothing_counted : MovedCounts
nothing_counted = record { across_low = 0; across_high = 0; down_low = 0; down_high = 0 }

infixl 65 ◌plus◌
abbrev pub ◌plus◌ : MovedCounts → MovedCounts → MovedCounts
c plus d =
    record {
      across_low = c.across_low + d.across_low;
      across_high = c.across_high + d.across_high;
      down_low = c.down_low + d.down_low;
      down_high = c.down_high + d.down_high;
    }

-- the counts of one vector's report
unfoldable pub one_if : ℕ → ℕ → ℕ
one_if moved side = cond (eqb moved side) 1 0

abbrev pub counts_of : EvcMoved → MovedCounts
counts_of m =
    record {
      across_low = one_if m.x moved_low;
      across_high = one_if m.x moved_high;
      down_low = one_if m.y moved_low;
      down_high = one_if m.y moved_high;
    }
