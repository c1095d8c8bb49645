-- Of two bits that do not both hold, the second where the first does: std's `and_cases` leaves a case to take away. Assumes nothing.
use mathlib.Core.Bool.{Bool, true, false, ◌&&◌}
use mathlib.Core.Path.{◌≡◌, sym, subst}
use lib.Dec.{T}

pub and_false_right : (a b : Bool) → (a && b) ≡ false → a ≡ true → b ≡ false
and_false_right true b e t = e
and_false_right false b e t = absurd (subst T (sym t) tt)
