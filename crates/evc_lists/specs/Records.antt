-- The numbers of a record, two bytes each.
use Rattle.std.specs.Prelude.{List, ℕ, ◌+◌, ◌*◌, cond, ltb}
use Rattle.evc_bytes.specs.Bytes.{number_at}

abbrev pub number : List ℕ → ℕ → ℕ
number bytes k = number_at 2 bytes (2 * k)

-- the numbers from 65,280 on stand for those just below 2^32
abbrev pub number32 : ℕ → ℕ
number32 n = cond (ltb n 0xff00) n (n + 0xffff0000)
