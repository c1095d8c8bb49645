-- "only the low sixteen bits are kept, as a signed number"
use Rattle.std.specs.Prelude.{cond, ◌≡◌, refl, ℕ, ltb, ℤ, pos, ◌-ℤ◌}
use Rattle.evc_int.specs.Whole.{−◌, ◌modulo◌}

-- sixteen bits as a signed number
abbrev pub signed16 : ℕ → ℤ
signed16 n = cond (ltb n 32768) (pos n) (pos n -ℤ pos 65536)

unfoldable pub low16 : ℤ → ℤ
low16 z = signed16 (z modulo 65536)

Examples : Type 0
Examples =
    (low16 (pos 32767) ≡ pos 32767)
    × (low16 (pos 32768) ≡ − 32768)
    × (low16 (− 32768) ≡ − 32768)
    × (low16 (− 32769) ≡ pos 32767)
    × (low16 (pos 50000) ≡ − 15536)
    × (low16 (− 65536) ≡ pos 0)

examples : Examples
unfolding Examples low16
examples = (refl, refl, refl, refl, refl, refl)
