-- Numbers as hexadecimal digits: capitals, the highest digit first.
use Rattle.std.specs.Prelude.{ℕ, zero, suc, ◌-◌, ◌/◌, ◌%◌, ◌^◌, List, [], ◌∷◌, ℤ, pos, negsuc, codes, slice_index}

abbrev pub digit_code : ℕ → ℕ
digit_code d = slice_index (codes "0123456789ABCDEF") d

-- the last `width` digits of n
abbrev pub hex : ℕ → ℕ → List ℕ
hex zero n = []
hex (suc width) n = digit_code (n / 16 ^ width % 16) ∷ hex width n

-- two's complement of 32 bits: `negsuc n` is −1 − n
abbrev pub complement : ℤ → ℕ
complement (pos n) = n
complement (negsuc n) = 2 ^ 32 - suc n
