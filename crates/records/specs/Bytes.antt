-- Bytes as a number, and bytes as text.
use Rattle.std.specs.Prelude.{ℕ, ◌+◌, ◌*◌, Bool, ◌&&◌, List, [], ◌∷◌, nat_le}
use Rattle.std.specs.List.{list_all}

-- bytes as a number, the low byte first
abbrev pub little_endian : List ℕ → ℕ
little_endian [] = 0
little_endian (b ∷ bs) = b + 256 * little_endian bs

-- a printable byte is from 32 to 126
abbrev pub printable_byte : ℕ → Bool
printable_byte b = nat_le 32 b && nat_le b 126

-- bytes of text, each of them printable
abbrev pub printable : List ℕ → Bool
printable bs = list_all printable_byte bs
