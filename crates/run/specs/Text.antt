-- What is written into a lent buffer, and how numbers are written in hexadecimal.
use Rattle.std.specs.Prelude.{◌≡◌, ℕ, zero, suc, ◌+◌, ◌/◌, ◌%◌, ◌≤◌, cond, List, [], ◌∷◌, ◌++◌, length, drop, nat_lt}

-- the text stands at the front of the buffer, where it takes so many bytes, and every other byte is as it was
pub record Wrote (before after : List ℕ) (n : ℕ) (text : List ℕ) : Type 0 where
  pub end : n ≡ length text
  pub room : n ≤ length before
  pub bytes : after ≡ text ++ drop n before

-- a hexadecimal digit, with capital letters: 48 is the code of 0, and 65 that of A
abbrev pub hex_digit : ℕ → ℕ
hex_digit d = cond (nat_lt d 10) (48 + d) (55 + d)

-- the last w digits of n in hexadecimal
abbrev pub hexadecimal : ℕ → ℕ → List ℕ
hexadecimal zero n = []
hexadecimal (suc w) n = hexadecimal w (n / 16) ++ (hex_digit (n % 16) ∷ [])
