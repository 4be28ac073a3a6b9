-- A binary number by its parts: a sign, a significand and an exponent.
use Rattle.std.specs.Prelude.{◌≡◌, ℕ, ◌*◌, ◌/◌, ◌^◌, ◌<◌, ◌≤◌, Bool, false, cond, ℤ, pos, ◌+ℤ◌, ◌-ℤ◌, ◌==◌, unsigned_abs}
use Rattle.std.specs.Float.Ieee.{size as digits}
use Rattle.exact.specs.Exact.{Exact, scaled, signed_by, is_negative}

pub record Parts : Type 0 where
  pub negative : Bool
  pub significand : ℕ
  pub exponent : ℤ

abbrev pub parts : Bool → ℕ → ℤ → Parts
parts s m e = record { negative = s; significand = m; exponent = e }

abbrev pub zero_parts : Parts
zero_parts = parts false 0 (pos 0)

-- what the parts are worth in precision p: plus or minus significand · 2 ^ (exponent − p + 1)
abbrev pub value : ℕ → Parts → Exact
value p x = scaled (signed_by x.negative x.significand) (x.exponent +ℤ pos 1 -ℤ pos p)

-- The one form of a number of precision p: the significand has exactly p binary digits
-- (2 ^ p ≤ 2 · m says that 2 ^ (p − 1) ≤ m, without a subtraction);
-- or it is zero, which has no sign and the exponent 0.
pub record Canonical (p : ℕ) (x : Parts) : Type 0 where
  pub short : x.significand < 2 ^ p
  pub full : 0 < x.significand → 2 ^ p ≤ 2 * x.significand
  pub plain : x.significand ≡ 0 → x.negative ≡ false
  pub flat : x.significand ≡ 0 → x.exponent ≡ pos 0

-- the parts of a value of precision p in its one form
unfoldable pub canonical : ℕ → Exact → Parts
canonical p x =
    let n = unsigned_abs x.num in
    cond (n == 0) zero_parts (parts (is_negative x.num) (n * 2 ^ p / 2 ^ digits n) (pos (digits n) -ℤ pos 1 -ℤ pos x.low))
