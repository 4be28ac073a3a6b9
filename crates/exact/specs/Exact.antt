-- Exact values: a whole number over a power of two.
use Rattle.std.specs.Prelude.{◌≡◌, ℕ, suc, ◌+◌, ◌^◌, ◌<◌, Bool, true, false, ℤ, pos, negsuc, ◌+ℤ◌, ◌*ℤ◌, neg_ℤ, ◌≤ℤ◌, unsigned_abs}

-- the exact value num / 2 ^ low
pub record Exact : Type 0 where
  pub num : ℤ
  pub low : ℕ

abbrev pub two^ : ℕ → ℤ
two^ k = pos (2 ^ k)

-- the same value, and the order of values: two values are compared when brought to one denominator
infix 4 ◌≈◌ ◌⊑◌
abbrev pub ◌≈◌ : Exact → Exact → Type 0
x ≈ y = x.num *ℤ two^ y.low ≡ y.num *ℤ two^ x.low

abbrev pub ◌⊑◌ : Exact → Exact → Type 0
x ⊑ y = ◌≤ℤ◌ (x.num *ℤ two^ y.low) (y.num *ℤ two^ x.low)

-- the value with the other sign
abbrev pub negated : Exact → Exact
negated x = record { num = neg_ℤ x.num; low = x.low }

-- sum, difference and product
infixl 6 ◌⊞◌ ◌⊟◌
infixl 7 ◌⊠◌
abbrev pub ◌⊞◌ : Exact → Exact → Exact
x ⊞ y = record { num = x.num *ℤ two^ y.low +ℤ y.num *ℤ two^ x.low; low = x.low + y.low }

abbrev pub ◌⊟◌ : Exact → Exact → Exact
x ⊟ y = x ⊞ negated y

abbrev pub ◌⊠◌ : Exact → Exact → Exact
x ⊠ y = record { num = x.num *ℤ y.num; low = x.low + y.low }

-- the size of a value, without its sign
abbrev pub size : Exact → Exact
size x = record { num = pos (unsigned_abs x.num); low = x.low }

-- a whole number as a value
abbrev pub whole : ℤ → Exact
whole n = record { num = n; low = 0 }

-- m · 2 ^ e, for a whole e of any sign
abbrev pub scaled : ℤ → ℤ → Exact
scaled m (pos e) = record { num = m *ℤ two^ e; low = 0 }
scaled m (negsuc e) = record { num = m; low = suc e }

-- n with a sign: true is minus
abbrev pub signed_by : Bool → ℕ → ℤ
signed_by true n = neg_ℤ (pos n)
signed_by false n = pos n

-- whether z is below zero
abbrev pub is_negative : ℤ → Bool
is_negative (pos n) = false
is_negative (negsuc n) = true

-- x has precision p: it is zero, or plus or minus m · 2 ^ e with m below 2 ^ p; the exponent is not limited
abbrev pub HasPrecision : ℕ → Exact → Type 0
HasPrecision p x = (m : ℤ) × (e : ℤ) × (unsigned_abs m < 2 ^ p) × (x ≈ scaled m e)
