-- What it means to round an exact value to p binary digits, and what every rounding has in common.
use Rattle.std.specs.Prelude.{◌≡◌, ℕ, ◌+◌, ◌*◌, ◌^◌, ◌<◌, ◌≤◌, Bool, ◌⊎◌, ℤ, pos}
use Rattle.exact.specs.Exact.{Exact, HasPrecision, scaled, signed_by, size, whole, ◌≈◌, ◌⊑◌, ◌⊟◌, ◌⊠◌}
use Rattle.exact.specs.Parts.{Parts, value, Canonical}

-- no number of precision p is nearer to t than x is; of x itself it says nothing else
abbrev pub NoneNearer : ℕ → Exact → Exact → Type 0
NoneNearer p t x = (y : Exact) → HasPrecision p y → size (x ⊟ t) ⊑ size (y ⊟ t)

-- A rounding to precision p: its answer is a number of precision p in the one form, none is nearer, and equal values round alike.
pub record Rounding (p : ℕ) (rn : Exact → Parts) : Type 0 where
  pub canonical : (t : Exact) → Canonical p (rn t)
  pub nearest : (t : Exact) → NoneNearer p t (value p (rn t))
  pub by_value : (t s : Exact) → t ≈ s → rn t ≡ rn s

-- t lies midway between two neighbours of precision p: plus or minus (m + ½) · 2 ^ (e + 1), where m has p digits
abbrev pub Midway : ℕ → Exact → Type 0
Midway p t = (b : Bool) × (m : ℕ) × (e : ℤ) × (m < 2 ^ p) × (2 ^ p ≤ 2 * m) × (t ≈ scaled (signed_by b (2 * m + 1)) e)

-- x is one of the two neighbours of t, if t lies midway: m · 2 ^ (e + 1) or (m + 1) · 2 ^ (e + 1), with the sign of t
abbrev pub OneOfTwo : ℕ → Exact → Exact → Type 0
OneOfTwo p t x =
    (b : Bool) (m : ℕ) (e : ℤ) → m < 2 ^ p → 2 ^ p ≤ 2 * m → t ≈ scaled (signed_by b (2 * m + 1)) e → (x ≈ scaled (signed_by b (2 * m)) e) ⊎ (x ≈ scaled (signed_by b (2 * m + 2)) e)

-- x and y are rounded alike by every rounding to at most this many digits
pub record RoundAlike (most : ℕ) (x y : Exact) : Type 0 where
  pub alike : (p : ℕ) → 0 < p → p ≤ most → (rn : Exact → Parts) → Rounding p rn → rn x ≡ rn y

-- x is off from t by at most one part in 2 ^ p + 1 of t, which is a little less than the roundoff of one part in 2 ^ p
abbrev pub WithinRoundoff : ℕ → Exact → Exact → Type 0
WithinRoundoff p t x = whole (pos (2 ^ p + 1)) ⊠ size (x ⊟ t) ⊑ size t
