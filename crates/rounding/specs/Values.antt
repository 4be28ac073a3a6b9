-- The exact values that the code's types stand for.
use Rattle.std.specs.Prelude.{ℕ}
use Rattle.exact.specs.Exact.{Exact, scaled}
use Rattle.exact.specs.Rounding.{RoundAlike}
use Rattle.rounding.specs.declared.dyadic.Dyadic.{Dyadic}

-- whole · 2 ^ exponent
abbrev pub exact_value : {digits reach : ℕ} → Dyadic digits reach → Exact
exact_value t = scaled t.whole t.exponent

-- every rounding to at most 24 digits answers for t what it answers for the value x
abbrev pub RoundsAs : {digits reach : ℕ} → Dyadic digits reach → Exact → Type 0
RoundsAs t x = RoundAlike 24 (exact_value t) x
