-- The roundings to nearest that are told apart by what they take midway.
use Rattle.std.specs.Prelude.{ℕ, suc, ◌-◌, ◌*◌, ◌/◌, ◌%◌, ◌^◌, Bool, true, false, cond, ◌==◌, unsigned_abs}
use Prim.Native.Nat.{compare, Ordering}
use Rattle.std.specs.Float.Ieee.{size as digits}
use Rattle.exact.specs.Exact.{Exact, signed_by, is_negative}
use Rattle.exact.specs.Parts.{Parts, canonical}

-- midway between the significands q and q + 1: whether to take q + 1
abbrev pub Tie : Type 0
Tie = ℕ → Bool

-- the even one: q + 1 where q is odd
abbrev pub to_even : Tie
to_even q = q % 2 == 1

-- the larger magnitude
abbrev pub away_from_zero : Tie
away_from_zero q = true

-- the smaller magnitude
abbrev pub toward_zero : Tie
toward_zero q = false

-- q or q + 1, by how twice the rest compares with the spacing
abbrev pub pick : Tie → ℕ → Ordering → ℕ
pick tie q Ordering.lt = q
pick tie q Ordering.eq = cond (tie q) (suc q) q
pick tie q Ordering.gt = suc q

-- a natural number to p binary digits: the digits behind the first p are cut off, and the nearer of the two multiples is taken
unfoldable pub round_whole : Tie → ℕ → ℕ → ℕ
round_whole tie p M = let k = digits M - p in pick tie (M / 2 ^ k) (compare (M % 2 ^ k * 2) (2 ^ k)) * 2 ^ k

-- the same for an exact value: its denominator and its sign stay
abbrev pub round_exact : Tie → ℕ → Exact → Exact
round_exact tie p t = record { num = signed_by (is_negative t.num) (round_whole tie p (unsigned_abs t.num)); low = t.low }

-- to the nearest number of precision p, and midway by the tie
abbrev pub nearest_by : Tie → ℕ → Exact → Parts
nearest_by tie p t = canonical p (round_exact tie p t)
