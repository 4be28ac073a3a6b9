-- Exponents of last digits stay within their type, and so do products of significands.
use Rattle.std.proofs.Common.{◌≡◌, ℕ, ◌-◌, ◌*◌, ◌^◌, ◌<◌, ◌≤◌, ℤ, pos, negsuc, ◌+ℤ◌, ◌-ℤ◌, ◌*ℤ◌, ◌≤ℤ◌, nat_abs, FitsSigned, ap, ap₂, ◌∙◌, mul-le-mul, lt_of_lt_of_le, pow_mono, arith, w32, to_z, of_z}
use Rattle.std.specs.Int.{w128}
use borrow.Author.Differences.{ints}
use Rattle.exact.proofs.Signs.{abs_mul}
use Rattle.rounding.proofs.Wholes.{whole_fits, same_whole}

-- of a number
module _ (e : ℤ) (p emax : ℕ) (lo : (pos 1 -ℤ pos emax) ≤ℤ e) (hi : e ≤ℤ pos emax) (reach : emax ≤ 127) (few : p ≤ 24) where
  pub last_is : to_z w32 (of_z w32 (to_z w32 (of_z w32 (to_z w32 (of_z w32 e) +ℤ pos 1)) -ℤ to_z w32 p)) ≡ e +ℤ pos 1 -ℤ pos p
  last_is = omega (arith, ints)

  pub last_low : negsuc 149 ≤ℤ (e +ℤ pos 1 -ℤ pos p)
  last_low = omega (arith, ints)

  pub last_high : (e +ℤ pos 1 -ℤ pos p) ≤ℤ pos 150
  last_high = omega (arith, ints)

-- of a product
module _ (a b : ℤ) (la : negsuc 149 ≤ℤ a) (ha : a ≤ℤ pos 150) (lb : negsuc 149 ≤ℤ b) (hb : b ≤ℤ pos 150) where
  pub sum_is : to_z w32 (of_z w32 (to_z w32 (of_z w32 a) +ℤ to_z w32 (of_z w32 b))) ≡ a +ℤ b
  sum_is = omega (arith, ints)

  pub sum_low : negsuc 299 ≤ℤ (a +ℤ b)
  sum_low = omega (arith, ints)

  pub sum_high : (a +ℤ b) ≤ℤ pos 300
  sum_high = omega (arith, ints)

-- ---- of significands with their signs
module _ (a b : ℤ) (ha : nat_abs a < 2 ^ 24) (hb : nat_abs b < 2 ^ 24) where
  short : nat_abs (a *ℤ b) < 2 ^ 48
  short =
      let q : nat_abs a * nat_abs b ≤ (2 ^ 24 - 1) * (2 ^ 24 - 1) = mul-le-mul {n₂ = 2 ^ 24 - 1} {m₂ = 2 ^ 24 - 1} (omega arith) (omega arith) in
      rw (abs_mul a b) (omega arith)

  factors : to_z w128 (of_z w128 a) *ℤ to_z w128 (of_z w128 b) ≡ a *ℤ b
  factors = ap₂ ◌*ℤ◌ (same_whole a (omega arith)) (same_whole b (omega arith))

  pub product_fits : FitsSigned w128 (to_z w128 (of_z w128 a) *ℤ to_z w128 (of_z w128 b))
  product_fits = rw factors (whole_fits (a *ℤ b) (omega (arith, short)))

  pub product_is : to_z w128 (of_z w128 (to_z w128 (of_z w128 a) *ℤ to_z w128 (of_z w128 b))) ≡ a *ℤ b
  product_is = ap (λ (z : ℤ). to_z w128 (of_z w128 z)) factors ∙ same_whole (a *ℤ b) (omega (arith, short))

  pub product_short : nat_abs (to_z w128 (of_z w128 (to_z w128 (of_z w128 a) *ℤ to_z w128 (of_z w128 b)))) < 2 ^ 48
  product_short = rw product_is short

-- a significand of at most 24 digits, with either sign
module _ (m p : ℕ) (h : m < 2 ^ p) (few : p ≤ 24) where
  significand_short : m < 2 ^ 24
  significand_short = lt_of_lt_of_le h (pow_mono few)

  pub minus_short : nat_abs (to_z w128 (of_z w128 (pos 0 -ℤ to_z w128 m))) < 2 ^ 24
  minus_short = omega (arith, ints, significand_short)

  pub plus_short : nat_abs (to_z w128 m) < 2 ^ 24
  plus_short = omega (arith, ints, significand_short)
