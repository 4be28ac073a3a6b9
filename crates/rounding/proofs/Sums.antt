-- The cases of a sum of two addends.
use Rattle.std.proofs.Common.{◌≡◌, ℕ, zero, suc, ◌+◌, ◌-◌, ◌*◌, ◌%◌, ◌^◌, ◌<◌, ◌≤◌, ℤ, pos, negsuc, ◌+ℤ◌, ◌-ℤ◌, ◌*ℤ◌, ◌≤ℤ◌, neg_ℤ, true, false, nat_abs, FitsSigned, to_z, of_z, sym, refl, ap, ◌∙◌, ap₂, subst, lt_of_le_of_lt, lt_of_lt_of_le, mul-lt-mul_of_pos_right, arith, zero-lt-suc, pow_pos, pow_mono, pow-add}
use borrow.Author.Differences.{ints}
use Rattle.std.specs.Int.{int_signum, w128}
use Rattle.std.proofs.lemmas.Int.{to_z_pos}
use Rattle.exact.specs.Exact.{Exact, scaled, two^, ◌≈◌, ◌⊞◌}
use Rattle.exact.specs.Rounding.{RoundAlike}
use Rattle.exact.proofs.Signs.{abs_mul}
use Rattle.exact.proofs.Scaled.{sum_close, plus_zero}
use Rattle.exact.proofs.Scale.{plus_comm}
use Rattle.exact.proofs.Sums.{far_plus, far_minus, same_alike, alike_same}
use Rattle.rounding.proofs.Wholes.{whole_fits, same_whole}

-- ---- sizes
abs_plus : (x y : ℤ) → nat_abs (x +ℤ y) ≤ nat_abs x + nat_abs y
abs_plus x y = omega (arith, ints)

-- ---- 2 ^ a, as a shift makes it
power_short : (a : ℕ) → a < 77 → 2 ^ a < 2 ^ 126
power_short a near = lt_of_le_of_lt (pow_mono {i = a} {j = 76} (omega arith)) (omega arith)

shift_is : (p : ℕ) → p < 2 ^ 126 → 1 * p % 2 ^ 128 ≡ p
shift_is p short = omega arith

pub shift_fits : (a : ℕ) → a < 77 → FitsSigned w128 (pos (1 * 2 ^ a % 2 ^ 128))
shift_fits a near = rw (shift_is (2 ^ a) (power_short a near)) (whole_fits (pos (2 ^ a)) (power_short a near))

pub shift_gives : (a : ℕ) → a < 77 → to_z w128 (1 * 2 ^ a % 2 ^ 128) ≡ two^ a
shift_gives a near = ap (to_z w128) (shift_is (2 ^ a) (power_short a near)) ∙ to_z_pos w128 (2 ^ a) (omega (arith, power_short a near))

-- ---- x, moved up by a digits, and y, in the code's whole numbers
module _ (x y p : ℤ) (a : ℕ) (hx : nat_abs x < 2 ^ 48) (hy : nat_abs y < 2 ^ 48) (near : a < 77) (power : p ≡ two^ a) where
  short_product : nat_abs (x *ℤ two^ a) < 2 ^ 124
  short_product =
      rw (abs_mul x (two^ a))
      (lt_of_lt_of_le (mul-lt-mul_of_pos_right hx (pow_pos a)) (subst (λ (z : ℕ). z ≤ 2 ^ 124) (pow-add 2 48 a) (pow_mono {i = 48 + a} {j = 124} (omega arith))))

  short_sum : nat_abs (x *ℤ two^ a +ℤ y) < 2 ^ 125
  short_sum = omega (arith, abs_plus (x *ℤ two^ a) y, short_product)

  product_is : to_z w128 (of_z w128 x) *ℤ to_z w128 (of_z w128 p) ≡ x *ℤ two^ a
  product_is = ap₂ ◌*ℤ◌ (same_whole x (omega arith)) (ap (λ (z : ℤ). to_z w128 (of_z w128 z)) power ∙ same_whole (two^ a) (power_short a near))

  sum_is : to_z w128 (of_z w128 (to_z w128 (of_z w128 x) *ℤ to_z w128 (of_z w128 p))) +ℤ to_z w128 (of_z w128 y) ≡ x *ℤ two^ a +ℤ y
  sum_is = ap₂ ◌+ℤ◌ (ap (λ (z : ℤ). to_z w128 (of_z w128 z)) product_is ∙ same_whole (x *ℤ two^ a) (omega (arith, short_product))) (same_whole y (omega arith))

  pub product_fits : FitsSigned w128 (to_z w128 (of_z w128 x) *ℤ to_z w128 (of_z w128 p))
  product_fits = rw product_is (whole_fits (x *ℤ two^ a) (omega (arith, short_product)))

  pub sum_fits : FitsSigned w128 (to_z w128 (of_z w128 (to_z w128 (of_z w128 x) *ℤ to_z w128 (of_z w128 p))) +ℤ to_z w128 (of_z w128 y))
  sum_fits = rw sum_is (whole_fits (x *ℤ two^ a +ℤ y) (omega (arith, short_sum)))

  pub moved : to_z w128 (of_z w128 (to_z w128 (of_z w128 (to_z w128 (of_z w128 x) *ℤ to_z w128 (of_z w128 p))) +ℤ to_z w128 (of_z w128 y))) ≡ x *ℤ two^ a +ℤ y
  moved = ap (λ (z : ℤ). to_z w128 (of_z w128 z)) sum_is ∙ same_whole (x *ℤ two^ a +ℤ y) (omega (arith, short_sum))

  pub moved_short : nat_abs (to_z w128 (of_z w128 (to_z w128 (of_z w128 (to_z w128 (of_z w128 x) *ℤ to_z w128 (of_z w128 p))) +ℤ to_z w128 (of_z w128 y)))) < 2 ^ 126
  moved_short = rw moved (omega (arith, short_sum))

pub operands_same : (x y : ℤ) (a : ℕ) → nat_abs x < 2 ^ 48 → nat_abs y < 2 ^ 48 → to_z w128 (of_z w128 x) *ℤ two^ a +ℤ to_z w128 (of_z w128 y) ≡ x *ℤ two^ a +ℤ y
operands_same x y a hx hy = ap₂ (λ (u v : ℤ). u *ℤ two^ a +ℤ v) (same_whole x (omega arith)) (same_whole y (omega arith))

-- ---- near each other: the sum is exact
pub close_is : (x y r ex ey e : ℤ) (a : ℕ) → ex ≡ ey +ℤ pos a → e ≡ ey → r ≡ x *ℤ two^ a +ℤ y → scaled r e ≈ scaled x ex ⊞ scaled y ey
close_is x y r ex ey e a places q s = subst (λ (z : Exact). z ≈ scaled x ex ⊞ scaled y ey) (λ i. scaled (sym s i) (sym q i)) (sum_close x y ex ey a places)

-- ---- far from each other: one unit for the smaller addend, with its sign
some : (n : ℕ) → (pos n ≡ pos 0 → ⊥) → 0 < n
some zero h = absurd (h refl)
some (suc n) h = zero-lt-suc n

outward : (X Y : ℕ) → 0 < Y → pos (X * 2 ^ 30 + 1) ≡ pos X *ℤ two^ 30 +ℤ int_signum (pos Y)
outward X Y h = omega (arith, ints)

inward : (X Y : ℕ) → 0 < X → pos (X * 2 ^ 30 - 1) ≡ pos X *ℤ two^ 30 +ℤ int_signum (negsuc Y)
inward X Y h = omega (arith, ints)

inward_below : (X Y : ℕ) → 0 < Y → neg_ℤ (pos (suc X * 2 ^ 30 - 1)) ≡ negsuc X *ℤ two^ 30 +ℤ int_signum (pos Y)
inward_below X Y h = omega (arith, ints)

outward_below : (X Y : ℕ) → neg_ℤ (pos (suc X * 2 ^ 30 + 1)) ≡ negsuc X *ℤ two^ 30 +ℤ int_signum (negsuc Y)
outward_below X Y = omega (arith, ints)

module _ (ex ey : ℤ) (far : (ey +ℤ pos 77) ≤ℤ ex) where
  alike : (x y : ℤ) → (x ≡ pos 0 → ⊥) → (y ≡ pos 0 → ⊥) → nat_abs y < 2 ^ 48 → RoundAlike 24 (scaled (x *ℤ two^ 30 +ℤ int_signum y) (ex -ℤ pos 30)) (scaled x ex ⊞ scaled y ey)
  alike (pos X) (pos Y) hx hy short =
      subst (λ (z : ℤ). RoundAlike 24 (scaled z (ex -ℤ pos 30)) (scaled (pos X) ex ⊞ scaled (pos Y) ey)) (outward X Y (some Y hy)) (far_plus false X Y ex ey (some X hx) (some Y hy) short far)
  alike (pos X) (negsuc Y) hx hy short =
      subst (λ (z : ℤ). RoundAlike 24 (scaled z (ex -ℤ pos 30)) (scaled (pos X) ex ⊞ scaled (negsuc Y) ey)) (inward X Y (some X hx)) (far_minus false X (suc Y) ex ey (some X hx) (zero-lt-suc Y) short far)
  alike (negsuc X) (pos Y) hx hy short =
      subst (λ (z : ℤ). RoundAlike 24 (scaled z (ex -ℤ pos 30)) (scaled (negsuc X) ex ⊞ scaled (pos Y) ey)) (inward_below X Y (some Y hy)) (far_minus true (suc X) Y ex ey (zero-lt-suc X) (some Y hy) short far)
  alike (negsuc X) (negsuc Y) hx hy short =
      subst (λ (z : ℤ). RoundAlike 24 (scaled z (ex -ℤ pos 30)) (scaled (negsuc X) ex ⊞ scaled (negsuc Y) ey)) (outward_below X Y) (far_plus true (suc X) (suc Y) ex ey (zero-lt-suc X) (zero-lt-suc Y) short far)

  pub far_is : (x y r e : ℤ) → (x ≡ pos 0 → ⊥) → (y ≡ pos 0 → ⊥) → nat_abs y < 2 ^ 48 → r ≡ x *ℤ two^ 30 +ℤ int_signum y → e ≡ ex -ℤ pos 30 → RoundAlike 24 (scaled r e) (scaled x ex ⊞ scaled y ey)
  far_is x y r e hx hy short s f = subst (λ (z : Exact). RoundAlike 24 z (scaled x ex ⊞ scaled y ey)) (λ i. scaled (sym s i) (sym f i)) (alike x y hx hy short)

-- a zero
pub zero_right : (r : Exact) (n ex y ey : ℤ) → y ≡ pos 0 → r ≡ scaled n ex → RoundAlike 24 r (scaled n ex ⊞ scaled y ey)
zero_right r n ex y ey z h =
    same_alike 24 r (scaled n ex ⊞ scaled y ey)
    (subst (λ (x : Exact). x ≈ scaled n ex ⊞ scaled y ey) (sym h) (subst (λ (k : ℤ). scaled n ex ≈ scaled n ex ⊞ scaled k ey) (sym z) (plus_zero n ex ey)))

-- the same sum in the other order
pub other_order : (r x y : Exact) → RoundAlike 24 r (x ⊞ y) → RoundAlike 24 r (y ⊞ x)
other_order r x y h = alike_same 24 r (x ⊞ y) (y ⊞ x) (plus_comm x y) h
