-- Sizes and signs of whole numbers.
use Rattle.std.proofs.Common.{◌≡◌, ℕ, zero, suc, ◌+◌, ◌-◌, ◌*◌, ◌<◌, ◌≤◌, Bool, true, false, not, ℤ, pos, negsuc, ◌+ℤ◌, ◌-ℤ◌, ◌*ℤ◌, neg_ℤ, nat_abs, sym, refl, zero-lt-suc, mul-pos, arith}
use borrow.Author.Differences.{ints}
use Rattle.exact.proofs.Ring.{neg_mul}
use Rattle.exact.specs.Exact.{signed_by, is_negative}

-- ---- sizes
abs_neg : (a : ℤ) → nat_abs (neg_ℤ a) ≡ nat_abs a
abs_neg (pos zero) = refl
abs_neg (pos (suc n)) = refl
abs_neg (negsuc n) = refl

pub abs_mul : (a b : ℤ) → nat_abs (a *ℤ b) ≡ nat_abs a * nat_abs b
abs_mul (pos a) (pos b) = refl
abs_mul (pos a) (negsuc b) = abs_neg (pos (a * suc b))
abs_mul (negsuc a) (pos b) = abs_neg (pos (suc a * b))
abs_mul (negsuc a) (negsuc b) = refl

pub abs_signed : (b : Bool) (n : ℕ) → nat_abs (signed_by b n) ≡ n
abs_signed true n = abs_neg (pos n)
abs_signed false n = refl

-- ---- signs
negative_neg : (n : ℕ) → 0 < n → is_negative (neg_ℤ (pos n)) ≡ true
negative_neg zero h = absurd (omega arith)
negative_neg (suc n) h = refl

pub negative_signed : (b : Bool) (n : ℕ) → 0 < n → is_negative (signed_by b n) ≡ b
negative_signed true n h = negative_neg n h
negative_signed false n h = refl

pub negative_mul : (z : ℤ) (k : ℕ) → 0 < k → is_negative (z *ℤ pos k) ≡ is_negative z
negative_mul (pos a) k h = refl
negative_mul (negsuc a) k h = negative_neg (suc a * k) (mul-pos (zero-lt-suc a) h)

-- ---- a sign and a size
pub signed_self : (z : ℤ) → signed_by (is_negative z) (nat_abs z) ≡ z
signed_self (pos n) = refl
signed_self (negsuc n) = refl

pub signed_zero : (b : Bool) → signed_by b 0 ≡ pos 0
signed_zero true = refl
signed_zero false = refl

pub signed_mul : (b : Bool) (m k : ℕ) → signed_by b (m * k) ≡ signed_by b m *ℤ pos k
signed_mul true m k = sym (neg_mul (pos m) (pos k))
signed_mul false m k = refl

pub signed_plus : (b : Bool) (m n : ℕ) → signed_by b m +ℤ signed_by b n ≡ signed_by b (m + n)
signed_plus true m n = omega (arith, ints)
signed_plus false m n = omega (arith, ints)

pub signed_minus : (b : Bool) (m n : ℕ) → n ≤ m → signed_by b m +ℤ signed_by (not b) n ≡ signed_by b (m - n)
signed_minus true m n h = omega (arith, ints)
signed_minus false m n h = omega (arith, ints)

-- |x − y| for natural numbers, and the distance from z of a number with the sign of z
abbrev pub dist : ℕ → ℕ → ℕ
dist x y = (x - y) + (y - x)

pub signed_dist : (z : ℤ) (x : ℕ) → nat_abs (signed_by (is_negative z) x -ℤ z) ≡ dist x (nat_abs z)
signed_dist (pos n) x = omega (arith, ints)
signed_dist (negsuc n) x = omega (arith, ints)
