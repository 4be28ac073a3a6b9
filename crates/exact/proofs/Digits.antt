-- How many binary digits a number has.
use Rattle.std.proofs.Common.{◌≡◌, ℕ, zero, suc, ◌+◌, ◌-◌, ◌*◌, ◌/◌, ◌^◌, ◌<◌, ◌≤◌, refl, ◌∙◌, le_trans, le_of_eq, mul-le-mul_right, div-lt_iff_lt-mul, mul-lt-mul_of_pos_right, pow-suc, le-div_iff_mul-le, arith, pow_pos, pow_mono, pow-add}
use native.Mathlib.Decide.{dec_le}
use lib.Ieee.{size as digits}
use lib.Ieee.Digits.{size-lt, size_reaches, size-le}

digits_is : (n j : ℕ) → 2 ^ j ≤ n → n < 2 ^ suc j → digits n ≡ suc j
digits_is n j lo hi = go (dec_le (suc j) (digits n))
  where
    go : Dec (suc j ≤ digits n) → digits n ≡ suc j
    go (yes h) = omega (arith, size-le n (suc j) hi)
    go (no b) = let q : 2 ^ digits n ≤ 2 ^ j = pow_mono (omega arith) in absurd (omega (arith, size-lt n))

pub digits_by : (n m : ℕ) → n < 2 ^ m → 2 ^ m ≤ 2 * n + 1 → digits n ≡ m
digits_by n zero hi lo = omega (arith, size-le n 0 hi)
digits_by n (suc j) hi lo = digits_is n j (omega (arith, pow-suc 2 j)) hi

-- p digits and k noughts behind them
pub digits_behind : (p m k : ℕ) → m < 2 ^ p → 2 ^ p ≤ 2 * m → digits (m * 2 ^ k) ≡ p + k
digits_behind zero m k hi lo = absurd (omega arith)
digits_behind (suc p) m k hi lo =
    let h : 2 ^ p ≤ m = omega (arith, pow-suc 2 p) in
    let a : 2 ^ (p + k) ≤ m * 2 ^ k = rw (pow-add 2 p k) (mul-le-mul_right (2 ^ k) h) in
    let b : m * 2 ^ k < 2 ^ suc (p + k) = rw (back p k, pow-add 2 (suc p) k) (mul-lt-mul_of_pos_right hi (pow_pos k)) in
    digits_is (m * 2 ^ k) (p + k) a b ∙ back p k
  where
    back : (p k : ℕ) → suc (p + k) ≡ suc p + k
    back p k = omega arith

pub digits_full : (n : ℕ) → 0 < n → 2 ^ digits n ≤ 2 * n
digits_full n h = go (digits n) refl
  where
    go : (z : ℕ) → digits n ≡ z → 2 ^ digits n ≤ 2 * n
    go zero e = absurd (omega (arith, rw e at (size-lt n)))
    go (suc j) e = rw (e, pow-suc 2 j) (omega (arith, size_reaches n j (rw e (omega arith))))

pub digits_mul : (n k : ℕ) → 0 < n → digits (n * 2 ^ k) ≡ digits n + k
digits_mul n k h = digits_behind (digits n) n k (size-lt n) (digits_full n h)

-- m has n of p digits: with the rest as noughts it has p
pub lifted : (p m k n : ℕ) → n + k ≡ p → m < 2 ^ n → 2 ^ n ≤ 2 * m → (m * 2 ^ k < 2 ^ p) × (2 ^ p ≤ 2 * (m * 2 ^ k))
lifted p m k n e hi lo = rw (← e, pow-add 2 n k) (mul-lt-mul_of_pos_right hi (pow_pos k), le_trans (mul-le-mul_right (2 ^ k) lo) (le_of_eq (swap m (2 ^ k))))
  where
    swap : (a b : ℕ) → 2 * a * b ≡ 2 * (a * b)
    swap a b = omega arith

-- with k digits cut off, p digits are left
pub quotient_full : (p M k : ℕ) → digits M ≡ p + k → 0 < p → (M / 2 ^ k < 2 ^ p) × (2 ^ p ≤ 2 * (M / 2 ^ k))
quotient_full zero M k e h = absurd (omega arith)
quotient_full (suc p) M k e h =
    let a : M < 2 ^ suc p * 2 ^ k = rw (← pow-add 2 (suc p) k, ← e) (size-lt M) in
    let b : 2 ^ (p + k) ≤ M = size_reaches M (p + k) (omega arith) in
    let c : 2 ^ p ≤ M / 2 ^ k = (le-div_iff_mul-le (pow_pos k)).1 (rw (pow-add 2 p k) at b) in
    ((div-lt_iff_lt-mul (pow_pos k)).1 a, rw (pow-suc 2 p) (omega arith))

-- the power of two below a number that is at least 2 ^ a
pub binade : (a t : ℕ) → 2 ^ a ≤ t → (j : ℕ) × (2 ^ a * 2 ^ j ≤ t) × (t < 2 * (2 ^ a * 2 ^ j))
binade a t h = (digits t - suc a, low, high)
  where
    more : suc a ≤ digits t
    more = go (dec_le (suc a) (digits t))
      where
        go : Dec (suc a ≤ digits t) → suc a ≤ digits t
        go (yes l) = l
        go (no b) = let q : 2 ^ digits t ≤ 2 ^ a = pow_mono (omega arith) in absurd (omega (arith, size-lt t))

    low : 2 ^ a * 2 ^ (digits t - suc a) ≤ t
    low = rw (← pow-add 2 a (digits t - suc a)) (size_reaches t (a + (digits t - suc a)) (omega (arith, more)))

    back : (n a : ℕ) → suc a ≤ n → n ≡ suc (a + (n - suc a))
    back n a h = omega arith

    high : t < 2 * (2 ^ a * 2 ^ (digits t - suc a))
    high =
        let l : t < 2 ^ digits t = size-lt t in
        let e : 2 ^ digits t ≡ 2 ^ (a + (digits t - suc a)) * 2 = rw (← pow-suc 2 (a + (digits t - suc a)), ← back (digits t) a more) refl in
        rw (← pow-add 2 a (digits t - suc a)) (omega arith)
