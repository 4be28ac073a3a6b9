-- What a rounding loses of a product or of a sum of two numbers of precision p is itself a number of precision p.
use Rattle.std.proofs.Common.{◌≡◌, ℕ, zero, suc, ◌+◌, ◌*◌, ◌^◌, ◌<◌, ◌≤◌, [], ◌∷◌, ℤ, pos, ◌+ℤ◌, ◌-ℤ◌, ◌*ℤ◌, neg_ℤ, nat_abs, sym, ap, ◌∙◌, subst, ap₂, le_refl, mul-le-mul_right, mul-le-mul, pow-suc, arith, pow_pos, pow-add}
use native.Mathlib.Decide.{dec_le, dec_lt}
use native.Mathlib.Nat.{le_of_mul-le-mul_left}
use borrow.Author.Differences.{ints}
use Rattle.exact.proofs.Ring.{ring, v, ◌⊗◌}
use Rattle.exact.proofs.Signs.{abs_mul}
use Rattle.exact.proofs.Scale.{two_add}
use Rattle.exact.proofs.Digits.{binade}
use Rattle.exact.proofs.Precision.{Multiple, WholePrecision, multiple_plus, multiple_neg, multiple_less, zero_precise, multiple_precise, precise_multiple}
use Rattle.exact.proofs.Nearness.{NearestWhole, kept, reaches, half_spacing}
use Rattle.exact.specs.Exact.{two^}

-- nothing is lost of a number of precision p
none : (t r : ℤ) → r ≡ t → pos 0 ≡ r -ℤ t
none t r e = omega (arith, ints)

pub no_error : (p : ℕ) {t r : ℤ} → WholePrecision p t → NearestWhole p t r → WholePrecision p (r -ℤ t)
no_error p {t} {r} h n = subst (WholePrecision p) (none t r (kept p h n)) (zero_precise p)

-- a multiple of 2 ^ i is rounded to a multiple of 2 ^ i
rounded_multiple : (p i : ℕ) {t r : ℤ} → 0 < p → Multiple i t → NearestWhole p t r → Multiple i r
rounded_multiple p i {t} {r} hp m n = go (dec_le (nat_abs t) (2 ^ p * 2 ^ i))
  where
    go : Dec (nat_abs t ≤ 2 ^ p * 2 ^ i) → Multiple i r
    go (yes l) = subst (Multiple i) (sym (kept p (multiple_precise p i hp m l) n)) m
    go (no b) =
        multiple_less i (suc i) (omega arith) (precise_multiple p i n.precise (reaches p i (2 ^ p) hp n (le_refl (2 ^ p)) (omega arith)))

-- an error that is not larger than 2 ^ p · 2 ^ i
small_error : (p i : ℕ) {t r : ℤ} → 0 < p → Multiple i t → NearestWhole p t r → nat_abs (r -ℤ t) ≤ 2 ^ p * 2 ^ i → WholePrecision p (r -ℤ t)
small_error p i {t} {r} hp m n l = multiple_precise p i hp (subst (Multiple i) (difference t r) (multiple_plus i (rounded_multiple p i hp m n) (multiple_neg i m))) l
  where
    difference : (t r : ℤ) → r +ℤ neg_ℤ t ≡ r -ℤ t
    difference t r = omega (arith, ints)

-- ---- a product N · 2 ^ i, with N at most 2 ^ p · 2 ^ p
product_error_by : (p i : ℕ) {t r : ℤ} → 0 < p → Multiple i t → nat_abs t ≤ 2 ^ p * 2 ^ p * 2 ^ i → NearestWhole p t r → WholePrecision p (r -ℤ t)
product_error_by p i {t} {r} hp m below n = go (dec_le (2 ^ p * 2 ^ i) (nat_abs t))
  where
    no_more : (P V W T : ℕ) → P * W * V ≤ T → T ≤ P * P * W → P * (W * V) ≤ P * (P * W)
    no_more P V W T lo hi = omega arith

    go : Dec (2 ^ p * 2 ^ i ≤ nat_abs t) → WholePrecision p (r -ℤ t)
    go (no l) = no_error p (multiple_precise p i hp m (omega arith)) n
    go (yes l) =
        let (d, lo, hi) = binade (p + i) (nat_abs t) (rw (pow-add 2 p i) l) in
        let lo' : 2 ^ p * 2 ^ i * 2 ^ d ≤ nat_abs t = rw (← pow-add 2 p i) lo in
        let hi' : nat_abs t < 2 * (2 ^ p * 2 ^ i * 2 ^ d) = rw (← pow-add 2 p i) hi in
        let e : 2 ^ (i + d) ≡ 2 ^ i * 2 ^ d = pow-add 2 i d in
        let half : 2 * nat_abs (r -ℤ t) ≤ 2 ^ suc (i + d) = half_spacing p (suc (i + d)) hp n (rw (pow-suc 2 (i + d), e) (omega arith)) in
        let u : 2 ^ i * 2 ^ d ≤ 2 ^ p * 2 ^ i = le_of_mul-le-mul_left (no_more (2 ^ p) (2 ^ d) (2 ^ i) (nat_abs t) lo' below) (pow_pos p) in
        small_error p i hp m n (omega (arith, e, pow-suc 2 (i + d)))

-- a number without a digit is zero, and so is its product with another
no_digit : (m n p : ℕ) → (0 < p → ⊥) → m < 2 ^ p → m * n < 2 ^ p
no_digit m n zero h l = omega (arith, ap (λ k. k * n) (first m l))
  where
    first : (m : ℕ) → m < 1 → m ≡ 0
    first m l = omega arith
no_digit m n (suc p) h l = absurd (h (omega arith))

pub product_error : (p : ℕ) {x y r : ℤ} → WholePrecision p x → WholePrecision p y → NearestWhole p (x *ℤ y) r → WholePrecision p (r -ℤ x *ℤ y)
product_error p {x} {y} {r} (a, j, la, ex) (b, k, lb, ey) n = go (dec_lt 0 p)
  where
    product : x *ℤ y ≡ a *ℤ b *ℤ two^ (j + k)
    product = ap₂ ◌*ℤ◌ ex ey ∙ ring (a ∷ b ∷ two^ j ∷ two^ k ∷ []) (v 0 ⊗ v 2 ⊗ (v 1 ⊗ v 3)) (v 0 ⊗ v 1 ⊗ (v 2 ⊗ v 3)) tt ∙ ap (λ z. a *ℤ b *ℤ z) (sym (two_add j k))

    below : nat_abs (x *ℤ y) ≤ 2 ^ p * 2 ^ p * 2 ^ (j + k)
    below =
        let q : nat_abs a * nat_abs b ≤ 2 ^ p * 2 ^ p = mul-le-mul (omega arith) (omega arith) in
        rw (ap nat_abs product ∙ abs_mul (a *ℤ b) (two^ (j + k)) ∙ ap (λ z. z * 2 ^ (j + k)) (abs_mul a b)) (mul-le-mul_right (2 ^ (j + k)) q)

    go : Dec (0 < p) → WholePrecision p (r -ℤ x *ℤ y)
    go (yes hp) = product_error_by p (j + k) hp (a *ℤ b, product) below n
    go (no z) = no_error p (a *ℤ b, j + k, rw (abs_mul a b) (no_digit (nat_abs a) (nat_abs b) p z la), product) n

-- ---- a sum: the term with the higher last digit is itself a candidate, so the error is not larger than the other term
sum_error_by : (p : ℕ) {x y r : ℤ} (i k : ℕ) (a b : ℤ) → 0 < p → nat_abs a < 2 ^ p → x ≡ a *ℤ two^ i → y ≡ b *ℤ two^ k → i ≤ k → WholePrecision p y → NearestWhole p (x +ℤ y) r → WholePrecision p (r -ℤ (x +ℤ y))
sum_error_by p {x} {y} {r} i k a b hp la ex ey h wy n =
    small_error p i hp (multiple_plus i (a, ex) (multiple_less i k h (b, ey))) n (bounded (nat_abs a) (2 ^ p) (2 ^ i) (nat_abs (r -ℤ (x +ℤ y))) la (rw (ap nat_abs ex ∙ abs_mul a (two^ i)) at (not_larger x y r (n.near y wy))))
  where
    not_larger : (x y r : ℤ) → nat_abs (r -ℤ (x +ℤ y)) ≤ nat_abs (y -ℤ (x +ℤ y)) → nat_abs (r -ℤ (x +ℤ y)) ≤ nat_abs x
    not_larger x y r l = omega (arith, ints)

    bounded : (m P W e : ℕ) → m < P → e ≤ m * W → e ≤ P * W
    bounded m P W e l q = let s : m * W ≤ P * W = mul-le-mul_right W (omega arith) in omega arith

pub sum_error : (p : ℕ) {x y r : ℤ} → 0 < p → WholePrecision p x → WholePrecision p y → NearestWhole p (x +ℤ y) r → WholePrecision p (r -ℤ (x +ℤ y))
sum_error p {x} {y} {r} hp (a, i, la, ex) (b, k, lb, ey) n = go (dec_le i k)
  where
    swap : (x y : ℤ) → x +ℤ y ≡ y +ℤ x
    swap x y = omega (arith, ints)

    go : Dec (i ≤ k) → WholePrecision p (r -ℤ (x +ℤ y))
    go (yes h) = sum_error_by p i k a b hp la ex ey h (b, k, lb, ey) n
    go (no h) = subst (λ t. WholePrecision p (r -ℤ t)) (swap y x) (sum_error_by p k i b a hp lb ey ex (omega arith) (a, i, la, ex) (subst (λ t. NearestWhole p t r) (swap x y) n))
