-- Precision p among the whole numbers of one scale, and multiples of powers of two.
use Rattle.std.proofs.Common.{◌≡◌, ℕ, zero, suc, ◌+◌, ◌-◌, ◌*◌, ◌^◌, ◌<◌, ◌≤◌, [], ◌∷◌, ℤ, pos, negsuc, ◌+ℤ◌, ◌*ℤ◌, neg_ℤ, nat_abs, sym, refl, ap, ◌∙◌, ap₂, le_trans, le_of_eq, mul-le-mul_right, mul-le-mul_left, pow-suc, le_of_mul-le-mul_right, arith, pow_pos, pow_mono, pow-add}
use native.Mathlib.Decide.{dec_le, dec_lt}
use native.Mathlib.Nat.{sub-zero}
use borrow.Author.Differences.{ints}
use Rattle.exact.proofs.Ring.{ring, v, k as constant, ◌⊗◌, neg_mul, mul_assoc, add_mul}
use Rattle.exact.proofs.Order.{cancel}
use Rattle.exact.proofs.Signs.{abs_mul, abs_signed, signed_self, signed_mul}
use Rattle.exact.proofs.Scale.{at, same_at, at_more, on, two_add, two_positive}
use Rattle.exact.specs.Exact.{Exact, HasPrecision, two^, scaled, signed_by, is_negative}

-- a multiple of 2 ^ i
abbrev pub Multiple : ℕ → ℤ → Type 0
Multiple i n = (m : ℤ) × (n ≡ m *ℤ two^ i)

-- a whole number of precision p
abbrev pub WholePrecision : ℕ → ℤ → Type 0
WholePrecision p n = (m : ℤ) × (k : ℕ) × (nat_abs m < 2 ^ p) × (n ≡ m *ℤ two^ k)

-- ---- multiples
pub multiple_plus : (i : ℕ) {a b : ℤ} → Multiple i a → Multiple i b → Multiple i (a +ℤ b)
multiple_plus i (m, e) (n, f) = (m +ℤ n, ap₂ ◌+ℤ◌ e f ∙ sym (add_mul m n (two^ i)))

pub multiple_neg : (i : ℕ) {a : ℤ} → Multiple i a → Multiple i (neg_ℤ a)
multiple_neg i (m, e) = (neg_ℤ m, ap neg_ℤ e ∙ sym (neg_mul m (two^ i)))

pub multiple_less : (i j : ℕ) {a : ℤ} → i ≤ j → Multiple j a → Multiple i a
multiple_less i j {a} h (m, e) =
    let d : two^ j ≡ two^ (j - i) *ℤ two^ i = ap two^ (omega arith) ∙ two_add (j - i) i in
    (m *ℤ two^ (j - i), e ∙ ap (λ z. m *ℤ z) d ∙ sym (mul_assoc m (two^ (j - i)) (two^ i)))

-- ---- precision and multiples
pub zero_precise : (p : ℕ) → WholePrecision p (pos 0)
zero_precise p = (pos 0, 0, pow_pos p, refl)

pub neg_precise : (p : ℕ) {n : ℤ} → WholePrecision p n → WholePrecision p (neg_ℤ n)
neg_precise p (m, k, lt, e) = (neg_ℤ m, k, rw (same m) lt, ap neg_ℤ e ∙ sym (neg_mul m (two^ k)))
  where
    same : (m : ℤ) → nat_abs (neg_ℤ m) ≡ nat_abs m
    same m = omega (arith, ints)

one_lt : (p : ℕ) → 0 < p → 1 < 2 ^ p
one_lt zero h = absurd (omega arith)
one_lt (suc p) h = omega (arith, pow-suc 2 p, pow_pos p)

-- a multiple of 2 ^ i of size at most 2 ^ p · 2 ^ i has precision p
pub multiple_precise : (p i : ℕ) {n : ℤ} → 0 < p → Multiple i n → nat_abs n ≤ 2 ^ p * 2 ^ i → WholePrecision p n
multiple_precise p i {n} hp (m, e) h = go (dec_lt (nat_abs m) (2 ^ p))
  where
    sizes : nat_abs n ≡ nat_abs m * 2 ^ i
    sizes = ap nat_abs e ∙ abs_mul m (two^ i)

    go : Dec (nat_abs m < 2 ^ p) → WholePrecision p n
    go (yes l) = (m, i, l, e)
    go (no b) =
        let le : nat_abs m ≤ 2 ^ p = le_of_mul-le-mul_right (rw (← sizes) h) (pow_pos i) in
        let eq : nat_abs m ≡ 1 * 2 ^ p = omega arith in
        let unit = signed_by (is_negative m) 1 in
        let m' : m ≡ unit *ℤ two^ p = sym (signed_self m) ∙ ap (signed_by (is_negative m)) eq ∙ signed_mul (is_negative m) 1 (2 ^ p) in
        (unit, p + i, rw (abs_signed (is_negative m) 1) (one_lt p hp), e ∙ ap (λ z. z *ℤ two^ i) m' ∙ mul_assoc unit (two^ p) (two^ i) ∙ ap (λ z. unit *ℤ pos z) (sym (pow-add 2 p i)))

-- a number of precision p and size at least 2 ^ p · 2 ^ i is a multiple of 2 ^ (i + 1)
pub precise_multiple : (p i : ℕ) {n : ℤ} → WholePrecision p n → 2 ^ p * 2 ^ i ≤ nat_abs n → Multiple (suc i) n
precise_multiple p i {n} (m, k, lt, e) h = go (dec_le (suc i) k)
  where
    sizes : nat_abs n ≡ nat_abs m * 2 ^ k
    sizes = ap nat_abs e ∙ abs_mul m (two^ k)

    go : Dec (suc i ≤ k) → Multiple (suc i) n
    go (yes l) = multiple_less (suc i) k l (m, e)
    go (no b) =
        let a : 2 ^ k ≤ 2 ^ i = pow_mono (omega arith) in
        let d : nat_abs m * 2 ^ k ≤ nat_abs m * 2 ^ i = mul-le-mul_left (nat_abs m) a in
        let f : suc (nat_abs m) * 2 ^ i ≤ 2 ^ p * 2 ^ i = mul-le-mul_right (2 ^ i) lt in
        absurd (omega (arith, pow_pos i, sizes))

-- ---- exact values of precision p, on a scale
-- a whole number of units that has precision p
pub on_precise : (p S : ℕ) {n : ℤ} → WholePrecision p n → HasPrecision p (on S n)
on_precise p S {n} (m, k, lt, e) = go (dec_le S k)
  where
    go : Dec (S ≤ k) → HasPrecision p (on S n)
    go (yes l) =
        let d : two^ k ≡ two^ (k - S) *ℤ two^ S = ap two^ (omega arith) ∙ two_add (k - S) S in
        (m, pos (k - S), lt, ap (λ z. z *ℤ pos 1) (e ∙ ap (λ z. m *ℤ z) d) ∙ ring (m ∷ two^ (k - S) ∷ two^ S ∷ []) (v 0 ⊗ (v 1 ⊗ v 2) ⊗ constant (pos 1)) (v 0 ⊗ v 1 ⊗ v 2) tt)
    go (no b) =
        let d : two^ S ≡ two^ k *ℤ two^ (suc (S - k - 1)) = ap two^ (omega arith) ∙ two_add k (suc (S - k - 1)) in
        (m, negsuc (S - k - 1), lt, ap (λ z. z *ℤ two^ (suc (S - k - 1))) e ∙ mul_assoc m (two^ k) (two^ (suc (S - k - 1))) ∙ ap (λ z. m *ℤ z) (sym d))

unit : (n : ℤ) → n ≡ n *ℤ pos 1
unit n = omega (arith, ints)

-- a factor 2 ^ k is taken away from m · 2 ^ j = n · 2 ^ k
without_factor : (p j k : ℕ) (m n : ℤ) → nat_abs m < 2 ^ p → m *ℤ two^ j ≡ n *ℤ two^ k → WholePrecision p n
without_factor p j k m n lt e = go (dec_le k j)
  where
    sizes : nat_abs m * 2 ^ j ≡ nat_abs n * 2 ^ k
    sizes = sym (abs_mul m (two^ j)) ∙ ap nat_abs e ∙ abs_mul n (two^ k)

    go : Dec (k ≤ j) → WholePrecision p n
    go (yes l) =
        let d : two^ j ≡ two^ (j - k) *ℤ two^ k = ap two^ (omega arith) ∙ two_add (j - k) k in
        (m, j - k, lt, cancel n (m *ℤ two^ (j - k)) (two^ k) (two_positive k) (sym e ∙ ap (λ z. m *ℤ z) d ∙ sym (mul_assoc m (two^ (j - k)) (two^ k))))
    go (no b) =
        let q : 2 ^ j ≤ 2 ^ k = pow_mono (omega arith) in
        let l : nat_abs n ≤ nat_abs m = le_of_mul-le-mul_right {k = 2 ^ k} (le_trans (le_of_eq (sym sizes)) (mul-le-mul_left (nat_abs m) q)) (pow_pos k) in
        (n, 0, omega arith, unit n)

pub precise_at : (p S : ℕ) (x : Exact) → x.low ≤ S → HasPrecision p x → WholePrecision p (at S x)
unfolding at
precise_at p S x h (m, pos e, lt, s) =
    without_factor p (e + S) 0 m (at S x) lt
    (ap (λ z. m *ℤ z) (two_add e S) ∙ sym (mul_assoc m (two^ e) (two^ S)) ∙ ap (λ z. m *ℤ two^ e *ℤ two^ z) (sym (sub-zero S)) ∙ sym (same_at S x (scaled m (pos e)) h (omega arith) s) ∙ unit (at S x))
precise_at p S x h (m, negsuc e, lt, s) =
    without_factor p S (suc e) m (at S x) lt
    (ap (λ z. m *ℤ two^ z) (back S (suc e)) ∙ sym (same_at (S + suc e) x (scaled m (negsuc e)) (omega arith) (omega arith) s) ∙ at_more S (suc e) x h)
  where
    back : (a b : ℕ) → a ≡ a + b - b
    back a b = omega arith
