-- The one form of a value of precision p: there is one, and only one.
use Rattle.std.proofs.Common.{◌≡◌, ℕ, ◌+◌, ◌-◌, ◌*◌, ◌/◌, ◌^◌, ◌<◌, ◌≤◌, Bool, true, false, cond, T, eqb, ◌⊎◌, ℤ, pos, ◌+ℤ◌, ◌-ℤ◌, ◌*ℤ◌, nat_abs, sym, refl, ap, ◌∙◌, subst, inl, inr, eq-zero-or-pos, mul-pos, arith, eqb→eq, pow_pos, pow-add}
use native.Mathlib.Nat.{eq_of_mul-eq-mul_right}
use lib.Ieee.{size as digits}
use lib.Ieee.Digits.{size-lt, size-le}
use borrow.Author.Differences.{ints, up, down}
use Rattle.std.proofs.lemmas.Nat.{shl-shr}
use Rattle.exact.proofs.Signs.{abs_mul, abs_signed, negative_signed, negative_mul, signed_self, signed_zero, signed_mul}
use Rattle.exact.proofs.Scale.{same_trans}
use Rattle.exact.proofs.Scaled.{scaled_cross, shift, zero_scaled}
use Rattle.exact.proofs.Digits.{digits_behind, digits_full, digits_mul, lifted}
use Rattle.exact.specs.Exact.{Exact, HasPrecision, two^, ◌≈◌, scaled, signed_by, is_negative}
use Rattle.exact.specs.Parts.{Parts, parts, zero_parts, value, Canonical, canonical}

-- x is a form of the value t
pub record Form (p : ℕ) (t : Exact) (x : Parts) : Type 0 where
  pub canonical : Canonical p x
  pub same : value p x ≈ t

-- ---- N · 2 ^ d = m · 2 ^ u, where m has p digits: m are the first p digits of N
module _ (p m N u d : ℕ) (short : m < 2 ^ p) (full : 2 ^ p ≤ 2 * m) (e : m * 2 ^ u ≡ N * 2 ^ d) where
  some_m : 0 < m
  some_m = omega (arith, pow_pos p)

  some_N : 0 < N
  some_N = go (eq-zero-or-pos N)
    where
      go : (N ≡ 0) ⊎ (0 < N) → 0 < N
      go (inl z) = absurd (omega (arith, mul-pos some_m (pow_pos u), rw z at e))
      go (inr h) = h

  digits_both : digits N + d ≡ p + u
  digits_both = sym (digits_mul N d some_N) ∙ ap digits (sym e) ∙ digits_behind p m u short full

  first_digits : N * 2 ^ p / 2 ^ digits N ≡ m
  first_digits = ap (λ (z : ℕ). z / 2 ^ digits N) q ∙ shl-shr m (digits N)
    where
      a : N * 2 ^ p * 2 ^ d ≡ N * 2 ^ d * 2 ^ p
      a = omega arith

      b : m * 2 ^ u * 2 ^ p ≡ m * 2 ^ (p + u)
      b = rw (pow-add 2 p u) (omega arith)

      c : m * 2 ^ (digits N + d) ≡ m * 2 ^ digits N * 2 ^ d
      c = rw (pow-add 2 (digits N) d) (omega arith)

      q : N * 2 ^ p ≡ m * 2 ^ digits N
      q = eq_of_mul-eq-mul_right (2 ^ d) (pow_pos d) (N * 2 ^ p) (m * 2 ^ digits N) (a ∙ ap (λ (z : ℕ). z * 2 ^ p) (sym e) ∙ b ∙ ap (λ (z : ℕ). m * 2 ^ z) (sym digits_both) ∙ c)

-- ---- a form of t is `canonical` of t
not_zero : (n : ℕ) → 0 < n → eqb n 0 ≡ false
not_zero n h = go (eqb n 0) (eqb→eq n 0)
  where
    go : (b : Bool) → (T b → n ≡ 0) → b ≡ false
    go true f = absurd (omega (arith, f tt))
    go false f = refl

canonical_full : (p : ℕ) (b : Bool) (m : ℕ) (e : ℤ) (t : Exact) → m < 2 ^ p → 2 ^ p ≤ 2 * m → value p (parts b m e) ≈ t → canonical p t ≡ parts b m e
unfolding canonical
canonical_full p b m e t short full s =
    let f = e +ℤ pos 1 -ℤ pos p in
    let N = nat_abs t.num in
    let h : signed_by b m *ℤ two^ (up f + t.low) ≡ t.num *ℤ two^ (down f) = scaled_cross (signed_by b m) f t s in
    let n : m * 2 ^ (up f + t.low) ≡ N * 2 ^ down f =
    ap (λ (z : ℕ). z * 2 ^ (up f + t.low)) (sym (abs_signed b m)) ∙ sym (abs_mul (signed_by b m) (two^ (up f + t.low))) ∙ ap nat_abs h ∙ abs_mul t.num (two^ (down f)) in
    let g : is_negative t.num ≡ b =
    sym (negative_mul t.num (2 ^ down f) (pow_pos (down f))) ∙ ap is_negative (sym h) ∙ negative_mul (signed_by b m) (2 ^ (up f + t.low)) (pow_pos (up f + t.low))
    ∙ negative_signed b m (some_m p m N (up f + t.low) (down f) short full n) in
    rw (
      not_zero N (some_N p m N (up f + t.low) (down f) short full n),
      g,
      first_digits p m N (up f + t.low) (down f) short full n,
      exponent_is (digits N) p t.low e (digits_both p m N (up f + t.low) (down f) short full n),
    ) refl
  where
    exponent_is : (n p l : ℕ) (e : ℤ) → n + down (e +ℤ pos 1 -ℤ pos p) ≡ p + (up (e +ℤ pos 1 -ℤ pos p) + l) → pos n -ℤ pos 1 -ℤ pos l ≡ e
    exponent_is n p l e h = omega (arith, ints)

zero_size : (e : ℤ) (t : Exact) → scaled (pos 0) e ≈ t → nat_abs t.num ≡ 0
zero_size e t h = go (eq-zero-or-pos (nat_abs t.num)) (ap nat_abs (scaled_cross (pos 0) e t h) ∙ abs_mul t.num (two^ (down e)))
  where
    go : (nat_abs t.num ≡ 0) ⊎ (0 < nat_abs t.num) → 0 * 2 ^ (up e + t.low) ≡ nat_abs t.num * 2 ^ down e → nat_abs t.num ≡ 0
    go (inl q) z = q
    go (inr q) z = absurd (omega (arith, mul-pos q (pow_pos (down e))))

pub canonical_zero : (p : ℕ) (t : Exact) → nat_abs t.num ≡ 0 → canonical p t ≡ zero_parts
unfolding canonical
canonical_zero p t z = ap (λ (n : ℕ). cond (eqb n 0) zero_parts (parts (is_negative t.num) (n * 2 ^ p / 2 ^ digits n) (pos (digits n) -ℤ pos 1 -ℤ pos t.low))) z

pub one_form : (p : ℕ) (t : Exact) (x : Parts) → Form p t x → canonical p t ≡ x
one_form p t x f = go (eq-zero-or-pos x.significand)
  where
    go : (x.significand ≡ 0) ⊎ (0 < x.significand) → canonical p t ≡ x
    go (inr h) = canonical_full p x.negative x.significand x.exponent t f.canonical.short (f.canonical.full h) f.same
    go (inl z) =
        let b = f.canonical.plain z in
        let e = f.canonical.flat z in
        let q : x ≡ zero_parts = λ i. parts (b i) (z i) (e i) in
        let s : value p zero_parts ≈ t = subst (λ (y : Parts). value p y ≈ t) q f.same in
        canonical_zero p t (zero_size _ t s) ∙ sym q

-- numbers of precision p that have the same value have the same parts
pub same_parts : (p : ℕ) (x y : Parts) → Canonical p x → Canonical p y → value p x ≈ value p y → x ≡ y
same_parts p x y a b e = sym (one_form p (value p y) x (record { canonical = a; same = e })) ∙ one_form p (value p y) y (record { canonical = b; same = refl })

-- ---- every value of precision p has a form
pub normal : (p : ℕ) (x : Parts) → x.significand < 2 ^ p → 2 ^ p ≤ 2 * x.significand → Canonical p x
normal p x short full = record { short = short; full = λ h. full; plain = λ z. absurd (omega (arith, pow_pos p)); flat = λ z. absurd (omega (arith, pow_pos p)) }

pub zero_canonical : (p : ℕ) → Canonical p zero_parts
zero_canonical p = record { short = pow_pos p; full = λ h. absurd (omega arith); plain = λ z. refl; flat = λ z. refl }

-- m · 2 ^ e, where m has n of p digits, with noughts behind
moved : (b : Bool) (m k p n : ℕ) (e : ℤ) → n + k ≡ p → value p (parts b (m * 2 ^ k) (e +ℤ pos n -ℤ pos 1)) ≈ scaled (signed_by b m) e
moved b m k p n e h =
    subst (λ (z : ℤ). scaled z (e +ℤ pos n -ℤ pos 1 +ℤ pos 1 -ℤ pos p) ≈ scaled (signed_by b m) e) (sym (signed_mul b m (2 ^ k)))
    (subst (λ (z : ℤ). scaled (signed_by b m *ℤ two^ k) (e +ℤ pos n -ℤ pos 1 +ℤ pos 1 -ℤ pos p) ≈ scaled (signed_by b m) z) (back n k p e h)
    (shift (signed_by b m) (e +ℤ pos n -ℤ pos 1 +ℤ pos 1 -ℤ pos p) k))
  where
    back : (n k p : ℕ) (e : ℤ) → n + k ≡ p → e +ℤ pos n -ℤ pos 1 +ℤ pos 1 -ℤ pos p +ℤ pos k ≡ e
    back n k p e h = omega (arith, ints)

pub lifted_form : (p : ℕ) (b : Bool) (m k n : ℕ) (e : ℤ) → n + k ≡ p → m < 2 ^ n → 2 ^ n ≤ 2 * m → Form p (scaled (signed_by b m) e) (parts b (m * 2 ^ k) (e +ℤ pos n -ℤ pos 1))
lifted_form p b m k n e h short full =
    let (a, c) = lifted p m k n h short full in
    record { canonical = normal p (parts b (m * 2 ^ k) (e +ℤ pos n -ℤ pos 1)) a c; same = moved b m k p n e h }

pub form_like : (p : ℕ) (s t : Exact) (x : Parts) → s ≈ t → Form p s x → Form p t x
form_like p s t x e f = record { canonical = f.canonical; same = same_trans (value p x) s t f.same e }

taken : (p : ℕ) (t : Exact) (x : Parts) → Form p t x → Form p t (canonical p t)
taken p t x f = subst (λ (y : Parts). Form p t y) (sym (one_form p t x f)) f

pub has_form : (p : ℕ) (t : Exact) → HasPrecision p t → Form p t (canonical p t)
has_form p t (m, e, lt, s) = go (eq-zero-or-pos (nat_abs m))
  where
    fits : (n : ℕ) → n < 2 ^ p → digits n + (p - digits n) ≡ p
    fits n h = omega (arith, size-le n p h)

    go : (nat_abs m ≡ 0) ⊎ (0 < nat_abs m) → Form p t (canonical p t)
    go (inr h) =
        let n = nat_abs m in
        let f = lifted_form p (is_negative m) n (p - digits n) (digits n) e (fits n lt) (size-lt n) (digits_full n h) in
        taken p t _ (form_like p (scaled m e) t _ (sym s) (subst (λ (z : ℤ). Form p (scaled z e) (parts (is_negative m) (n * 2 ^ (p - digits n)) (e +ℤ pos (digits n) -ℤ pos 1))) (signed_self m) f))
    go (inl h) =
        let z : m ≡ pos 0 = sym (signed_self m) ∙ ap (signed_by (is_negative m)) h ∙ signed_zero (is_negative m) in
        let q : scaled (pos 0) e ≈ t = sym (subst (λ (n : ℤ). t ≈ scaled n e) z s) in
        taken p t zero_parts (record { canonical = zero_canonical p; same = same_trans (value p zero_parts) (scaled (pos 0) e) t (zero_scaled (pos 0 +ℤ pos 1 -ℤ pos p) e) q })
