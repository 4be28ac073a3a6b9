-- Values m · 2 ^ e: on a scale, with another exponent, and their products and sums.
use Rattle.std.proofs.Common.{◌≡◌, ℕ, suc, ◌+◌, ◌-◌, ◌*◌, ◌^◌, ◌<◌, ◌≤◌, Bool, ◌⊎◌, [], ◌∷◌, ℤ, pos, negsuc, ◌+ℤ◌, ◌-ℤ◌, ◌*ℤ◌, nat_abs, sym, refl, ap, ◌∙◌, ap₂, inl, inr, mul-le-mul_right, mul-le-mul_left, mul-lt-mul_of_pos_right, one-mul, pow-suc, arith, pow_pos, pow-add, pow_mono}
use borrow.Author.Differences.{ints, up, down}
use Rattle.exact.proofs.Ring.{ring, v, ◌⊕◌, ◌⊗◌, mul_assoc}
use Rattle.exact.proofs.Order.{◌≼◌, ◌≺◌, le_or_lt}
use Rattle.exact.proofs.Signs.{abs_mul, abs_signed, negative_signed, negative_mul, signed_mul}
use Rattle.exact.proofs.Scale.{at, le_at, same_at, at_same, at_plus, at_times, at_more, at_on, on, two_add}
use Rattle.exact.specs.Exact.{Exact, two^, ◌≈◌, ◌⊑◌, ◌⊞◌, ◌⊠◌, size, scaled, signed_by, is_negative}

-- ---- on a scale
pub low_is : (n e : ℤ) → (scaled n e).low ≡ down e
low_is n (pos e) = refl
low_is n (negsuc e) = refl

pub at_scaled : (S : ℕ) (n e : ℤ) (w : ℕ) → e +ℤ pos S ≡ pos w → at S (scaled n e) ≡ n *ℤ two^ w
unfolding at
at_scaled S n (pos e) w h =
    mul_assoc n (two^ e) (two^ (S - 0)) ∙ ap (λ (z : ℤ). n *ℤ z) (sym (two_add e (S - 0)) ∙ ap two^ (sum e S w h))
  where
    sum : (e S w : ℕ) → pos e +ℤ pos S ≡ pos w → e + (S - 0) ≡ w
    sum e S w h = omega (arith, ints)
at_scaled S n (negsuc e) w h = ap (λ (z : ℕ). n *ℤ two^ z) (rest e S w h)
  where
    rest : (e S w : ℕ) → negsuc e +ℤ pos S ≡ pos w → S - suc e ≡ w
    rest e S w h = omega (arith, ints)

-- the digits below the point of both exponents are enough
place : (e : ℤ) (k : ℕ) → e +ℤ pos (down e + k) ≡ pos (up e + k)
place e k = omega (arith, ints)

other_place : (e : ℤ) (k : ℕ) → e +ℤ pos (k + down e) ≡ pos (up e + k)
other_place e k = omega (arith, ints)

pub one_side : (z : ℤ) → (up z ≡ 0) ⊎ (down z ≡ 0)
one_side (pos n) = inr refl
one_side (negsuc n) = inl refl

same_scaled : (m n e f : ℤ) → m *ℤ two^ (up e + down f) ≡ n *ℤ two^ (up f + down e) → scaled m e ≈ scaled n f
same_scaled m n e f h =
    let S = down e + down f in
    at_same S (scaled m e) (scaled n f) (rw (low_is m e) (omega arith)) (rw (low_is n f) (omega arith))
    (at_scaled S m e (up e + down f) (place e (down f)) ∙ h ∙ sym (at_scaled S n f (up f + down e) (other_place f (down e))))

-- a value of this form and any other, at a common denominator
pub scaled_cross : (m e : ℤ) (x : Exact) → scaled m e ≈ x → m *ℤ two^ (up e + x.low) ≡ x.num *ℤ two^ (down e)
scaled_cross m e x h =
    let S = x.low + down e in
    sym (at_scaled S m e (up e + x.low) (other_place e x.low)) ∙ same_at S (scaled m e) x (rw (low_is m e) (omega arith)) (omega arith) h
    ∙ at_more x.low (down e) x (omega arith) ∙ ap (λ z. z *ℤ two^ (down e)) (at_on x.low x.num)

-- ---- m · 2 ^ e as a fraction: the common denominator of two such values, and sizes and signs there
scaled_num : (m e : ℤ) → (scaled m e).num ≡ m *ℤ two^ (up e)
scaled_num m (pos e) = refl
scaled_num m (negsuc e) = omega (arith, ints)

pub cross : (m n e f : ℤ) → scaled m e ≈ scaled n f → m *ℤ two^ (up e) *ℤ two^ (down f) ≡ n *ℤ two^ (up f) *ℤ two^ (down e)
cross m n e f h =
    ap₂ (λ a b. a *ℤ two^ b) (sym (scaled_num m e)) (sym (low_is n f)) ∙ h ∙ ap₂ (λ a b. a *ℤ two^ b) (scaled_num n f) (low_is m e)

pub abs_cross : (b : Bool) (m i j : ℕ) → nat_abs (signed_by b m *ℤ two^ i *ℤ two^ j) ≡ m * 2 ^ (i + j)
abs_cross b m i j =
    abs_mul (signed_by b m *ℤ two^ i) (two^ j) ∙ ap (λ k. k * 2 ^ j) (abs_mul (signed_by b m) (two^ i) ∙ ap (λ k. k * 2 ^ i) (abs_signed b m))
    ∙ group m (2 ^ i) (2 ^ j) ∙ ap (λ k. m * k) (sym (pow-add 2 i j))
  where
    group : (a b c : ℕ) → a * b * c ≡ a * (b * c)
    group a b c = omega arith

pub negative_cross : (b : Bool) (m i j : ℕ) → 0 < m → is_negative (signed_by b m *ℤ two^ i *ℤ two^ j) ≡ b
negative_cross b m i j h =
    negative_mul (signed_by b m *ℤ two^ i) (2 ^ j) (pow_pos j) ∙ negative_mul (signed_by b m) (2 ^ i) (pow_pos i) ∙ negative_signed b m h

-- ---- m 2 ^ k · 2 ^ e is m · 2 ^ (e + k)
pub shift : (m e : ℤ) (k : ℕ) → scaled (m *ℤ two^ k) e ≈ scaled m (e +ℤ pos k)
shift m e k = same_scaled (m *ℤ two^ k) m e (e +ℤ pos k) (mul_assoc m (two^ k) (two^ (up e + down (e +ℤ pos k))) ∙ ap (λ z. m *ℤ z) (sym (two_add k (up e + down (e +ℤ pos k))) ∙ ap two^ (exponents e k)))
  where
    exponents : (e : ℤ) (k : ℕ) → k + (up e + down (e +ℤ pos k)) ≡ up (e +ℤ pos k) + down e
    exponents e k = omega (arith, ints)

-- the size of a value with a sign
pub size_scaled : (b : Bool) (m : ℕ) (e : ℤ) → size (scaled (signed_by b m) e) ≡ scaled (pos m) e
size_scaled b m (pos e) = ap (λ (n : ℕ). on 0 (pos n)) (abs_mul (signed_by b m) (two^ e) ∙ ap (λ (n : ℕ). n * 2 ^ e) (abs_signed b m))
size_scaled b m (negsuc e) = ap (λ (n : ℕ). on (suc e) (pos n)) (abs_signed b m)

-- of two values in order, the first with at least as many digits as the second, the exponents are in order
pub exponents_le : (p m n : ℕ) (e f : ℤ) → 2 ^ p ≤ 2 * m → n < 2 ^ p → scaled (pos m) e ⊑ scaled (pos n) f → e ≼ f
exponents_le p m n e f full short h = go (le_or_lt e f)
  where
    on_scale : pos m *ℤ two^ (up e + down f) ≼ pos n *ℤ two^ (up f + down e)
    on_scale = rw (← at_scaled (down e + down f) (pos m) e (up e + down f) (place e (down f)), ← at_scaled (down e + down f) (pos n) f (up f + down e) (other_place f (down e))) (le_at (down e + down f) (scaled (pos m) e) (scaled (pos n) f) (rw (low_is (pos m) e) (omega arith)) (rw (low_is (pos n) f) (omega arith)) h)

    higher : (e f : ℤ) → f ≺ e → suc (up f + down e) ≤ up e + down f
    higher e f l = omega (arith, ints)

    more : (P m n W V : ℕ) → P ≤ 2 * m → n < P → W * 2 ≤ V → 0 < W → n * W < m * V
    more P m n W V a b c d = omega (arith, mul-le-mul_left m c, mul-le-mul_right W a, mul-lt-mul_of_pos_right b d)

    go : (e ≼ f) ⊎ (f ≺ e) → e ≼ f
    go (inl l) = l
    go (inr l) =
        let q : 2 ^ suc (up f + down e) ≤ 2 ^ (up e + down f) = pow_mono (higher e f l) in
        let w : n * 2 ^ (up f + down e) < m * 2 ^ (up e + down f) = more (2 ^ p) m n (2 ^ (up f + down e)) (2 ^ (up e + down f)) full short (rw (pow-suc 2 (up f + down e)) at q) (pow_pos (up f + down e)) in
        absurd (omega (arith, ints, on_scale, w))

-- zero has one value, whatever the exponent
pub zero_scaled : (e f : ℤ) → scaled (pos 0) e ≈ scaled (pos 0) f
zero_scaled e f = same_scaled (pos 0) (pos 0) e f (omega (arith, ints))

-- ---- products
pub product_scaled : (m n a b : ℤ) → scaled (m *ℤ n) (a +ℤ b) ≈ scaled m a ⊠ scaled n b
product_scaled m n a b =
    at_same (down a + down b) (scaled (m *ℤ n) (a +ℤ b)) (scaled m a ⊠ scaled n b) (rw (low_is (m *ℤ n) (a +ℤ b)) (less a b (one_side (a +ℤ b)))) (rw (low_is m a, low_is n b) (omega arith))
    (at_scaled (down a + down b) (m *ℤ n) (a +ℤ b) (up a + up b) (both a b) ∙ ap (λ (z : ℤ). m *ℤ n *ℤ z) (two_add (up a) (up b))
    ∙ ring (m ∷ n ∷ two^ (up a) ∷ two^ (up b) ∷ []) (v 0 ⊗ v 1 ⊗ (v 2 ⊗ v 3)) (v 0 ⊗ v 2 ⊗ (v 1 ⊗ v 3)) tt
    ∙ ap₂ ◌*ℤ◌ (sym (at_scaled (down a) m a (up a) (own a))) (sym (at_scaled (down b) n b (up b) (own b)))
    ∙ sym (at_times (down a) (down b) (scaled m a) (scaled n b) (rw (low_is m a) (omega arith)) (rw (low_is n b) (omega arith))))
  where
    both : (a b : ℤ) → a +ℤ b +ℤ pos (down a + down b) ≡ pos (up a + up b)
    both a b = omega (arith, ints)

    own : (a : ℤ) → a +ℤ pos (down a) ≡ pos (up a)
    own a = omega (arith, ints)

    less : (a b : ℤ) → (up (a +ℤ b) ≡ 0) ⊎ (down (a +ℤ b) ≡ 0) → down (a +ℤ b) ≤ down a + down b
    less a b (inl h) = omega (arith, ints)
    less a b (inr h) = omega arith

-- M / 2 ^ k, made 2 ^ e times as large and given a sign
pub signed_fraction : (b : Bool) (M k : ℕ) (e : ℤ) → scaled (signed_by b M) (e -ℤ pos k) ≈ scaled (signed_by b 1) e ⊠ record { num = pos M; low = k }
signed_fraction b M k e =
    let f = e -ℤ pos k in
    let S = down e + k in
    at_same S (scaled (signed_by b M) f) (scaled (signed_by b 1) e ⊠ on k (pos M)) (rw (low_is (signed_by b M) f) (less e k (one_side f))) (rw (low_is (signed_by b 1) e) (omega arith))
    (at_scaled S (signed_by b M) f (up e) (top e k) ∙ ap (λ z. z *ℤ two^ (up e)) (ap (signed_by b) (sym (one-mul M)) ∙ signed_mul b 1 M)
    ∙ ring (signed_by b 1 ∷ pos M ∷ two^ (up e) ∷ []) (v 0 ⊗ v 1 ⊗ v 2) (v 0 ⊗ v 2 ⊗ v 1) tt
    ∙ ap₂ ◌*ℤ◌ (sym (at_scaled (down e) (signed_by b 1) e (up e) (own e))) (sym (at_on k (pos M)))
    ∙ sym (at_times (down e) k (scaled (signed_by b 1) e) (on k (pos M)) (rw (low_is (signed_by b 1) e) (omega arith)) (omega arith)))
  where
    top : (e : ℤ) (k : ℕ) → e -ℤ pos k +ℤ pos (down e + k) ≡ pos (up e)
    top e k = omega (arith, ints)

    own : (a : ℤ) → a +ℤ pos (down a) ≡ pos (up a)
    own a = omega (arith, ints)

    less : (e : ℤ) (k : ℕ) → (up (e -ℤ pos k) ≡ 0) ⊎ (down (e -ℤ pos k) ≡ 0) → down (e -ℤ pos k) ≤ down e + k
    less e k (inl h) = omega (arith, ints)
    less e k (inr h) = omega arith

-- ---- sums: both terms on a scale below them
module _ (m n ex ey : ℤ) (more : ℕ) where
  abbrev S : ℕ
  S = down ex + down ey + more

  place_x : (ex ey : ℤ) (k : ℕ) → ex +ℤ pos (down ex + down ey + k) ≡ pos (up ex + down ey + k)
  place_x ex ey k = omega (arith, ints)

  place_y : (ex ey : ℤ) (k : ℕ) → ey +ℤ pos (down ex + down ey + k) ≡ pos (up ey + down ex + k)
  place_y ex ey k = omega (arith, ints)

  pub sum_at : at S (scaled m ex ⊞ scaled n ey) ≡ m *ℤ two^ (up ex + down ey + more) +ℤ n *ℤ two^ (up ey + down ex + more)
  sum_at =
      at_plus S (scaled m ex) (scaled n ey) (rw (low_is m ex) (omega arith)) (rw (low_is n ey) (omega arith)) (rw (low_is m ex, low_is n ey) (omega arith))
      ∙ ap₂ ◌+ℤ◌ (at_scaled S m ex (up ex + down ey + more) (place_x ex ey more)) (at_scaled S n ey (up ey + down ex + more) (place_y ex ey more))

  pub sum_low : (scaled m ex ⊞ scaled n ey).low ≤ S
  sum_low = rw (low_is m ex, low_is n ey) (omega arith)

-- m · 2 ^ (e + a) + n · 2 ^ e
pub sum_close : (m n ex ey : ℤ) (a : ℕ) → ex ≡ ey +ℤ pos a → scaled (m *ℤ two^ a +ℤ n) ey ≈ scaled m ex ⊞ scaled n ey
sum_close m n ex ey a h =
    let S = down ex + down ey + 0 in
    let w = up ey + down ex + 0 in
    let e : at S (scaled (m *ℤ two^ a +ℤ n) ey) ≡ (m *ℤ two^ a +ℤ n) *ℤ two^ w = at_scaled S (m *ℤ two^ a +ℤ n) ey w (lower ex ey) in
    let f : m *ℤ two^ (up ex + down ey + 0) ≡ m *ℤ (two^ a *ℤ two^ w) = ap (λ (z : ℤ). m *ℤ z) (ap two^ (higher ex ey a h) ∙ two_add a w) in
    at_same S (scaled (m *ℤ two^ a +ℤ n) ey) (scaled m ex ⊞ scaled n ey) (rw (low_is (m *ℤ two^ a +ℤ n) ey) (omega arith)) (sum_low m n ex ey 0)
    (e ∙ ring (m ∷ n ∷ two^ a ∷ two^ w ∷ []) ((v 0 ⊗ v 2 ⊕ v 1) ⊗ v 3) (v 0 ⊗ (v 2 ⊗ v 3) ⊕ v 1 ⊗ v 3) tt ∙ ap (λ (z : ℤ). z +ℤ n *ℤ two^ w) (sym f) ∙ sym (sum_at m n ex ey 0))
  where
    lower : (ex ey : ℤ) → ey +ℤ pos (down ex + down ey + 0) ≡ pos (up ey + down ex + 0)
    lower ex ey = omega (arith, ints)

    higher : (ex ey : ℤ) (a : ℕ) → ex ≡ ey +ℤ pos a → up ex + down ey + 0 ≡ a + (up ey + down ex + 0)
    higher ex ey a h = omega (arith, ints)

-- a second term that is zero
pub plus_zero : (m ex ey : ℤ) → scaled m ex ≈ scaled m ex ⊞ scaled (pos 0) ey
plus_zero m ex ey =
    let S = down ex + down ey + 0 in
    at_same S (scaled m ex) (scaled m ex ⊞ scaled (pos 0) ey) (rw (low_is m ex) (omega arith)) (sum_low m (pos 0) ex ey 0)
    (at_scaled S m ex (up ex + down ey + 0) (higher ex ey) ∙ none (m *ℤ two^ (up ex + down ey + 0)) (2 ^ (up ey + down ex + 0)) ∙ sym (sum_at m (pos 0) ex ey 0))
  where
    higher : (ex ey : ℤ) → ex +ℤ pos (down ex + down ey + 0) ≡ pos (up ex + down ey + 0)
    higher ex ey = omega (arith, ints)

    none : (z : ℤ) (k : ℕ) → z ≡ z +ℤ pos 0 *ℤ pos k
    none z k = omega (arith, ints)
