-- Roundings to the same precision differ only where a value lies midway between two neighbours, and there they take one of the two.
use Rattle.std.proofs.Common.{◌≡◌, ℕ, zero, suc, ◌+◌, ◌-◌, ◌*◌, ◌/◌, ◌%◌, ◌^◌, ◌<◌, ◌≤◌, Bool, ◌⊎◌, ℤ, pos, ◌+ℤ◌, ◌-ℤ◌, ◌*ℤ◌, nat_abs, sym, ap, ◌∙◌, subst, inl, inr, lt_of_lt_of_le, mod-lt, zero-lt-suc, mul-lt-mul_of_pos_right, pow-suc, div-add-mod', arith, pow_pos, pow_mono, pow-add}
use native.Mathlib.Decide.{dec_le, dec_lt}
use lib.Ieee.{size as digits}
use lib.Ieee.Digits.{size-lt}
use borrow.Author.Differences.{ints, up, down}
use Rattle.exact.proofs.Signs.{signed_self, signed_mul}
use Rattle.exact.proofs.Digits.{quotient_full}
use Rattle.exact.proofs.Scale.{at, same_at, at_same, at_more, at_on, same_trans}
use Rattle.exact.proofs.Scaled.{low_is, one_side, at_scaled, shift}
use Rattle.exact.proofs.Precision.{WholePrecision}
use Rattle.exact.proofs.Nearness.{NearestWhole, kept}
use Rattle.exact.proofs.OneNearest.{NearerLower, NearerUpper, one_of_both, same_nearest}
use Rattle.exact.proofs.OneForm.{same_parts}
use Rattle.exact.proofs.Roundings.{nearest_at, rounding_at}
use Rattle.exact.specs.Exact.{Exact, HasPrecision, two^, ◌≈◌, scaled, signed_by, is_negative}
use Rattle.exact.specs.Parts.{Parts, value}
use Rattle.exact.specs.Rounding.{NoneNearer, Rounding, Midway, OneOfTwo}

-- num / 2 ^ low as num · 2 ^ −low
as_scaled : (t : Exact) → scaled t.num (pos 0 -ℤ pos t.low) ≈ t
as_scaled t =
    at_same t.low (scaled t.num (pos 0 -ℤ pos t.low)) t (rw (low_is t.num (pos 0 -ℤ pos t.low)) (below t.low (one_side (pos 0 -ℤ pos t.low)))) (omega arith)
    (at_scaled t.low t.num (pos 0 -ℤ pos t.low) 0 (top t.low) ∙ unit t.num ∙ sym (at_on t.low t.num))
  where
    below : (l : ℕ) → (up (pos 0 -ℤ pos l) ≡ 0) ⊎ (down (pos 0 -ℤ pos l) ≡ 0) → down (pos 0 -ℤ pos l) ≤ l
    below l (inl h) = omega (arith, ints)
    below l (inr h) = omega arith

    top : (l : ℕ) → pos 0 -ℤ pos l +ℤ pos l ≡ pos 0
    top l = omega (arith, ints)

    unit : (n : ℤ) → n *ℤ pos 1 ≡ n
    unit n = omega (arith, ints)

-- a rest of one half of the spacing
half_way : (p : ℕ) (t : Exact) (q k : ℕ) → q < 2 ^ p → 2 ^ p ≤ 2 * q → nat_abs t.num ≡ q * 2 ^ suc k + 2 ^ k → Midway p t
half_way p t q k short full e =
    let b = is_negative t.num in
    let low = pos 0 -ℤ pos t.low in
    let n : signed_by b (2 * q + 1) *ℤ two^ k ≡ t.num = sym (signed_mul b (2 * q + 1) (2 ^ k)) ∙ ap (signed_by b) (sym (e ∙ rw (pow-suc 2 k) (omega arith))) ∙ signed_self t.num in
    (b, q, low +ℤ pos k, short, full, same_trans t (scaled t.num low) (scaled (signed_by b (2 * q + 1)) (low +ℤ pos k)) (sym (as_scaled t)) (subst (λ (z : ℤ). scaled z low ≈ scaled (signed_by b (2 * q + 1)) (low +ℤ pos k)) n (shift (signed_by b (2 * q + 1)) low k)))

module _ (p : ℕ) (rn other : Exact → Parts) (R : Rounding (suc p) rn) (O : Rounding (suc p) other) (t : Exact) where
  abbrev M : ℕ
  M = nat_abs t.num

  abbrev b : Bool
  b = is_negative t.num

  -- a scale for t and both answers
  abbrev L : ℕ
  L = (value (suc p) (rn t)).low + (value (suc p) (other t)).low

  t_at : at (t.low + L) t ≡ signed_by b (M * 2 ^ L)
  t_at = at_more t.low L t (omega arith) ∙ ap (λ (z : ℤ). z *ℤ two^ L) (at_on t.low t.num ∙ sym (signed_self t.num)) ∙ sym (signed_mul b M (2 ^ L))

  nearest : NearestWhole (suc p) (signed_by b (M * 2 ^ L)) (at (t.low + L) (value (suc p) (rn t)))
  nearest = subst (λ (z : ℤ). NearestWhole (suc p) z (at (t.low + L) (value (suc p) (rn t)))) t_at (rounding_at (suc p) rn R t (t.low + L) (omega arith) (omega arith))

  other_nearest : NearestWhole (suc p) (signed_by b (M * 2 ^ L)) (at (t.low + L) (value (suc p) (other t)))
  other_nearest = subst (λ (z : ℤ). NearestWhole (suc p) z (at (t.low + L) (value (suc p) (other t)))) t_at (rounding_at (suc p) other O t (t.low + L) (omega arith) (omega arith))

  from_scale : at (t.low + L) (value (suc p) (other t)) ≡ at (t.low + L) (value (suc p) (rn t)) → other t ≡ rn t
  from_scale e = same_parts (suc p) (other t) (rn t) (O.canonical t) (R.canonical t) (at_same (t.low + L) (value (suc p) (other t)) (value (suc p) (rn t)) (omega arith) (omega arith) e)

  -- few digits: t is answered as itself
  few : digits M ≤ suc p → other t ≡ rn t
  few h =
      let w : WholePrecision (suc p) (signed_by b (M * 2 ^ L)) = (t.num, L, lt_of_lt_of_le (size-lt M) (pow_mono h), signed_mul b M (2 ^ L) ∙ ap (λ (z : ℤ). z *ℤ two^ L) (signed_self t.num)) in
      from_scale (kept (suc p) w other_nearest ∙ sym (kept (suc p) w nearest))

  -- many digits: suc k of them are cut off
  module _ (k : ℕ) (many : digits M ≡ suc p + suc k) where
    abbrev q : ℕ
    q = M / 2 ^ suc k

    abbrev s : ℕ
    s = M % 2 ^ suc k

    quotient : (2 ^ p ≤ q) × (q < 2 ^ suc p)
    quotient = let f = quotient_full (suc p) M (suc k) many (zero-lt-suc p) in (omega (arith, f.1, pow-suc 2 p), f.0)

    split : M * 2 ^ L ≡ q * 2 ^ (suc k + L) + s * 2 ^ L
    split = ap (λ (z : ℕ). z * 2 ^ L) (sym (div-add-mod' M (2 ^ suc k))) ∙ rw (pow-add 2 (suc k) L) (out q (2 ^ suc k) s (2 ^ L))
      where
        out : (q W s V : ℕ) → (q * W + s) * V ≡ q * (W * V) + s * V
        out q W s V = omega arith

    by_side : NearerLower (suc k + L) (s * 2 ^ L) ⊎ NearerUpper (suc k + L) (s * 2 ^ L) → other t ≡ rn t
    by_side side = from_scale (same_nearest p q (suc k + L) (s * 2 ^ L) (s * 2 ^ L) quotient.0 quotient.1 (twice side) b (on_split other_nearest) (on_split nearest))
      where
        twice : NearerLower (suc k + L) (s * 2 ^ L) ⊎ NearerUpper (suc k + L) (s * 2 ^ L) → (NearerLower (suc k + L) (s * 2 ^ L) × NearerLower (suc k + L) (s * 2 ^ L)) ⊎ (NearerUpper (suc k + L) (s * 2 ^ L) × NearerUpper (suc k + L) (s * 2 ^ L))
        twice (inl h) = inl (h, h)
        twice (inr h) = inr (h, h)

        on_split : {r : ℤ} → NearestWhole (suc p) (signed_by b (M * 2 ^ L)) r → NearestWhole (suc p) (signed_by b (q * 2 ^ (suc k + L) + s * 2 ^ L)) r
        on_split {r} n = subst (λ (z : ℕ). NearestWhole (suc p) (signed_by b z) r) split n

    finer : (a c V : ℕ) → 0 < V → 2 * a < c → 2 * (a * V) < c * V
    finer a c V h l = let m : 2 * a * V < c * V = mul-lt-mul_of_pos_right l h in omega arith

    finer_upper : (a c V : ℕ) → 0 < V → c < 2 * a → c * V < 2 * (a * V)
    finer_upper a c V h l = let m : c * V < 2 * a * V = mul-lt-mul_of_pos_right l h in omega arith

    cut : (Midway (suc p) t → ⊥) → Dec (2 * s < 2 ^ suc k) → Dec (2 ^ suc k < 2 * s) → other t ≡ rn t
    cut free (yes h) d = by_side (inl (rw (pow-add 2 (suc k) L) (finer s (2 ^ suc k) (2 ^ L) (pow_pos L) h)))
    cut free (no n) (yes h) = by_side (inr (rw (pow-add 2 (suc k) L) (mul-lt-mul_of_pos_right (mod-lt M (pow_pos (suc k))) (pow_pos L), finer_upper s (2 ^ suc k) (2 ^ L) (pow_pos L) h)))
    cut free (no n) (no n') =
        let e : s ≡ 2 ^ k = omega (arith, pow-suc 2 k) in
        absurd (free (half_way (suc p) t q k quotient.1 (omega (arith, quotient.0, pow-suc 2 p)) (sym (div-add-mod' M (2 ^ suc k)) ∙ ap (λ (z : ℕ). q * 2 ^ suc k + z) e)))

  differ_midway_only : (Midway (suc p) t → ⊥) → other t ≡ rn t
  differ_midway_only free = go (dec_le (digits M) (suc p))
    where
      rest : (n p : ℕ) → (n ≤ suc p → ⊥) → n ≡ suc p + suc (n - suc p - 1)
      rest n p h = omega arith

      go : Dec (digits M ≤ suc p) → other t ≡ rn t
      go (yes h) = few h
      go (no h) =
          let k = digits M - suc p - 1 in
          cut k (rest (digits M) p h) free (dec_lt (2 * (M % 2 ^ suc k)) (2 ^ suc k)) (dec_lt (2 ^ suc k) (2 * (M % 2 ^ suc k)))

pub free_midway_only : (p : ℕ) → 0 < p → (rn other : Exact → Parts) → Rounding p rn → Rounding p other → (t : Exact) → (Midway p t → ⊥) → other t ≡ rn t
free_midway_only zero hp rn other R O t free = absurd (omega arith)
free_midway_only (suc p) hp rn other R O t free = differ_midway_only p rn other R O t free

-- ---- midway, every rounding takes one of the two neighbours
one_of_two_at : (p : ℕ) (t x : Exact) → HasPrecision (suc p) x → NoneNearer (suc p) t x → OneOfTwo (suc p) t x
one_of_two_at p t x hx n b m e short full same = go (one_of_both p m (suc w) (2 ^ w) (omega (arith, pow-suc 2 p)) short (half (2 ^ w) (2 ^ suc w) (pow-suc 2 w)) b (at S x) nearest)
  where
    S : ℕ
    S = t.low + x.low + down e

    w : ℕ
    w = up e + (t.low + x.low)

    half : (W V : ℕ) → V ≡ W * 2 → 2 * W ≡ V
    half W V e = omega arith

    place : (e : ℤ) (k : ℕ) → e +ℤ pos (k + down e) ≡ pos (up e + k)
    place e k = omega (arith, ints)

    -- c · 2 ^ e on the scale
    units : (c : ℕ) → at S (scaled (signed_by b c) e) ≡ signed_by b (c * 2 ^ w)
    units c = at_scaled S (signed_by b c) e w (place e (t.low + x.low)) ∙ sym (signed_mul b c (2 ^ w))

    low : (c : ℕ) → (scaled (signed_by b c) e).low ≤ S
    low c = rw (low_is (signed_by b c) e) (omega arith)

    middle : (2 * m + 1) * 2 ^ w ≡ m * 2 ^ suc w + 2 ^ w
    middle = rw (pow-suc 2 w) (omega arith)

    nearest : NearestWhole (suc p) (signed_by b (m * 2 ^ suc w + 2 ^ w)) (at S x)
    nearest = subst (λ (z : ℤ). NearestWhole (suc p) z (at S x)) (same_at S t (scaled (signed_by b (2 * m + 1)) e) (omega arith) (low (2 * m + 1)) same ∙ units (2 * m + 1) ∙ ap (signed_by b) middle) (nearest_at (suc p) t x hx n S (omega arith) (omega arith))

    lower : m * 2 ^ suc w ≡ 2 * m * 2 ^ w
    lower = rw (pow-suc 2 w) (omega arith)

    upper : suc m * 2 ^ suc w ≡ (2 * m + 2) * 2 ^ w
    upper = rw (pow-suc 2 w) (omega arith)

    is : (c : ℕ) → at S x ≡ signed_by b (c * 2 ^ w) → x ≈ scaled (signed_by b c) e
    is c h = at_same S x (scaled (signed_by b c) e) (omega arith) (low c) (h ∙ sym (units c))

    go : (at S x ≡ signed_by b (m * 2 ^ suc w)) ⊎ (at S x ≡ signed_by b (suc m * 2 ^ suc w)) → (x ≈ scaled (signed_by b (2 * m)) e) ⊎ (x ≈ scaled (signed_by b (2 * m + 2)) e)
    go (inl h) = inl (is (2 * m) (h ∙ ap (signed_by b) lower))
    go (inr h) = inr (is (2 * m + 2) (h ∙ ap (signed_by b) upper))

pub one_of_two : (p : ℕ) → 0 < p → (t x : Exact) → HasPrecision p x → NoneNearer p t x → OneOfTwo p t x
one_of_two zero hp t x hx n = absurd (omega arith)
one_of_two (suc p) hp t x hx n = one_of_two_at p t x hx n
