-- The number of an accepted pattern is shown by that pattern again, but for the sign of zero.
use Rattle.std.proofs.Common.{◌≡◌, ℕ, zero, suc, ◌+◌, ◌-◌, ◌*◌, ◌/◌, ◌^◌, ◌<◌, Bool, false, cond, eqb, leb, ℤ, pos, ◌+ℤ◌, ◌-ℤ◌, nat_abs, sym, refl, ap, ◌∙◌, subst, ap₂, mod-lt, div-lt_iff_lt-mul, mul-pos, arith, pow_pos}
use borrow.Author.Differences.{ints}
use Rattle.std.proofs.lemmas.Bool.{leb-false, ne_eqb, or_parts, cond-false}
use Rattle.std.proofs.lemmas.Bool.Decides.{nat_tests}
use Rattle.exact.specs.Parts.{Parts, parts, Canonical}
use Rattle.exact.proofs.OneForm.{same_parts}
use Rattle.arith.specs.Format.{Sound}
use Rattle.arith.specs.declared.format.Format.{Format}
use Rattle.arith.specs.Pattern.{sign_bit, exponent_field, fraction, invalid, encoded, plain_zero, ToldApart}
use Rattle.arith.proofs.Formats.{leading_one, exponents, sign_place, significands, unsigned, signed}
use Rattle.arith.proofs.Digits.{from_digits, two_lower}
use Rattle.arith.proofs.Accepted.{Accepted, as_zero, as_normal, accepted, not_zero}

-- ---- a sign digit d, 0 or 1, which is worth d · h
sign_place_lem : (d h : ℕ) → d < 2 → cond (eqb d 1) h 0 ≡ d * h
sign_place_lem zero h k = omega arith
sign_place_lem (suc zero) h k = omega arith
sign_place_lem (suc (suc d)) h k = absurd (omega arith)

alone : (d h n : ℕ) → d < 2 → d * h ≡ n → 0 ≡ cond (eqb n h) 0 n
alone d h n k e = let p = sign_place_lem d h k in grind (arith, nat_tests)

not_alone : (d h r n : ℕ) → d < 2 → 0 < r → r < h → d * h + r ≡ n → n ≡ h → ⊥
not_alone d h r n k l m e q = let p = sign_place_lem d h k in grind (arith, nat_tests)

-- the three fields of n in their places
composed : (d h q a t emax n : ℕ) → d < 2 → d * h + (q * a + t) ≡ n → cond (eqb d 1) h 0 + nat_abs (pos q -ℤ pos emax +ℤ pos emax) * a + (a + t - a) ≡ n
composed d h q a t emax n k e = ap₂ (λ x y. x + y * a + (a + t - a)) (sign_place_lem d h k) (biased q emax) ∙ grouped (d * h) (q * a) a t n e
  where
    biased : (q emax : ℕ) → nat_abs (pos q -ℤ pos emax +ℤ pos emax) ≡ q
    biased q emax = omega (arith, ints)

    grouped : (x y a t n : ℕ) → x + (y + t) ≡ n → x + y + (a + t - a) ≡ n
    grouped x y a t n e = omega arith

-- ---- a leading 1, worth a, in front of a fraction t
leading_form : (p a t : ℕ) (b : Bool) (e : ℤ) → 0 < a → t < a → 2 ^ p ≡ 2 * a → Canonical p (parts b (a + t) e)
leading_form p a t b e h k q = record { short = omega arith; full = λ _. omega arith; plain = λ z. absurd (omega arith); flat = λ z. absurd (omega arith) }

-- ---- an accepted pattern
module _ (f : Format) (s : Sound f) (n : ℕ) where
  abbrev a : ℕ
  a = leading_one f

  abbrev h : ℕ
  h = sign_place f

  abbrev q : ℕ
  q = exponent_field f n

  abbrev t : ℕ
  t = fraction f n

  some_one : 0 < a
  some_one = pow_pos (f.precision - 1)

  some_exponent : 0 < exponents f
  some_exponent = pow_pos (f.width - f.precision)

  short_fraction : t < a
  short_fraction = mod-lt n some_one

  sign_digit : invalid f n ≡ false → n / h < 2
  sign_digit v =
      (div-lt_iff_lt-mul (pow_pos (f.width - 1))).1 (subst (λ k. n < k) (signed f s) (leb-false (2 ^ f.width) n (or_parts (leb (2 ^ f.width) n) _ v).0))

  by_digits : n / h * h + (q * a + t) ≡ n
  by_digits = from_digits n (unsigned f s) some_one some_exponent

  pub shown : (x : Parts) → Accepted f n x → encoded f x ≡ plain_zero f n
  shown x (as_zero v no_field no_fraction) = alone (n / h) h n (sign_digit v) (no_others (n / h * h) q a t n no_field no_fraction by_digits)
    where
      no_others : (x q a t n : ℕ) → q ≡ 0 → t ≡ 0 → x + (q * a + t) ≡ n → x ≡ n
      no_others x q a t n i j e = omega (arith, ap (λ k. k * a) i)
  shown x (as_normal v some_field) =
      cond-false (eqb (a + t) 0) _ _ (not_zero (a + t) (some_sum a t some_one))
      ∙ composed (n / h) h q a t f.emax n (sign_digit v) by_digits
      ∙ sym (cond-false (eqb n h) _ _ (ne_eqb n h (not_alone (n / h) h (q * a + t) n (sign_digit v) some_lower short_lower by_digits)))
    where
      some_sum : (x y : ℕ) → 0 < x → 0 < x + y
      some_sum x y k = omega arith

      some_lower : 0 < q * a + t
      some_lower = some_sum (q * a) t (mul-pos some_field some_one)

      short_lower : q * a + t < h
      short_lower = two_lower (unsigned f s) (mod-lt (n / a) some_exponent) short_fraction

  pub canonical : (x : Parts) → Accepted f n x → Canonical f.precision x
  canonical x (as_zero _ _ _) = record { short = pow_pos f.precision; full = λ k. absurd (omega arith); plain = λ _. refl; flat = λ _. refl }
  canonical x (as_normal _ _) = leading_form f.precision a t (sign_bit f n) (pos q -ℤ pos f.emax) some_one short_fraction (significands f s)

pub told_apart : (f : Format) → Sound f → (n : ℕ) (x : Parts) → Accepted f n x → ToldApart f n x
told_apart f s n x u m y e same =
    let v = accepted f m y e in
    sym (shown f s m y v) ∙ ap (encoded f) (same_parts f.precision y x (canonical f s m y v) (canonical f s n x u) same) ∙ shown f s n x u
