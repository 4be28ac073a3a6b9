-- The pattern that shows a number other than zero stands for that number. (Zero is left to the search.)
use Rattle.std.proofs.Common.{◌≡◌, ℕ, ◌+◌, ◌-◌, ◌*◌, ◌^◌, ◌<◌, ◌≤◌, Bool, true, false, cond, eqb, leb, ℤ, pos, ◌+ℤ◌, ◌-ℤ◌, nat_abs, ◌≤ℤ◌, Ok, sym, refl, ap, ◌∙◌, subst, arith}
use lib.Arith.{digits_lt}
use borrow.Author.Differences.{ints}
use Rattle.std.proofs.lemmas.Bool.{lt-leb, ne_eqb, or_from, cond-false}
use Rattle.exact.specs.Parts.{Parts, parts}
use Rattle.arith.specs.Format.{Sound}
use Rattle.arith.specs.declared.format.Format.{Format}
use Rattle.arith.specs.Pattern.{sign_bit, exponent_field, fraction, invalid, decoded, encoded}
use Rattle.arith.proofs.Formats.{leading_one, exponents, sign_place, significands, unsigned, signed}
use Rattle.arith.proofs.Digits.{two_lower, highest, middle, lowest}
use Rattle.arith.proofs.Accepted.{not_zero, decoded_normal}

-- ---- the sign as a digit
abbrev digit : Bool → ℕ
digit b = cond b 1 0

short_digit : (b : Bool) → digit b < 2
short_digit true = omega arith
short_digit false = omega arith

same_sign : (b : Bool) → eqb (digit b) 1 ≡ b
same_sign true = refl
same_sign false = refl

placed : (b : Bool) (h y t : ℕ) → cond b h 0 + y + t ≡ digit b * h + (y + t)
placed true h y t = omega arith
placed false h y t = omega arith

-- ---- the significand m behind its leading 1, which is worth a
short_fraction : (m a p : ℕ) → p ≡ 2 * a → m < p → m - a < a
short_fraction m a p double short = omega arith

same_significand : (m a p : ℕ) → p ≡ 2 * a → p ≤ 2 * m → a + (m - a) ≡ m
same_significand m a p double full = omega arith

-- ---- the exponent e as a field
module _ (e : ℤ) (emax : ℕ) (low : (pos 1 -ℤ pos emax) ≤ℤ e) where
  some_field : 0 < nat_abs (e +ℤ pos emax)
  some_field = omega (arith, ints)

  finite_field : (b : ℕ) → b ≡ 2 * emax + 2 → e ≤ℤ pos emax → nat_abs (e +ℤ pos emax) < b - 1
  finite_field b range high = omega (arith, ints)

  same_exponent : pos (nat_abs (e +ℤ pos emax)) -ℤ pos emax ≡ e
  same_exponent = omega (arith, ints)

-- ---- a number of the format that is not zero
module _ (f : Format) (s : Sound f) (x : Parts) (some : 0 < x.significand) (short : x.significand < 2 ^ f.precision) (full : 2 ^ f.precision ≤ 2 * x.significand) (low : (pos 1 -ℤ pos f.emax) ≤ℤ x.exponent) (high : x.exponent ≤ℤ pos f.emax) where
  abbrev d : ℕ
  d = digit x.negative

  abbrev q : ℕ
  q = nat_abs (x.exponent +ℤ pos f.emax)

  abbrev t : ℕ
  t = x.significand - leading_one f

  abbrev n : ℕ
  n = d * sign_place f + (q * leading_one f + t)

  encoded_is : encoded f x ≡ n
  encoded_is = cond-false (eqb x.significand 0) _ _ (not_zero x.significand some) ∙ placed x.negative (sign_place f) (q * leading_one f) t

  finite : q < exponents f - 1
  finite = finite_field x.exponent f.emax low (exponents f) s.fields_for_range high

  field_fits : q < exponents f
  field_fits = below q (exponents f) finite
    where
      below : (q b : ℕ) → q < b - 1 → q < b
      below q b h = omega arith

  fraction_fits : t < leading_one f
  fraction_fits = short_fraction x.significand (leading_one f) (2 ^ f.precision) (significands f s) short

  sign_is : sign_bit f n ≡ x.negative
  sign_is = ap (λ k. eqb k 1) (highest (unsigned f s) field_fits fraction_fits d) ∙ same_sign x.negative

  significand_is : leading_one f + fraction f n ≡ x.significand
  significand_is =
      ap (λ k. leading_one f + k) (lowest (unsigned f s) field_fits fraction_fits d) ∙ same_significand x.significand (leading_one f) (2 ^ f.precision) (significands f s) full

  field_is : exponent_field f n ≡ q
  field_is = middle (unsigned f s) field_fits fraction_fits d

  exponent_is : pos (exponent_field f n) -ℤ pos f.emax ≡ x.exponent
  exponent_is = ap (λ k. pos k -ℤ pos f.emax) field_is ∙ same_exponent x.exponent f.emax low

  valid : invalid f n ≡ false
  valid =
      or_from (leb (2 ^ f.width) n) _ (lt-leb (2 ^ f.width) n narrow)
      (ne_eqb (exponent_field f n) (exponents f - 1) (λ e. apart q (exponents f - 1) finite (sym field_is ∙ e)))
    where
      narrow : n < 2 ^ f.width
      narrow = subst (λ k. n < k) (sym (signed f s)) (digits_lt (short_digit x.negative) (two_lower (unsigned f s) field_fits fraction_fits))

      apart : (x y : ℕ) → x < y → x ≡ y → ⊥
      apart x y h e = omega arith

  pub read_back : decoded f (encoded f x) ≡ Ok x
  read_back =
      ap (decoded f) encoded_is ∙ decoded_normal f n valid (subst (λ k. 0 < k) (sym field_is) (some_field x.exponent f.emax low))
      ∙ (λ i. Ok (parts (sign_is i) (significand_is i) (exponent_is i)))
