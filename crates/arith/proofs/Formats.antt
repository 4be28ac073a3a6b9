-- What holds of every sound format: how the fields of a pattern go together; and the format of each code is sound.
use Rattle.std.proofs.Common.{Bool, true, false, cond, eqb, ◌%◌, ◌≤◌, Fits, w32, mul-le-mul_right, pow_pos, pow_mono, ◌≡◌, ℕ, zero, suc, ◌+◌, ◌-◌, ◌*◌, ◌^◌, ◌<◌, ap, ◌∙◌, mul_comm, zero-lt-suc, pow-suc, pow-add, arith}
use Rattle.std.proofs.lemmas.Nat.{one_shl}
use Rattle.arith.specs.Format.{bfloat16, binary16, binary32, format_of, Sound, usable_binary16, usable_bfloat16, usable_binary32}
use Rattle.arith.specs.declared.format.Format.{Format}

-- ---- the format of each code is sound
either : (b : Bool) (f g : Format) → Sound f → Sound g → Sound (cond b f g)
either true f g s t = s
either false f g s t = t

pub sound_of : (c : ℕ) → Sound (format_of c)
sound_of c = either (eqb c 1) binary16 _ usable_binary16.sound (either (eqb c 2) bfloat16 binary32 usable_bfloat16.sound usable_binary32.sound)

-- ---- how large the parts of a pattern are

-- what the leading 1 of a significand is worth: the fractions are below it
abbrev pub leading_one : Format → ℕ
leading_one f = 2 ^ (f.precision - 1)

-- the exponent fields are below this
abbrev pub exponents : Format → ℕ
exponents f = 2 ^ (f.width - f.precision)

-- what the sign bit is worth
abbrev pub sign_place : Format → ℕ
sign_place f = 2 ^ (f.width - 1)

twice : (k : ℕ) → 0 < k → 2 ^ k ≡ 2 * 2 ^ (k - 1)
twice k h = ap (λ (z : ℕ). 2 ^ z) (back k h) ∙ pow-suc 2 (k - 1) ∙ mul_comm (2 ^ (k - 1)) 2
  where
    back : (k : ℕ) → 0 < k → k ≡ suc (k - 1)
    back k h = omega arith

some_field : (k e : ℕ) → 2 ^ k ≡ 2 * e + 2 → 0 < k
some_field zero e h = absurd (omega arith)
some_field (suc k) e h = zero-lt-suc k

parted : (w p : ℕ) → 0 < p → 0 < w - p → 2 ^ (w - 1) ≡ 2 ^ (w - p) * 2 ^ (p - 1)
parted w p h k = ap (λ (z : ℕ). 2 ^ z) (places w p h k) ∙ pow-add 2 (w - p) (p - 1)
  where
    places : (w p : ℕ) → 0 < p → 0 < w - p → w - 1 ≡ w - p + (p - 1)
    places w p h k = omega arith

module _ (f : Format) (s : Sound f) where
  exponent_bits : 0 < f.width - f.precision
  exponent_bits = some_field (f.width - f.precision) f.emax s.fields_for_range

  pub significands : 2 ^ f.precision ≡ 2 * leading_one f
  significands = twice f.precision s.some_digit

  pub unsigned : sign_place f ≡ exponents f * leading_one f
  unsigned = parted f.width f.precision s.some_digit exponent_bits

  pub signed : 2 ^ f.width ≡ 2 * sign_place f
  signed = twice f.width (omega (arith, exponent_bits))

-- ---- the sign bit
pub sign_placed : (f : Format) → Sound f → (sign : ℕ) → sign ≡ (1 * 2 ^ (f.width - 1)) % 2 ^ 32 → sign ≤ sign_place f
sign_placed f s sign e = rw (e, one_shl (f.width - 1) 32 (omega (arith, s.few_bits))) (omega arith)

-- ---- the three fields of a pattern in their places: an exponent field q, a significand m behind its leading 1, and a sign
module _ (f : Format) (s : Sound f) (q m : ℕ) (hq : q ≤ 2 * f.emax) (hm : m < 2 ^ f.precision) where
  abbrev one : ℕ
  one = (1 * 2 ^ (f.precision - 1)) % 2 ^ 32

  one_is : one ≡ leading_one f
  one_is = one_shl (f.precision - 1) 32 (omega (arith, s.few_digits))

  sign_small : sign_place f ≤ 2 ^ 31
  sign_small = pow_mono {i = f.width - 1} {j = 31} (omega (arith, s.few_bits))

  field_small : q * one + leading_one f ≤ sign_place f
  field_small =
      let h : suc q * leading_one f ≤ exponents f * leading_one f = mul-le-mul_right (leading_one f) (omega (arith, s.fields_for_range)) in
      rw (one_is, unsigned f s) (omega arith)

  rest_small : m - one < leading_one f
  rest_small = rw one_is (omega (arith, significands f s, pow_pos (f.precision - 1)))

  pub field_fits : Fits w32 (q * one)
  field_fits = record { fits = omega (arith, sign_small, field_small) }

  pub sign_fits : (sign : ℕ) → sign ≤ sign_place f → Fits w32 (sign + q * one)
  sign_fits sign h = record { fits = omega (arith, sign_small, field_small, pow_pos (f.precision - 1)) }

  pub all_fit : (sign : ℕ) → sign ≤ sign_place f → Fits w32 (sign + q * one + (m - one))
  all_fit sign h = record { fits = omega (arith, sign_small, field_small, rest_small) }
