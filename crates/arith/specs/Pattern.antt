-- What a bit pattern means by the fields that IEEE 754 gives it, and which pattern shows a number.
use Rattle.std.specs.Prelude.{◌≡◌, ℕ, ◌+◌, ◌-◌, ◌*◌, ◌/◌, ◌%◌, ◌^◌, Bool, cond, ◌||◌, pos, ◌+ℤ◌, ◌-ℤ◌, Ok, Err, Result, ◌==◌, nat_le, unsigned_abs}
use Rattle.exact.specs.Exact.{Exact, scaled, signed_by, ◌⊠◌, ◌≈◌}
use Rattle.exact.specs.Parts.{Parts, parts, zero_parts, value}
use Rattle.arith.specs.declared.format.Format.{Format}
use Rattle.arith.specs.declared.pattern.PatternFault.{PatternFault}
use Rattle.arith.specs.declared.pattern.PatternFault.TheVariants.{Invalid, Subnormal}

-- the number that each refusal is known by
abbrev pub number_of_pattern : PatternFault → ℕ
number_of_pattern Invalid = 3
number_of_pattern Subnormal = 4

-- The fields of a pattern, from its highest bit down: the sign bit; the exponent field, which is the exponent plus emax;
-- and the fraction, the digits of the significand behind its leading 1.
abbrev pub sign_bit : Format → ℕ → Bool
sign_bit f n = n / 2 ^ (f.width - 1) == 1

abbrev pub exponent_field : Format → ℕ → ℕ
exponent_field f n = n / 2 ^ (f.precision - 1) % 2 ^ (f.width - f.precision)

abbrev pub fraction : Format → ℕ → ℕ
fraction f n = n % 2 ^ (f.precision - 1)

-- a pattern of too many bits, or with an exponent field of ones only (an infinity or no number at all)
abbrev pub invalid : Format → ℕ → Bool
invalid f n = nat_le (2 ^ f.width) n || exponent_field f n == 2 ^ (f.width - f.precision) - 1

-- an exponent field of zero: zero, whatever its sign bit, or else a subnormal number
abbrev pub without_leading_one : ℕ → Result Parts PatternFault
without_leading_one t = cond (t == 0) (Ok zero_parts) (Err Subnormal)

-- any other exponent field: a leading 1 stands in front of the fraction
abbrev pub with_leading_one : Format → ℕ → Parts
with_leading_one f n = parts (sign_bit f n) (2 ^ (f.precision - 1) + fraction f n) (pos (exponent_field f n) -ℤ pos f.emax)

-- the number that a pattern stands for, or why there is none
abbrev pub decoded : Format → ℕ → Result Parts PatternFault
decoded f n =
    cond (invalid f n) (Err Invalid)
    (cond (exponent_field f n == 0) (without_leading_one (fraction f n)) (Ok (with_leading_one f n)))

-- The exact value of a pattern that is zero or normal, as IEEE 754 writes it:
-- zero, or (−1) ^ sign · 2 ^ (field − emax) · (1 + fraction / 2 ^ (precision − 1)).
abbrev pub ieee_value : Format → ℕ → Exact
ieee_value f n =
    cond (exponent_field f n == 0) (record { num = pos 0; low = 0 })
    (scaled (signed_by (sign_bit f n) 1) (pos (exponent_field f n) -ℤ pos f.emax) ⊠ record { num = pos (2 ^ (f.precision - 1) + fraction f n); low = f.precision - 1 })

-- the pattern that shows a number: its three fields in their places, and zero as zero bits only
abbrev pub encoded : Format → Parts → ℕ
encoded f x =
    cond (x.significand == 0) 0
    (cond x.negative (2 ^ (f.width - 1)) 0 + unsigned_abs (x.exponent +ℤ pos f.emax) * 2 ^ (f.precision - 1) + (x.significand - 2 ^ (f.precision - 1)))

-- a pattern without the sign of zero: the lone sign bit becomes zero bits only, and any other pattern stays
abbrev pub plain_zero : Format → ℕ → ℕ
plain_zero f n = cond (n == 2 ^ (f.width - 1)) 0 n

-- n stands for x: then any accepted pattern m with the same value is n itself, but for the sign of zero
abbrev pub ToldApart : Format → ℕ → Parts → Type 0
ToldApart f n x = (m : ℕ) (y : Parts) → decoded f m ≡ Ok y → value f.precision y ≈ value f.precision x → plain_zero f m ≡ plain_zero f n
