-- The formats.
use Rattle.std.specs.Prelude.{◌≡◌, ℕ, ◌+◌, ◌-◌, ◌*◌, ◌%◌, ◌^◌, ◌<◌, ◌≤◌, cond, ◌==◌}
use Rattle.std.proofs.Common.{refl, arith}
use Rattle.arith.specs.declared.format.Format.{Format}

-- precision, largest exponent, and the bits of a pattern
abbrev pub binary16 : Format
binary16 = record { precision = 11; emax = 15; width = 16 }

abbrev pub bfloat16 : Format
bfloat16 = record { precision = 8; emax = 127; width = 16 }

abbrev pub binary32 : Format
binary32 = record { precision = 24; emax = 127; width = 32 }

-- the format of a code: 1 is binary16, 2 is bfloat16, and any other code stands for binary32, whose own code is 3
abbrev pub format_of : ℕ → Format
format_of c = cond (c == 1) binary16 (cond (c == 2) bfloat16 binary32)

-- A format whose numbers fit each other and the integers that hold its significands, exponents and patterns. The bits that the sign and
-- the fraction leave are the exponent field: it has a value for each exponent from 1 − emax to emax, and two more.
pub record Sound (f : Format) : Type 0 where
  pub some_digit : 0 < f.precision
  pub few_digits : f.precision ≤ 24
  pub few_exponents : f.emax ≤ 127
  pub few_bits : f.width ≤ 32
  pub fields_for_range : 2 ^ (f.width - f.precision) ≡ 2 * f.emax + 2

-- a sound format whose range has zero's exponent, which is 0, and whose patterns are whole bytes on a tape
pub record Usable (f : Format) : Type 0 where
  pub sound : Sound f
  pub zero_in_range : 0 < f.emax
  pub whole_bytes : f.width % 8 ≡ 0

-- the formats are usable
pub usable_binary16 : Usable binary16
usable_binary16 = record { sound = record { some_digit = omega arith; few_digits = omega arith; few_exponents = omega arith; few_bits = omega arith; fields_for_range = refl }; zero_in_range = omega arith; whole_bytes = refl }

pub usable_bfloat16 : Usable bfloat16
usable_bfloat16 = record { sound = record { some_digit = omega arith; few_digits = omega arith; few_exponents = omega arith; few_bits = omega arith; fields_for_range = refl }; zero_in_range = omega arith; whole_bytes = refl }

pub usable_binary32 : Usable binary32
usable_binary32 = record { sound = record { some_digit = omega arith; few_digits = omega arith; few_exponents = omega arith; few_bits = omega arith; fields_for_range = refl }; zero_in_range = omega arith; whole_bytes = refl }
