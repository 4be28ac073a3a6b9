-- The number that each refusal of a bank is known by.
use Rattle.std.specs.Prelude.{ℕ}
use Rattle.arith.specs.Pattern.{number_of_pattern}
use Rattle.bank.specs.declared.fault.Fault.{Fault}
use Rattle.bank.specs.declared.fault.Fault.TheVariants.{NoSuchPlace, EmptyPlace, Pattern}

abbrev pub number_of : Fault → ℕ
number_of NoSuchPlace = 1
number_of EmptyPlace = 2
number_of (Pattern e) = number_of_pattern e
