-- The numbers of a format by their parts, and what they are worth.
use Rattle.std.specs.Prelude.{Ok, Err, Result}
use Rattle.exact.specs.Exact.{Exact}
use Rattle.exact.specs.Parts.{Parts, parts, value}
use Rattle.arith.specs.declared.format.NamedFormat.{Ghosts}
use Rattle.arith.specs.declared.number.Number.{Number}

-- a number's sign, significand and exponent
abbrev pub parts_of : {F : Type 0} {g : Ghosts F} → Number F g → Parts
parts_of x = parts x.negative x.significand x.exponent

-- its exact value
abbrev pub value_of : {F : Type 0} {g : Ghosts F} → Number F g → Exact
value_of {F} {g} x = value g.format.precision (parts_of x)

-- the parts of a number that is answered, or the refusal
abbrev pub parts_by : {F : Type 0} {g : Ghosts F} {E : Type 0} → Result (Number F g) E → Result Parts E
parts_by (Ok x) = Ok (parts_of x)
parts_by (Err e) = Err e
