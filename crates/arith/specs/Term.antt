-- The exact values of the terms that a step adds.
use Rattle.std.specs.Prelude.{pos, ◌+ℤ◌, ◌-ℤ◌, ◌*ℤ◌}
use Rattle.exact.specs.Exact.{Exact, scaled, signed_by, ◌⊠◌}
use Rattle.arith.specs.declared.format.NamedFormat.{Ghosts}
use Rattle.arith.specs.Number.{value_of}
use Rattle.arith.specs.declared.number.Number.{Number as NumberOf}
use Rattle.arith.specs.declared.term.Term.{Term}
use Rattle.arith.specs.declared.term.Term.TheVariants.{Number, Product}

-- a number is worth itself, and a product is exact
abbrev pub term_value : {F : Type 0} {g : Ghosts F} → Term F g → Exact
term_value (Number x) = value_of x
term_value (Product x y) = value_of x ⊠ value_of y

-- the same product written with one exponent: the significands are multiplied, and the exponents of the last digits added
abbrev pub scaled_product : {F : Type 0} {g : Ghosts F} → NumberOf F g → NumberOf F g → Exact
scaled_product {F} {g} x y =
    let p = pos g.format.precision in
    scaled (signed_by x.negative x.significand *ℤ signed_by y.negative y.significand) ((x.exponent +ℤ pos 1 -ℤ p) +ℤ (y.exponent +ℤ pos 1 -ℤ p))

-- a term's value in that writing
abbrev pub scaled_term : {F : Type 0} {g : Ghosts F} → Term F g → Exact
scaled_term (Number x) = value_of x
scaled_term (Product x y) = scaled_product x y
