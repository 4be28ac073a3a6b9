-- The value of a term: written with one exponent it is the same, and what a step loses of it is a number.
use Rattle.std.proofs.Common.{pos, ◌+ℤ◌, ◌-ℤ◌, refl}
use Rattle.exact.specs.Exact.{Exact, HasPrecision, ◌≈◌, ◌⊟◌, signed_by}
use Rattle.exact.specs.Rounding.{NoneNearer}
use Rattle.exact.proofs.Signs.{abs_signed}
use Rattle.exact.proofs.Scaled.{product_scaled}
use Rattle.exact.proofs.Bounds.{kept_error_precise, product_error_precise}
use Rattle.arith.specs.declared.format.NamedFormat.{Ghosts}
use Rattle.arith.specs.Number.{value_of}
use Rattle.arith.specs.Term.{term_value, scaled_term}
use Rattle.arith.specs.declared.number.Number.{Number as NumberOf}
use Rattle.arith.specs.declared.term.Term.{Term}
use Rattle.arith.specs.declared.term.Term.TheVariants.{Number, Product}

-- a number has its format's precision
number_precise : {F : Type 0} (g : Ghosts F) (x : NumberOf F g) → HasPrecision g.format.precision (value_of x)
number_precise g x = (signed_by x.negative x.significand, x.exponent +ℤ pos 1 -ℤ pos g.format.precision, rw (abs_signed x.negative x.significand) x.short, refl)

pub term_value_lem : {F : Type 0} (g : Ghosts F) (x : Term F g) → scaled_term x ≈ term_value x
term_value_lem g (Number x) = refl
term_value_lem g (Product x y) =
    let p = pos g.format.precision in
    product_scaled (signed_by x.negative x.significand) (signed_by y.negative y.significand) (x.exponent +ℤ pos 1 -ℤ p) (y.exponent +ℤ pos 1 -ℤ p)

-- ---- what is lost of a term
pub term_lost : {F : Type 0} (g : Ghosts F) → (x : Term F g) (r : Exact) → HasPrecision g.format.precision r → NoneNearer g.format.precision (term_value x) r → HasPrecision g.format.precision (r ⊟ term_value x)
term_lost g (Number x) r h n = kept_error_precise g.format.precision (value_of x) r (number_precise g x) h n
term_lost g (Product x y) r h n = product_error_precise g.format.precision (value_of x) (value_of y) r (number_precise g x) (number_precise g y) h n
