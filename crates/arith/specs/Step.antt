-- What a step answers: it rounds an exact value, and then looks at the range.
use Rattle.std.specs.Prelude.{◌≡◌, ℕ, ◌-◌, ◌^◌, false, cond, ◌⊎◌, pos, ◌-ℤ◌, Ok, Err, Result, ◌==◌, int_lt}
use Rattle.exact.specs.Exact.{Exact, HasPrecision, size, whole, ◌≈◌, ◌⊑◌, ◌⊟◌}
use Rattle.exact.specs.Parts.{Parts, parts, zero_parts, value}
use Rattle.exact.specs.Rounding.{NoneNearer, Rounding, Midway, OneOfTwo, WithinRoundoff}
use Rattle.arith.specs.declared.format.Format.{Format}
use Rattle.arith.specs.declared.fault.RangeFault.{RangeFault}
use Rattle.arith.specs.declared.fault.RangeFault.TheVariants.{Above, Below}

-- the number that each refusal is known by
abbrev pub number_of_range : RangeFault → ℕ
number_of_range Above = 6
number_of_range Below = 7

-- a zero is a result; any other rounded value has an exponent from 1 − emax to emax
abbrev pub in_range : Format → Parts → Result Parts RangeFault
in_range f x =
    cond (x.significand == 0) (Ok zero_parts)
    (cond (int_lt (pos f.emax) x.exponent) (Err Above)
    (cond (int_lt x.exponent (pos 1 -ℤ pos f.emax)) (Err Below) (Ok x)))

-- one step on the exact value t, by the rounding rn
abbrev pub stepped : Format → (ℕ → Exact → Parts) → Exact → Result Parts RangeFault
stepped f rn t = in_range f (rn f.precision t)

-- the largest number of a format, and the smallest one above zero
abbrev pub largest : Format → Exact
largest f = value f.precision (parts false (2 ^ f.precision - 1) (pos f.emax))

abbrev pub smallest : Format → Exact
smallest f = value f.precision (parts false (2 ^ (f.precision - 1)) (pos 1 -ℤ pos f.emax))

-- What holds of every step on t, whatever the rounding rule. Of an answer x: no number of the format's precision is nearer to t,
-- it is off by at most one part in 2 ^ p + 1, and a value of the format's precision is answered as itself. A step is refused as above
-- only where t is larger in size than every number of the format, and as below only where t is not zero and smaller in size than
-- every number of the format but zero. And the rule had a choice only where t lies midway between two neighbours: there its answer is
-- one of the two, and anywhere else a step by any other rounding answers the same, or is refused the same.
pub record RightlyRounded (f : Format) (t : Exact) (answer : Result Parts RangeFault) : Type 0 where
  pub nearest : (x : Parts) → answer ≡ Ok x → NoneNearer f.precision t (value f.precision x)
  pub within_roundoff : (x : Parts) → answer ≡ Ok x → WithinRoundoff f.precision t (value f.precision x)
  pub exact_kept : (x : Parts) → answer ≡ Ok x → HasPrecision f.precision t → value f.precision x ≈ t
  pub too_large : answer ≡ Err Above → size t ⊑ largest f → ⊥
  pub too_small : answer ≡ Err Below → (t ≈ whole (pos 0)) ⊎ (smallest f ⊑ size t) → ⊥
  pub one_of_two : (x : Parts) → answer ≡ Ok x → OneOfTwo f.precision t (value f.precision x)
  pub free_midway_only : (rn : ℕ → Exact → Parts) → Rounding f.precision (rn f.precision) → (Midway f.precision t → ⊥) → stepped f rn t ≡ answer

-- what a step loses of t where it answers has itself the format's precision
abbrev pub LossHasPrecision : Format → Exact → Result Parts RangeFault → Type 0
LossHasPrecision f t answer = (x : Parts) → answer ≡ Ok x → HasPrecision f.precision (value f.precision x ⊟ t)
