-- Complex numbers by their parts, and their sums and differences in two steps.
use Rattle.std.specs.Prelude.{◌≡◌, ℕ, Ok, Err, Result}
use Rattle.exact.specs.Exact.{Exact, ◌⊞◌, ◌⊟◌}
use Rattle.exact.specs.Parts.{Parts, value}
use Rattle.arith.specs.Number.{parts_of}
use Rattle.arith.specs.Sequence.{and_then}
use Rattle.arith.specs.Step.{stepped, RightlyRounded}
use Rattle.arith.specs.declared.complex.Complex.{Complex}
use Rattle.arith.specs.declared.fault.RangeFault.{RangeFault}
use Rattle.arith.specs.declared.fault.StepFault.{StepFault}
use Rattle.arith.specs.declared.format.Format.{Format}
use Rattle.arith.specs.declared.format.NamedFormat.{Ghosts}
use Rattle.arith.specs.declared.number.Number.{Number}

abbrev pub complex : {X : Type 0} → X → X → Complex X
complex a b = record { re = a; im = b }

-- both numbers by their parts
abbrev pub complex_parts : {F : Type 0} {g : Ghosts F} → Complex (Number F g) → Complex Parts
complex_parts z = complex (parts_of z.re) (parts_of z.im)

-- the parts of an answer, or the refusal
abbrev pub complex_by : {F : Type 0} {g : Ghosts F} → Result (Complex (Number F g)) StepFault → Result (Complex Parts) StepFault
complex_by (Ok z) = Ok (complex_parts z)
complex_by (Err e) = Err e

-- the refusal of a step, with the step's number
abbrev pub step_fault : RangeFault → ℕ → StepFault
step_fault e n = record { fault = e; step = n }

abbrev pub at_step : {X : Type 0} → ℕ → Result X RangeFault → Result X StepFault
at_step n (Ok x) = Ok x
at_step n (Err e) = Err (step_fault e n)

-- a real part and an imaginary part, in two steps: the real one first
abbrev pub two_steps : Format → (ℕ → Exact → Parts) → Exact → Exact → Result (Complex Parts) StepFault
two_steps f rn t u = and_then (at_step 1 (stepped f rn t)) (λ re. and_then (at_step 2 (stepped f rn u)) (λ im. Ok (complex re im)))

-- (a + bi) + (c + di): the steps are a + c and b + d
abbrev pub complex_sum : Format → (ℕ → Exact → Parts) → Complex Parts → Complex Parts → Result (Complex Parts) StepFault
complex_sum f rn x y = let v = value f.precision in two_steps f rn (v x.re ⊞ v y.re) (v x.im ⊞ v y.im)

-- (a + bi) − (c + di): the steps are a − c and b − d
abbrev pub complex_difference : Format → (ℕ → Exact → Parts) → Complex Parts → Complex Parts → Result (Complex Parts) StepFault
complex_difference f rn x y = let v = value f.precision in two_steps f rn (v x.re ⊟ v y.re) (v x.im ⊟ v y.im)

-- What holds of a complex answer in two steps on t and u, whatever the rounding rule: both steps were rightly rounded; or the first
-- one was refused, and rightly; or the second one was, and the first one had an answer.
pub record BothRightlyRounded (f : Format) (t u : Exact) (answer : Result (Complex Parts) StepFault) : Type 0 where
  pub accepted : (z : Complex Parts) → answer ≡ Ok z → RightlyRounded f t (Ok z.re) × RightlyRounded f u (Ok z.im)
  pub refused_first : (e : RangeFault) → answer ≡ Err (step_fault e 1) → RightlyRounded f t (Err e)
  pub refused_second : (e : RangeFault) → answer ≡ Err (step_fault e 2) → ((x : Parts) × RightlyRounded f t (Ok x)) × RightlyRounded f u (Err e)
