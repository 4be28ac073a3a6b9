-- Worked examples: what is asked in patterns, and what the definitions answer. The patterns are written in hexadecimal.
use Rattle.std.specs.Prelude.{◌≡◌, ℕ, List, [], ◌∷◌, Ok, Err, Result}
use Rattle.exact.specs.Exact.{Exact}
use Rattle.exact.specs.Parts.{Parts}
use Rattle.exact.specs.Ties.{Tie, nearest_by, to_even, away_from_zero, toward_zero}
use Rattle.arith.specs.Complex.{complex, complex_sum, complex_difference}
use Rattle.arith.specs.Format.{format_of}
use Rattle.arith.specs.Pattern.{encoded}
use Rattle.arith.specs.Sequence.{and_then}
use Rattle.arith.specs.Step.{number_of_range}
use Rattle.arith.specs.declared.complex.Complex.{Complex}
use Rattle.arith.specs.declared.fault.StepFault.{StepFault}
use Rattle.arith.specs.declared.format.Format.{Format}
use Rattle.bank.specs.Calls.{number_by, loaded, written, shown}
use Rattle.bank.specs.Numbers.{number_of}
use Rattle.bank.specs.Slots.{fresh}
use Rattle.bank.specs.declared.fault.Fault.{Fault}
use Rattle.bank.specs.declared.store.Shown.{Shown}

-- what is asked: a new bank loads two patterns and shows them again, or two complex numbers are added or subtracted
pub data Question : Type 0 where
  load : Complex ℕ → Question
  add sub : Complex ℕ → Complex ℕ → Question

-- what comes of it: two patterns, or the refusal's number and its step, 0 where no step refused
pub data Outcome : Type 0 where
  shows : ℕ → ℕ → Outcome
  refuses : ℕ → ℕ → Outcome

abbrev pub of_bank : Result Shown Fault → Outcome
of_bank (Ok s) = shows s.re s.im
of_bank (Err e) = refuses (number_of e) 0

abbrev pub of_steps : Format → Result (Complex Parts) StepFault → Outcome
of_steps f (Ok z) = shows (encoded f z.re) (encoded f z.im)
of_steps f (Err e) = refuses (number_of_range e.fault) e.step

-- two patterns as a complex number
abbrev pub operand : Format → Complex ℕ → Result (Complex Parts) Fault
operand f z = and_then (number_by f z.re) (λ a. and_then (number_by f z.im) (λ b. Ok (complex a b)))

-- a calculation on two operands, if both are numbers
abbrev pub calculated : Format → (Complex Parts → Complex Parts → Result (Complex Parts) StepFault) → Result (Complex Parts) Fault → Result (Complex Parts) Fault → Outcome
calculated f op (Ok a) (Ok b) = of_steps f (op a b)
calculated f op (Ok a) (Err e) = refuses (number_of e) 0
calculated f op (Err e) y = refuses (number_of e) 0

abbrev pub outcome : Format → (ℕ → Exact → Parts) → Question → Outcome
outcome f rn (load z) = of_bank (and_then (loaded f 0 z.re z.im) (λ s. shown f (written fresh 0 (Ok s)) 0))
outcome f rn (add x y) = calculated f (complex_sum f rn) (operand f x) (operand f y)
outcome f rn (sub x y) = calculated f (complex_difference f rn) (operand f x) (operand f y)

-- a row: the format's code, what is taken midway, the question and its outcome
pub record Row : Type 0 where
  pub code : ℕ
  pub tie : Tie
  pub question : Question
  pub result : Outcome

abbrev pub row : ℕ → Tie → Question → Outcome → Row
row c t q r = record { code = c; tie = t; question = q; result = r }

abbrev pub Stands : Row → Type 0
Stands r = outcome (format_of r.code) (nearest_by r.tie) r.question ≡ r.result

abbrev pub AllStand : List Row → Type 0
AllStand [] = Unit {0}
AllStand (r ∷ rs) = Stands r × AllStand rs

-- a real number
abbrev pub real : ℕ → Complex ℕ
real n = complex n 0

abbrev pub rows : List Row
rows =
    row 1 to_even (load (real 0x7BFF)) (shows 0x7BFF 0) ∷
    row 1 to_even (load (real 0x7C00)) (refuses 3 0) ∷
    row 1 to_even (load (real 0x0400)) (shows 0x0400 0) ∷
    row 1 to_even (load (real 0x03FF)) (refuses 4 0) ∷
    row 1 to_even (load (real 0x8000)) (shows 0x0000 0) ∷
    row 1 to_even (add (real 0x3C00) (real 0x1000)) (shows 0x3C00 0) ∷
    row 1 away_from_zero (add (real 0x3C00) (real 0x1000)) (shows 0x3C01 0) ∷
    row 1 toward_zero (add (real 0x3C00) (real 0x1000)) (shows 0x3C00 0) ∷
    row 1 to_even (add (real 0x3C01) (real 0x1000)) (shows 0x3C02 0) ∷
    row 1 away_from_zero (add (real 0x3C01) (real 0x1000)) (shows 0x3C02 0) ∷
    row 1 toward_zero (add (real 0x3C01) (real 0x1000)) (shows 0x3C01 0) ∷
    row 1 to_even (add (real 0x7BFF) (real 0x4C00)) (refuses 6 1) ∷
    row 1 away_from_zero (add (real 0x7BFF) (real 0x4C00)) (refuses 6 1) ∷
    row 1 toward_zero (add (real 0x7BFF) (real 0x4C00)) (shows 0x7BFF 0) ∷
    row 1 to_even (sub (real 0x0401) (real 0x0400)) (refuses 7 1) ∷
    row 1 to_even (sub (real 0x0800) (real 0x0400)) (shows 0x0400 0) ∷
    row 1 to_even (add (complex 0x3C00 0x7BFF) (complex 0x3C00 0x4C00)) (refuses 6 2) ∷
    row 1 to_even (sub (complex 0x4200 0x3C00) (complex 0x4000 0x4000)) (shows 0x3C00 0xBC00) ∷
    row 2 to_even (add (real 0x3F80) (real 0x3B80)) (shows 0x3F80 0) ∷
    row 2 away_from_zero (add (real 0x3F80) (real 0x3B80)) (shows 0x3F81 0) ∷
    row 3 to_even (add (real 0x3F800000) (real 0x33800000)) (shows 0x3F800000 0) ∷
    row 3 away_from_zero (add (real 0x3F800000) (real 0x33800000)) (shows 0x3F800001 0) ∷ []
