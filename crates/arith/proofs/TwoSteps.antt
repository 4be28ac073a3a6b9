-- A complex answer made in two steps: what it says of each of them.
use Rattle.std.proofs.Common.{◌≡◌, ℕ, ◌<◌, Ok, Err, Result, sym, refl, ◌∙◌, subst, arith}
use Rattle.exact.specs.Exact.{Exact}
use Rattle.exact.specs.Parts.{Parts}
use Rattle.exact.specs.Rounding.{Rounding}
use Rattle.exact.proofs.Sums.{same_alike}
use Rattle.arith.specs.Complex.{complex, step_fault, at_step, two_steps, BothRightlyRounded}
use Rattle.arith.specs.Sequence.{and_then}
use Rattle.arith.specs.Step.{stepped, RightlyRounded}
use Rattle.arith.specs.declared.complex.Complex.{Complex}
use Rattle.arith.specs.declared.fault.RangeFault.{RangeFault}
use Rattle.arith.specs.declared.fault.StepFault.{StepFault}
use Rattle.arith.specs.Format.{Sound}
use Rattle.arith.specs.declared.format.Format.{Format}
use Rattle.arith.proofs.Range.{answers}

-- ---- what an answer says of the two steps
abbrev in_turn : Result Parts RangeFault → Result Parts RangeFault → Result (Complex Parts) StepFault
in_turn a b = and_then (at_step 1 a) (λ re. and_then (at_step 2 b) (λ im. Ok (complex re im)))

both : (a b : Result Parts RangeFault) (z : Complex Parts) → in_turn a b ≡ Ok z → (a ≡ Ok z.re) × (b ≡ Ok z.im)
both (Ok re) (Ok im) z e = grind arith
both (Ok re) (Err d) z e = grind arith
both (Err d) b z e = grind arith

first : (a b : Result Parts RangeFault) (d : RangeFault) → in_turn a b ≡ Err (step_fault d 1) → a ≡ Err d
first (Ok re) (Ok im) d e = grind arith
first (Ok re) (Err c) d e = grind arith
first (Err c) b d e = grind arith

second : (a b : Result Parts RangeFault) (d : RangeFault) → in_turn a b ≡ Err (step_fault d 2) → ((x : Parts) × (a ≡ Ok x)) × (b ≡ Err d)
second (Ok re) (Ok im) d e = absurd (grind arith)
second (Ok re) (Err c) d e = ((re, refl), grind arith)
second (Err c) b d e = absurd (grind arith)

pub both_rightly : (f : Format) → Sound f → (rn : ℕ → Exact → Parts) → ((p : ℕ) → 0 < p → Rounding p (rn p)) → (t u : Exact) (answer : Result (Complex Parts) StepFault) → answer ≡ two_steps f rn t u → BothRightlyRounded f t u answer
both_rightly f s rn rounds t u answer d = record { accepted = accepted; refused_first = refused_first; refused_second = refused_second }
  where
    real : RightlyRounded f t (stepped f rn t)
    real = (answers f s rn rounds t t (same_alike 24 t t refl) (stepped f rn t) refl).rightly_rounded

    imaginary : RightlyRounded f u (stepped f rn u)
    imaginary = (answers f s rn rounds u u (same_alike 24 u u refl) (stepped f rn u) refl).rightly_rounded

    accepted : (z : Complex Parts) → answer ≡ Ok z → RightlyRounded f t (Ok z.re) × RightlyRounded f u (Ok z.im)
    accepted z e = let (re, im) = both (stepped f rn t) (stepped f rn u) z (sym d ∙ e) in (subst (RightlyRounded f t) re real, subst (RightlyRounded f u) im imaginary)

    refused_first : (e : RangeFault) → answer ≡ Err (step_fault e 1) → RightlyRounded f t (Err e)
    refused_first c e = subst (RightlyRounded f t) (first (stepped f rn t) (stepped f rn u) c (sym d ∙ e)) real

    refused_second : (e : RangeFault) → answer ≡ Err (step_fault e 2) → ((x : Parts) × RightlyRounded f t (Ok x)) × RightlyRounded f u (Err e)
    refused_second c e = let ((x, re), im) = second (stepped f rn t) (stepped f rn u) c (sym d ∙ e) in ((x, subst (RightlyRounded f t) re real), subst (RightlyRounded f u) im imaginary)
