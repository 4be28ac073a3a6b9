-- What holds of a step on an exact value, whatever the rounding rule.
use Rattle.std.proofs.Common.{◌≡◌, ℕ, ◌-◌, ◌^◌, ◌<◌, ◌⊎◌, ℤ, pos, ◌+ℤ◌, ◌-ℤ◌, ◌≤ℤ◌, ◌<ℤ◌, Ok, Err, Result, sym, ap, ◌∙◌, subst, inl, inr, arith, pow_pos}
use borrow.Author.Differences.{ints}
use Rattle.std.proofs.lemmas.Bool.Decides.{nat_tests}
use Rattle.exact.specs.Exact.{Exact, HasPrecision, scaled, size, whole, ◌≈◌, ◌⊑◌, ◌⊞◌}
use Rattle.exact.specs.Parts.{Parts, parts, zero_parts, value, Canonical}
use Rattle.exact.specs.Rounding.{NoneNearer, Rounding, OneOfTwo, RoundAlike, WithinRoundoff}
use Rattle.exact.proofs.Scale.{same_trans, plus_like}
use Rattle.exact.proofs.Scaled.{size_scaled, zero_scaled, exponents_le}
use Rattle.exact.proofs.OneForm.{zero_canonical, same_parts}
use Rattle.exact.proofs.Roundings.{canonical_precise}
use Rattle.exact.proofs.Bounds.{exact_kept, within_roundoff, size_reaches, size_stays, sum_error_precise}
use Rattle.exact.proofs.Sums.{alike_same}
use Rattle.exact.proofs.Midway.{one_of_two, free_midway_only}
use Rattle.arith.specs.Format.{Sound}
use Rattle.arith.specs.declared.format.Format.{Format}
use Rattle.arith.specs.declared.fault.RangeFault.{RangeFault}
use Rattle.arith.specs.declared.fault.RangeFault.TheVariants.{Above, Below}
use Rattle.arith.specs.Step.{in_range, stepped, largest, smallest, RightlyRounded, LossHasPrecision}
use Rattle.arith.proofs.Formats.{significands}

-- ---- what an answer of `in_range` says
accepted : (f : Format) (x y : Parts) → (x.significand ≡ 0 → x ≡ zero_parts) → in_range f x ≡ Ok y → x ≡ y
accepted f x y z e = grind (arith, nat_tests)

above : (f : Format) (x : Parts) → in_range f x ≡ Err Above → (0 < x.significand) × (pos f.emax <ℤ x.exponent)
above f x e = grind (arith, nat_tests, ints)

below : (f : Format) (x : Parts) → in_range f x ≡ Err Below → (0 < x.significand) × (x.exponent <ℤ (pos 1 -ℤ pos f.emax))
below f x e = grind (arith, nat_tests, ints)

-- exponents in units of the last digit
no_higher : (e m : ℤ) (p : ℕ) → m <ℤ e → (e +ℤ pos 1 -ℤ pos p) ≤ℤ (m +ℤ pos 1 -ℤ pos p) → ⊥
no_higher e m p h l = omega (arith, ints)

-- ---- a step by any rounding
module _ (f : Format) (s : Sound f) (rn : Exact → Parts) (R : Rounding f.precision rn) (t : Exact) where
  abbrev p : ℕ
  p = f.precision

  abbrev x : Parts
  x = rn t

  zero_form : x.significand ≡ 0 → x ≡ zero_parts
  zero_form z = λ i. parts ((R.canonical t).plain z i) (z i) ((R.canonical t).flat z i)

  precise : HasPrecision p (value p x)
  precise = canonical_precise p x (R.canonical t)

  sized : size (value p x) ≡ scaled (pos x.significand) (x.exponent +ℤ pos 1 -ℤ pos p)
  sized = size_scaled x.negative x.significand (x.exponent +ℤ pos 1 -ℤ pos p)

  not_larger : in_range f x ≡ Err Above → size t ⊑ largest f → ⊥
  not_larger e h =
      let (some, high) = above f x e in
      let l : size (value p x) ⊑ largest f = size_stays p t (value p x) precise (R.nearest t) s.some_digit (2 ^ p - 1) (omega arith) (pos f.emax +ℤ pos 1 -ℤ pos p) h in
      no_higher x.exponent (pos f.emax) p high
      (exponents_le p x.significand (2 ^ p - 1) (x.exponent +ℤ pos 1 -ℤ pos p) (pos f.emax +ℤ pos 1 -ℤ pos p) ((R.canonical t).full some) (less (2 ^ p) (pow_pos p)) (subst (λ (z : Exact). z ⊑ largest f) sized l))
    where
      less : (n : ℕ) → 0 < n → n - 1 < n
      less n h = omega arith

  not_smaller : in_range f x ≡ Err Below → (t ≈ whole (pos 0)) ⊎ (smallest f ⊑ size t) → ⊥
  not_smaller e (inr h) =
      let (some, low) = below f x e in
      let l : smallest f ⊑ size (value p x) = size_reaches p t (value p x) precise (R.nearest t) s.some_digit (2 ^ (p - 1)) (omega (arith, significands f s)) (pos 1 -ℤ pos f.emax +ℤ pos 1 -ℤ pos p) h in
      no_higher (pos 1 -ℤ pos f.emax) x.exponent p low
      (exponents_le p (2 ^ (p - 1)) x.significand (pos 1 -ℤ pos f.emax +ℤ pos 1 -ℤ pos p) (x.exponent +ℤ pos 1 -ℤ pos p) (omega (arith, significands f s)) (R.canonical t).short (subst (λ (z : Exact). smallest f ⊑ z) sized l))
  not_smaller e (inl z) =
      let (some, low) = below f x e in
      let k : value p x ≈ t = exact_kept p t (value p x) precise (R.nearest t) (pos 0, pos 0, pow_pos p, z) in
      let q : x ≡ zero_parts = same_parts p x zero_parts (R.canonical t) (zero_canonical p) (same_trans (value p x) (whole (pos 0)) (value p zero_parts) (same_trans (value p x) t (whole (pos 0)) k z) (zero_scaled (pos 0) (pos 0 +ℤ pos 1 -ℤ pos p))) in
      absurd (omega (arith, some, ap (λ (y : Parts). y.significand) q))

  rightly : RightlyRounded f t (in_range f x)
  rightly = record {
    nearest = λ y e. subst (λ (z : Parts). NoneNearer p t (value p z)) (accepted f x y zero_form e) (R.nearest t);
    within_roundoff = λ y e. subst (λ (z : Parts). WithinRoundoff p t (value p z)) (accepted f x y zero_form e) (within_roundoff p t (value p x) precise (R.nearest t) s.some_digit);
    exact_kept = λ y e h. subst (λ (z : Parts). value p z ≈ t) (accepted f x y zero_form e) (exact_kept p t (value p x) precise (R.nearest t) h);
    too_large = not_larger;
    too_small = not_smaller;
    one_of_two = λ y e. subst (λ (z : Parts). OneOfTwo p t (value p z)) (accepted f x y zero_form e) (one_of_two p s.some_digit t (value p x) precise (R.nearest t));
    free_midway_only = λ other O free. ap (in_range f) (free_midway_only p s.some_digit rn (other p) R O t free);
  }

-- ---- what a step answers on a value that is rounded like u
pub record Answers (f : Format) (rn : ℕ → Exact → Parts) (u : Exact) (answer : Result Parts RangeFault) : Type 0 where
  pub defined : answer ≡ stepped f rn u
  pub rightly_rounded : RightlyRounded f u answer

pub answers : (f : Format) → Sound f → (rn : ℕ → Exact → Parts) → ((p : ℕ) → 0 < p → Rounding p (rn p)) → (t u : Exact) → RoundAlike 24 t u → (answer : Result Parts RangeFault) → answer ≡ stepped f rn t → Answers f rn u answer
answers f s rn rounds t u h answer e =
    let p = f.precision in
    let R = rounds p s.some_digit in
    let d : answer ≡ stepped f rn u = e ∙ ap (in_range f) (h.alike p s.some_digit s.few_digits (rn p) R) in
    record { defined = d; rightly_rounded = subst (RightlyRounded f u) (sym d) (rightly f s (rn p) R u) }

-- an answer has the format's precision
pub answer_precise : (f : Format) → Sound f → (rn : ℕ → Exact → Parts) → ((p : ℕ) → 0 < p → Rounding p (rn p)) → (u : Exact) (answer : Result Parts RangeFault) → Answers f rn u answer → (x : Parts) → answer ≡ Ok x → HasPrecision f.precision (value f.precision x)
answer_precise f s rn rounds u answer a x e =
    let R = rounds f.precision s.some_digit in
    subst (λ (z : Parts). HasPrecision f.precision (value f.precision z)) (accepted f (rn f.precision u) x (zero_form f s (rn f.precision) R u) (sym a.defined ∙ e)) (precise f s (rn f.precision) R u)

-- ---- a step on x + y, given a value t that is rounded like the sum of values equal to them
pub record SumAnswers (f : Format) (rn : ℕ → Exact → Parts) (x y : Exact) (answer : Result Parts RangeFault) : Type 0 where
  pub defined : answer ≡ stepped f rn (x ⊞ y)
  pub rightly_rounded : RightlyRounded f (x ⊞ y) answer
  pub loss_has_precision : HasPrecision f.precision x → HasPrecision f.precision y → LossHasPrecision f (x ⊞ y) answer

pub sum_answers : (f : Format) → Sound f → (rn : ℕ → Exact → Parts) → ((p : ℕ) → 0 < p → Rounding p (rn p)) → (t x' y' x y : Exact) → x' ≈ x → y' ≈ y → RoundAlike 24 t (x' ⊞ y') → (answer : Result Parts RangeFault) → answer ≡ stepped f rn t → SumAnswers f rn x y answer
sum_answers f s rn rounds t x' y' x y hx hy h answer e =
    let a = answers f s rn rounds t (x ⊞ y) (alike_same 24 t (x' ⊞ y') (x ⊞ y) (plus_like x' y' x y hx hy) h) answer e in
    record {
      defined = a.defined;
      rightly_rounded = a.rightly_rounded;
      loss_has_precision = λ px py z q. sum_error_precise f.precision s.some_digit x y (value f.precision z) px py (answer_precise f s rn rounds (x ⊞ y) answer a z q) (a.rightly_rounded.nearest z q);
    }

-- ---- a rule's answer has the form of a number
pub formed : (p q : ℕ) (rn : ℕ → Exact → Parts) → ((p : ℕ) → 0 < p → Rounding p (rn p)) → (t : Exact) (x : Parts) → 0 < q → q ≡ p → x ≡ rn q t → Canonical p x
formed p q rn rounds t x h k e = subst (Canonical p) (sym (e ∙ ap (λ (z : ℕ). rn z t) k)) ((rounds p (subst (λ (z : ℕ). 0 < z) k h)).canonical t)
