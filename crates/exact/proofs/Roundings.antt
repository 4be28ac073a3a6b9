-- A rounding of exact values, seen on one scale.
use Rattle.std.proofs.Common.{ℕ, ◌≤◌, ℤ, pos, ◌+ℤ◌, ◌-ℤ◌, nat_abs, refl, le_refl}
use Rattle.exact.proofs.Signs.{abs_signed}
use Rattle.exact.proofs.Scale.{at, nearer_at, on, at_on}
use Rattle.exact.proofs.Precision.{WholePrecision, on_precise, precise_at}
use Rattle.exact.proofs.Nearness.{NearestWhole}
use Rattle.exact.specs.Exact.{Exact, HasPrecision, signed_by}
use Rattle.exact.specs.Parts.{Parts, value, Canonical}
use Rattle.exact.specs.Rounding.{NoneNearer, Rounding}

-- parts in the one form have precision p
pub canonical_precise : (p : ℕ) (x : Parts) → Canonical p x → HasPrecision p (value p x)
canonical_precise p x c = (signed_by x.negative x.significand, x.exponent +ℤ pos 1 -ℤ pos p, rw (abs_signed x.negative x.significand) c.short, refl)

pub nearest_at : (p : ℕ) (t x : Exact) → HasPrecision p x → NoneNearer p t x → (S : ℕ) → t.low ≤ S → x.low ≤ S → NearestWhole p (at S t) (at S x)
nearest_at p t x h n S ht hx = record { precise = precise_at p S x hx h; near = near }
  where
    near : (y : ℤ) → WholePrecision p y → nat_abs (at S x -ℤ at S t) ≤ nat_abs (y -ℤ at S t)
    near y w = let l = nearer_at S (on S y) x t (le_refl S) hx ht (n (on S y) (on_precise p S w)) in rw (at_on S y) at l

pub rounding_at : (p : ℕ) (rn : Exact → Parts) → Rounding p rn → (t : Exact) (S : ℕ) → t.low ≤ S → (value p (rn t)).low ≤ S → NearestWhole p (at S t) (at S (value p (rn t)))
rounding_at p rn R t = nearest_at p t (value p (rn t)) (canonical_precise p (rn t) (R.canonical t)) (R.nearest t)
