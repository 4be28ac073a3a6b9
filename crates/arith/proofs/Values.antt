-- The number of an accepted pattern has the value that IEEE 754 gives the pattern.
use Rattle.std.proofs.Common.{◌≡◌, ℕ, ◌+◌, ◌-◌, ◌^◌, ◌<◌, eqb, ℤ, pos, negsuc, ◌+ℤ◌, ◌-ℤ◌, sym, subst, arith}
use borrow.Author.Differences.{ints}
use Rattle.std.proofs.lemmas.Bool.{eq-eqb, cond-true, cond-false}
use Rattle.exact.specs.Exact.{scaled, signed_by, ◌≈◌, ◌⊠◌}
use Rattle.exact.specs.Parts.{Parts, value, zero_parts}
use Rattle.exact.proofs.Scaled.{signed_fraction}
use Rattle.arith.specs.declared.format.Format.{Format}
use Rattle.arith.specs.Pattern.{sign_bit, exponent_field, fraction, with_leading_one, ieee_value}
use Rattle.arith.proofs.Accepted.{Accepted, as_zero, as_normal, not_zero}

scaled_zero : (e : ℤ) → scaled (pos 0) e ≈ record { num = pos 0; low = 0 }
scaled_zero (pos e) = omega (arith, ints)
scaled_zero (negsuc e) = omega (arith, ints)

last_place : (e : ℤ) (p : ℕ) → 0 < p → e -ℤ pos (p - 1) ≡ e +ℤ pos 1 -ℤ pos p
last_place e p h = omega (arith, ints)

pub ieee_value_lem : (f : Format) (n : ℕ) (x : Parts) → 0 < f.precision → Accepted f n x → value f.precision x ≈ ieee_value f n
ieee_value_lem f n x h (as_zero i q t) =
    subst (λ v. value f.precision zero_parts ≈ v) (sym (cond-true (eqb (exponent_field f n) 0) _ _ (eq-eqb (exponent_field f n) 0 q))) (scaled_zero (pos 0 +ℤ pos 1 -ℤ pos f.precision))
ieee_value_lem f n x h (as_normal i q) =
    let e = pos (exponent_field f n) -ℤ pos f.emax in
    let m = 2 ^ (f.precision - 1) + fraction f n in
    subst (λ v. value f.precision (with_leading_one f n) ≈ v) (sym (cond-false (eqb (exponent_field f n) 0) _ _ (not_zero (exponent_field f n) q)))
    (subst (λ z. scaled (signed_by (sign_bit f n) m) z ≈ scaled (signed_by (sign_bit f n) 1) e ⊠ record { num = pos m; low = f.precision - 1 }) (last_place e f.precision h) (signed_fraction (sign_bit f n) m (f.precision - 1) e))
