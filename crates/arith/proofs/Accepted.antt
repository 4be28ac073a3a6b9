-- The patterns that stand for a number, by their fields.
use Rattle.std.proofs.Common.{◌≡◌, ℕ, ◌<◌, Bool, true, false, cond, eqb, Ok, Err, refl, ◌∙◌, subst, arith}
use Rattle.std.proofs.lemmas.Bool.{eqb-true, eqb-false, ne_eqb, cond-false}
use Rattle.exact.specs.Parts.{Parts, zero_parts}
use Rattle.arith.specs.declared.format.Format.{Format}
use Rattle.arith.specs.declared.pattern.PatternFault.{PatternFault}
use Rattle.arith.specs.declared.pattern.PatternFault.TheVariants.{Invalid, Subnormal}
use Rattle.arith.specs.Pattern.{exponent_field, fraction, invalid, with_leading_one, decoded}

-- the pattern n is accepted, and stands for these parts
pub data Accepted (f : Format) (n : ℕ) : Parts → Type 0 where
  as_zero : invalid f n ≡ false → exponent_field f n ≡ 0 → fraction f n ≡ 0 → Accepted f n zero_parts
  as_normal : invalid f n ≡ false → 0 < exponent_field f n → Accepted f n (with_leading_one f n)

-- a pattern that is decoded is accepted
pub accepted : (f : Format) (n : ℕ) (x : Parts) → decoded f n ≡ Ok x → Accepted f n x
accepted f n x = go (invalid f n) (eqb (exponent_field f n) 0) (eqb (fraction f n) 0) refl refl refl
  where
    never : (d : PatternFault) → Err d ≡ Ok x → ⊥
    never d e = let z : ◌≡◌ {A = ℕ} 0 1 = cc in omega arith

    some : (q : ℕ) → eqb q 0 ≡ false → 0 < q
    some q e = omega (arith, eqb-false q 0 e)

    go : (i z t : Bool) → invalid f n ≡ i → eqb (exponent_field f n) 0 ≡ z → eqb (fraction f n) 0 ≡ t → cond i (Err Invalid) (cond z (cond t (Ok zero_parts) (Err Subnormal)) (Ok (with_leading_one f n))) ≡ Ok x → Accepted f n x
    go true z t i q r e = absurd (never Invalid e)
    go false true true i q r e = subst (Accepted f n) (cc) (as_zero i (eqb-true (exponent_field f n) 0 q) (eqb-true (fraction f n) 0 r))
    go false true false i q r e = absurd (never Subnormal e)
    go false false t i q r e = subst (Accepted f n) (cc) (as_normal i (some (exponent_field f n) q))

pub not_zero : (q : ℕ) → 0 < q → eqb q 0 ≡ false
not_zero q h = ne_eqb q 0 (λ e. omega arith)

-- a pattern that is accepted with a leading 1 is decoded
pub decoded_normal : (f : Format) (n : ℕ) → invalid f n ≡ false → 0 < exponent_field f n → decoded f n ≡ Ok (with_leading_one f n)
decoded_normal f n i q = cond-false (invalid f n) _ _ i ∙ cond-false (eqb (exponent_field f n) 0) _ _ (not_zero (exponent_field f n) q)
