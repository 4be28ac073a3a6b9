-- Whole numbers with a sign, of at most 126 digits, in the code's 128 bits.
use Rattle.std.proofs.Common.{◌≡◌, ℕ, ◌^◌, ◌<◌, ℤ, pos, nat_abs, FitsSigned, to_z, of_z, sym, ap, ◌∙◌, arith}
use borrow.Author.Differences.{ints}
use Rattle.std.specs.Int.{w128}
use Rattle.std.proofs.lemmas.Int.{to_z-of_z}

module _ (z : ℤ) (short : nat_abs z < 2 ^ 126) where
  pub whole_fits : FitsSigned w128 z
  whole_fits = omega (arith, ints)

  -- it is the same after it went to its bits and back
  pub same_whole : to_z w128 (of_z w128 z) ≡ z
  same_whole = to_z-of_z w128 z whole_fits

  pub zero_if : of_z w128 z ≡ 0 → z ≡ pos 0
  zero_if e = sym same_whole ∙ ap (to_z w128) e

  -- n is its size
  module _ (n : ℕ) (size : n ≡ nat_abs (to_z w128 (of_z w128 z))) where
    pub size_is : n ≡ nat_abs z
    size_is = size ∙ ap nat_abs same_whole

    pub size_short : n < 2 ^ 126
    size_short = rw size_is short
