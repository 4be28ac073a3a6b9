use Rattle.std.proofs.Common.{◌≡◌, ℕ, ◌+◌, ◌-◌, ◌≤◌, sym, ◌∙◌, arith}
use lib.Count.{count_leading_zeros}
use Rattle.std.proofs.lemmas.Nat.{leading_length}
use Rattle.exact.proofs.Digits.{digits_by}
use Rattle.rounding.proofs.nearest.digits.Goals as goal

left : (z m : ℕ) → z + m ≡ 128 → 128 - z ≡ m
left z m e = omega arith

less : (z : ℕ) → 128 - z ≤ 128
less z = omega arith

pub returns : goal.returns
returns c =
    let (m, e, hi, lo) = leading_length 128 c.args.n c.ranges.n.fits in
    record { defined = left (count_leading_zeros 128 c.args.n) m e ∙ sym (digits_by c.args.n m hi lo); few = less (count_leading_zeros 128 c.args.n) }
