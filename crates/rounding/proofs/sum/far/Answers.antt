use Rattle.std.proofs.Common.{◌≡◌, ℤ, pos, negsuc, ◌+ℤ◌, ◌-ℤ◌, ◌*ℤ◌, ◌≤ℤ◌, ap, ◌∙◌, arith, w32, to_z, of_z}
use borrow.Author.Differences.{ints}
use Rattle.std.specs.Int.{int_signum}
use Rattle.exact.specs.Exact.{two^}
use Rattle.rounding.proofs.Wholes.{same_whole}
use Rattle.rounding.proofs.Sums.{operands_same, far_is, other_order}
use Rattle.rounding.proofs.sum.far.Goals as goal

lowered : (e : ℤ) → negsuc 299 ≤ℤ e → e ≤ℤ pos 300 → to_z w32 (of_z w32 (to_z w32 (of_z w32 e) -ℤ pos 30)) ≡ e -ℤ pos 30
lowered e lo hi = omega (arith, ints)

pub returns : goal.returns
returns c =
    let m = c.moved_sum.ensures in
    let h = far_is c.args.x.exponent c.args.y.exponent c.requires.places c.args.x.whole c.args.y.whole _ _ c.requires.large c.requires.small c.args.y.short
    (same_whole c.moved_sum.result m.short ∙ m.value ∙ operands_same c.args.x.whole c.unit.result 30 c.args.x.short c.unit.ensures.small ∙ ap (λ (z : ℤ). c.args.x.whole *ℤ two^ 30 +ℤ z) (c.unit.ensures.value ∙ ap int_signum (same_whole c.args.y.whole (omega (arith, c.args.y.short))))) (lowered c.args.x.exponent c.args.x.low c.args.x.high) in
    record { forward = h; backward = other_order _ _ _ h }
