use Rattle.std.proofs.Common.{arith}
use Rattle.exact.proofs.Sums.{same_alike}
use Rattle.rounding.specs.Values.{exact_value}
use Rattle.rounding.proofs.Wholes.{zero_if}
use Rattle.rounding.proofs.Sums.{zero_right, other_order}
use Rattle.rounding.proofs.sum.descending.Goals as goal

pub returns-then-apart-lt77 : goal.returns-then-apart-lt77
returns-then-apart-lt77 c =
    let h = same_alike 24 _ _ c.close.ensures in
    record { forward = h; backward = other_order _ (exact_value c.args.x) (exact_value c.args.y) h }

pub returns-then-y-eq0 : goal.returns-then-y-eq0
returns-then-y-eq0 c =
    let h = zero_right _ c.args.x.whole c.args.x.exponent c.args.y.whole c.args.y.exponent (zero_if c.args.y.whole (omega (arith, c.args.y.short)) c.if-y-eq0.true) c.from.ensures in
    record { forward = h; backward = other_order _ (exact_value c.args.x) (exact_value c.args.y) h }

pub returns-then-x-eq0 : goal.returns-then-x-eq0
returns-then-x-eq0 c =
    let h = zero_right _ c.args.y.whole c.args.y.exponent c.args.x.whole c.args.x.exponent (zero_if c.args.x.whole (omega (arith, c.args.x.short)) c.if-x-eq0.true) c.from-then-x-eq0.ensures in
    record { forward = other_order _ (exact_value c.args.y) (exact_value c.args.x) h; backward = h }
