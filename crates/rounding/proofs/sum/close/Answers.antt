use Rattle.std.proofs.Common.{◌∙◌, arith}
use borrow.Author.Differences.{ints}
use Rattle.rounding.proofs.Wholes.{same_whole}
use Rattle.rounding.proofs.Sums.{close_is, operands_same}
use Rattle.rounding.proofs.sum.close.Goals as goal

pub returns : goal.returns
returns c =
    let m = c.moved_sum.ensures in
    close_is c.args.x.whole c.args.y.whole _ c.args.x.exponent c.args.y.exponent _ c.args.apart c.requires.places (omega (arith, ints, c.args.y.low, c.args.y.high)) (same_whole c.moved_sum.result m.short ∙ m.value ∙ operands_same c.args.x.whole c.args.y.whole c.args.apart c.args.x.short c.args.y.short)
