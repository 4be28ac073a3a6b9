use Rattle.std.proofs.Common.{arith}
use lib.Ieee.{binary32}
use Rattle.std.proofs.num.Patterns.{below_the_nans}
use Rattle.sums.proofs.float.Goals as goal

pub float_from_bits-result : goal.float_from_bits-result
float_from_bits-result c = below_the_nans binary32 c.args.pattern (omega arith)
