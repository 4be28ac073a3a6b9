use Rattle.rounding.proofs.Sums.{shift_fits, shift_gives}
use Rattle.rounding.proofs.sum.power_of_two.Goals as goal

pub overflow_cast-result-2 : goal.overflow_cast-result-2
overflow_cast-result-2 c = shift_fits c.args.places c.requires

pub returns : goal.returns
returns c = shift_gives c.args.places c.requires
