use Rattle.exact.specs.Exact.{◌⊞◌}
use Rattle.arith.specs.Complex.{complex_by}
use Rattle.arith.specs.Number.{value_of}
use Rattle.arith.proofs.TwoSteps.{both_rightly}
use Rattle.arith.proofs.complex_sums.«Complex+Number+F».plus.Goals as goal

pub returns-clause-rightly_rounded : goal.returns-clause-rightly_rounded
returns-clause-rightly_rounded g c =
    let x = c.args.self in
    let y = c.args.other in
    both_rightly g.F.NamedFormat.format g.met.F.NamedFormat.usable.sound g.R.Rule.rn g.met.R.Rule.rounds (value_of x.re ⊞ value_of y.re) (value_of x.im ⊞ value_of y.im) (complex_by c.sum_in_steps.result) c.sum_in_steps.ensures
