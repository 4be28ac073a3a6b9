-- A rule's answer has the form of a number.
use Rattle.exact.specs.Exact.{is_negative}
use Rattle.exact.specs.Parts.{parts}
use Rattle.rounding.specs.Values.{exact_value}
use Rattle.arith.proofs.Range.{formed}
use Rattle.arith.proofs.steps.round_and_judge.Goals as goal

pub invariant_of-result-clause-full : goal.invariant_of-result-clause-full
invariant_of-result-clause-full g c =
    let m = c.round-significand.result in
    (formed g.F.NamedFormat.format.precision c.precision.result.bits g.R.Rule.rn g.met.R.Rule.rounds (exact_value c.args.t) (parts (is_negative c.args.t.whole) m.0 m.1) c.precision.result.some c.precision.ensures c.round-significand.ensures).full
