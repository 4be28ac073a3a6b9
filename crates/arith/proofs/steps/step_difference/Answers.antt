-- A difference is the sum with the other sign of the second term.
use Rattle.exact.specs.Exact.{negated}
use Rattle.exact.proofs.Scale.{negated_like}
use Rattle.exact.proofs.Bounds.{negated_precise}
use Rattle.rounding.specs.Values.{exact_value}
use Rattle.arith.specs.Number.{parts_by}
use Rattle.arith.specs.Term.{term_value, scaled_term}
use Rattle.arith.proofs.Range.{sum_answers}
use Rattle.arith.proofs.Terms.{term_value_lem}
use Rattle.arith.proofs.steps.step_difference.Goals as goal

pub returns : goal.returns
returns g c =
    let x = c.args.x in
    let y = c.args.y in
    let a = sum_answers g.F.NamedFormat.format g.met.F.NamedFormat.usable.sound g.R.Rule.rn g.met.R.Rule.rounds (exact_value c.difference_of.result) (scaled_term x) (negated (scaled_term y)) (term_value x) (negated (term_value y)) (term_value_lem g.F.NamedFormat x) (negated_like (scaled_term y) (term_value y) (term_value_lem g.F.NamedFormat y)) c.difference_of.ensures (parts_by c.round_and_judge.result) c.round_and_judge.ensures in
    record { defined = a.defined; rightly_rounded = a.rightly_rounded; loss_has_precision = λ hx hy. a.loss_has_precision hx (negated_precise g.F.NamedFormat.format.precision (term_value y) hy) }
