use Rattle.std.proofs.Common.{sym, subst}
use Rattle.exact.specs.Exact.{Exact, ◌≈◌}
use Rattle.exact.specs.Parts.{value}
use Rattle.exact.proofs.Sums.{same_alike}
use Rattle.rounding.specs.Values.{exact_value}
use Rattle.arith.specs.Number.{parts_by}
use Rattle.arith.specs.Term.{term_value}
use Rattle.arith.proofs.Range.{answers, answer_precise}
use Rattle.arith.proofs.Terms.{term_value_lem, term_lost}
use Rattle.arith.proofs.steps.step_term.Goals as goal

pub returns : goal.returns
returns g c =
    let f = g.F.NamedFormat.format in
    let rn = g.R.Rule.rn in
    let r = parts_by c.round_and_judge.result in
    let x = c.args.x in
    let t = exact_value c.unrounded_of.result in
    let h = same_alike 24 t (term_value x) (subst (λ (z : Exact). z ≈ term_value x) (sym c.unrounded_of.ensures) (term_value_lem g.F.NamedFormat x)) in
    let a = answers f g.met.F.NamedFormat.usable.sound rn g.met.R.Rule.rounds t (term_value x) h r c.round_and_judge.ensures in
    record {
      defined = a.defined;
      rightly_rounded = a.rightly_rounded;
      loss_has_precision = λ z e. term_lost g.F.NamedFormat x (value f.precision z) (answer_precise f g.met.F.NamedFormat.usable.sound rn g.met.R.Rule.rounds (term_value x) r a z e) (a.rightly_rounded.nearest z e);
    }
