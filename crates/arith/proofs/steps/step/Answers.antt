use Rattle.std.proofs.Common.{refl}
use Rattle.exact.proofs.Sums.{same_alike}
use Rattle.rounding.specs.Values.{exact_value}
use Rattle.arith.specs.Number.{parts_by}
use Rattle.arith.proofs.Range.{answers}
use Rattle.arith.proofs.steps.step.Goals as goal

pub returns-clause-rightly_rounded : goal.returns-clause-rightly_rounded
returns-clause-rightly_rounded g c =
    let t = exact_value c.args.t in
    (answers g.F.NamedFormat.format g.met.F.NamedFormat.usable.sound g.R.Rule.rn g.met.R.Rule.rounds t t (same_alike 24 t t refl) (parts_by c.round_and_judge.result) c.round_and_judge.ensures).rightly_rounded
