use Rattle.arith.proofs.Exponents.{minus_short, plus_short}
use Rattle.arith.proofs.number.Number.signed.Goals as goal

pub returns-then-self-clause-short : goal.returns-then-self-clause-short
returns-then-self-clause-short g c = minus_short c.args.self.significand g.F.NamedFormat.format.precision c.args.self.short g.met.F.NamedFormat.usable.sound.few_digits

pub returns-else-self-clause-short : goal.returns-else-self-clause-short
returns-else-self-clause-short g c = plus_short c.args.self.significand g.F.NamedFormat.format.precision c.args.self.short g.met.F.NamedFormat.usable.sound.few_digits
