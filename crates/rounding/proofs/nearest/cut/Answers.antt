-- The quotient has at most 24 digits.
use Rattle.std.proofs.Common.{arith}
use Rattle.std.proofs.lemmas.Nat.{shr_below}
use Rattle.rounding.proofs.nearest.cut.Goals as goal

pub overflow_cast-q-2 : goal.overflow_cast-q-2
overflow_cast-q-2 g c = record { fits = omega (arith, shr_below c.args.n 24 c.args.k c.requires.short) }

pub nearer-requires : goal.nearer-requires
nearer-requires g c = shr_below c.args.n 24 c.args.k c.requires.short
