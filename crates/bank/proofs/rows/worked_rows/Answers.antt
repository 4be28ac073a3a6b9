-- Every row by calculation.
use Rattle.std.proofs.Common.{refl}
use lib.Ieee.{size, span, climb}
use Rattle.exact.specs.Parts.{canonical}
use Rattle.exact.specs.Ties.{round_whole}
use Rattle.bank.proofs.rows.worked_rows.Goals as goal

pub returns-clause-all_stand : goal.returns-clause-all_stand
unfolding canonical round_whole size span climb
returns-clause-all_stand c = (refl, (refl, (refl, (refl, (refl, (refl, (refl, (refl, (refl, (refl, (refl, (refl, (refl, (refl, (refl, (refl, (refl, (refl, (refl, (refl, (refl, (refl, tt))))))))))))))))))))))
