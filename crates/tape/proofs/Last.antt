-- A run ends with the last record that is read.
use Rattle.std.proofs.Common.{◌≡◌, List, arith}
use Rattle.std.proofs.lemmas.Bool.Decides.{nat_tests}
use Rattle.arith.specs.declared.format.Format.{Format}
use Rattle.bank.specs.Slots.{Slot}
use Rattle.run.specs.Turns.{ends_of}
use Rattle.tape.specs.Reading.{Read, is_last}

pub ends_at_last : (f : Format) (ps : List Slot) (r : Read) → ends_of f ps r ≡ is_last r
ends_at_last f ps r = grind (arith, nat_tests)
