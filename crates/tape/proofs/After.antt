-- The places after some records, the earliest of them first.
use Rattle.std.proofs.Common.{List, [], ◌∷◌}
use Rattle.arith.specs.declared.format.Format.{Format}
use Rattle.bank.specs.Slots.{Slot}
use Rattle.run.specs.Turns.{places_of}
use Rattle.tape.specs.Reading.{Read}

abbrev pub places_after : Format → List Slot → List Read → List Slot
places_after f ps [] = ps
places_after f ps (r ∷ rs) = places_after f (places_of f ps r) rs
