-- A refused record changes no place.
use Rattle.std.proofs.Common.{◌≡◌, true, List, is_err, Ok, Err, Result, refl, arith}
use Rattle.arith.specs.Sequence.{and_then}
use Rattle.arith.specs.declared.format.Format.{Format}
use Rattle.bank.specs.Slots.{Slot}
use Rattle.records.specs.Asked.{Asked, load, show, note, end, asked}
use Rattle.records.specs.Frames.{Framed}
use Rattle.records.specs.declared.fault.RecordFault.{RecordFault}
use Rattle.run.specs.Turns.{answered, places_if, outcome, places_of}

unchanged_if : (f : Format) (ps : List Slot) (a : Result Asked RecordFault) → is_err (answered f ps a) ≡ true → places_if f ps a ≡ ps
unchanged_if f ps (Ok (load d m n)) e = grind arith
unchanged_if f ps (Ok (show d)) e = refl
unchanged_if f ps (Ok (note t)) e = refl
unchanged_if f ps (Ok end) e = refl
unchanged_if f ps (Err x) e = refl

pub unchanged : (f : Format) (ps : List Slot) (r : Result Framed RecordFault) → is_err (outcome f ps r) ≡ true → places_of f ps r ≡ ps
unchanged f ps r e = unchanged_if f ps (and_then r (asked f)) e
