-- The places of a bank as their contents.
use Rattle.std.specs.Prelude.{List, [], ◌∷◌, Option, Some, None}
use Rattle.arith.specs.Complex.{complex_parts}
use Rattle.arith.specs.declared.format.NamedFormat.{Ghosts}
use Rattle.bank.specs.Slots.{Slot, empty, filled}
use Rattle.bank.specs.declared.place.Held.{Held}
use Rattle.bank.specs.declared.store.Bank.{Bank}

abbrev pub slot : {F : Type 0} {g : Ghosts F} → Option (Held F g) → Slot
slot None = empty
slot (Some h) = filled (complex_parts h.number) h.depth.count

abbrev pub slots : {F : Type 0} {g : Ghosts F} → List (Option (Held F g)) → List Slot
slots [] = []
slots (p ∷ ps) = slot p ∷ slots ps

abbrev pub holds : {F : Type 0} {g : Ghosts F} → Bank F g → List Slot
holds b = slots b.places
