-- The number that each refusal of a run is known by.
use Rattle.std.specs.Prelude.{ℕ}
use Rattle.bank.specs.Numbers as bank
use Rattle.records.specs.Numbers as records
use Rattle.run.specs.declared.refusal.Refusal.{Refusal}
use Rattle.run.specs.declared.refusal.Refusal.TheVariants.{TapeTooLong, BufferTooShort, Record, Bank}

abbrev pub number_of : Refusal → ℕ
number_of TapeTooLong = 8
number_of BufferTooShort = 15
number_of (Record e) = records.number_of e
number_of (Bank e) = bank.number_of e
