-- The number that each refusal of a record is known by.
use Rattle.std.specs.Prelude.{ℕ}
use Rattle.records.specs.declared.fault.RecordFault.{RecordFault}
use Rattle.records.specs.declared.fault.RecordFault.TheVariants.{MissingPart, UnknownKind, WrongLength, UnknownCode, OutOfOrder, NotText}

abbrev pub number_of : RecordFault → ℕ
number_of MissingPart = 9
number_of UnknownKind = 10
number_of WrongLength = 11
number_of UnknownCode = 12
number_of OutOfOrder = 13
number_of NotText = 14
