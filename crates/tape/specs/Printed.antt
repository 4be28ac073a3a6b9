-- What is printed for a tape.
use Rattle.std.specs.Prelude.{ℕ, zero, suc, ◌+◌, cond, List, [], ◌++◌, length, drop, Ok, Err, Result}
use Rattle.arith.specs.Format.{format_of}
use Rattle.arith.specs.declared.format.Format.{Format}
use Rattle.bank.specs.Slots.{Slot, fresh}
use Rattle.records.specs.Codes.{format_number}
use Rattle.records.specs.Frames.{front}
use Rattle.records.specs.declared.codes.Codes.{Codes}
use Rattle.records.specs.declared.fault.RecordFault.{RecordFault}
use Rattle.run.specs.Lines.{refusal_line}
use Rattle.run.specs.States.{short_tape, first, first_line}
use Rattle.run.specs.Turns.{line_of, places_of, ends_of, bytes_of}
use Rattle.run.specs.declared.refusal.Refusal.{Refusal}

-- The lines of the records at the front of some bytes, numbered from n on, with a bank of the format f whose places hold ps:
-- at most so many records, and none behind the one that ends the run.
abbrev pub lines_of : ℕ → Format → List Slot → ℕ → List ℕ → List ℕ
lines_of zero f ps n bs = []
lines_of (suc i) f ps n bs =
    line_of f ps n (front bs)
    ++ cond (ends_of f ps (front bs)) [] (lines_of i f (places_of f ps (front bs)) (n + 1) (drop (bytes_of (front bs)) bs))

-- all of them: each record but the last takes bytes, so one more than there are bytes is bound enough
abbrev pub lines_from : Format → List Slot → ℕ → List ℕ → List ℕ
lines_from f ps n bs = lines_of (suc (length bs)) f ps n bs

-- the format that the codes of an opening record name
abbrev pub format_in : Codes → Format
format_in c = format_of (format_number c.format)

-- the lines behind the first, with a new bank; a tape has fewer records than bytes, so its length is bound enough
abbrev pub lines_behind : List ℕ → Result Codes RecordFault → List ℕ
lines_behind t (Ok c) = lines_of (length t) (format_in c) fresh 2 (drop (bytes_of (front t)) t)
lines_behind t (Err e) = []

-- the line of the first record, and those behind it
abbrev pub run_lines : List ℕ → List ℕ
run_lines t = first_line (first t) ++ lines_behind t (first t)

-- a tape that is too long gives the line of that refusal only, with the number 0, since no record was read
abbrev pub printed_if : List ℕ → Result (Unit {0}) Refusal → List ℕ
printed_if t (Ok u) = run_lines t
printed_if t (Err e) = refusal_line 0 e

-- what is printed for a tape
abbrev pub printed : List ℕ → List ℕ
printed t = printed_if t (short_tape (length t))
