-- One record of an opened run: what comes of it, its line, the places after it, and whether the run ends.
use Rattle.std.specs.Prelude.{ℕ, ◌+◌, Bool, true, false, List, length, Ok, Err, Result}
use Rattle.std.specs.Result.{result_map_both}
use Rattle.arith.specs.Sequence.{and_then}
use Rattle.arith.specs.declared.format.Format.{Format}
use Rattle.bank.specs.Slots.{Slot}
use Rattle.bank.specs.Calls.{told, written, shown}
use Rattle.bank.specs.Calls as calls
use Rattle.records.specs.Asked.{Asked, load, show, note, end, asked}
use Rattle.records.specs.Frames.{Framed}
use Rattle.records.specs.declared.fault.RecordFault.{RecordFault}
use Rattle.run.specs.Lines.{Done, loaded_at, shown_at, noted, ended, done_line, refusal_line, done_by}
use Rattle.run.specs.declared.refusal.Refusal.{Refusal}
use Rattle.run.specs.declared.refusal.Refusal.TheVariants.{Record, Bank}
use Rattle.run.specs.declared.reply.Reply.{Reply}

-- ---- what comes of a record, with a bank of the format f whose places hold ps

-- a record that could be read: the bank's answer, or its refusal, which the run passes on
abbrev pub obeyed : Format → List Slot → Asked → Result Done Refusal
obeyed f ps (load d m n) = result_map_both (λ _. loaded_at d) Bank (told (calls.loaded f d m n))
obeyed f ps (show d) = result_map_both (shown_at d) Bank (shown f ps d)
obeyed f ps (note t) = Ok (noted t)
obeyed f ps end = Ok ended

-- the places after it
abbrev pub places_by : Format → List Slot → Asked → List Slot
places_by f ps (load d m n) = written ps d (calls.loaded f d m n)
places_by f ps (show d) = ps
places_by f ps (note t) = ps
places_by f ps end = ps

-- the same, where the record may have been refused while it was read
abbrev pub answered : Format → List Slot → Result Asked RecordFault → Result Done Refusal
answered f ps (Ok a) = obeyed f ps a
answered f ps (Err e) = Err (Record e)

-- the places after it: a record that was refused while it was read changes none
abbrev pub places_if : Format → List Slot → Result Asked RecordFault → List Slot
places_if f ps (Ok a) = places_by f ps a
places_if f ps (Err e) = ps

-- ---- of the record at the front of what is left of the tape, which is a whole record or the refusal of a missing part
-- what comes of it
abbrev pub outcome : Format → List Slot → Result Framed RecordFault → Result Done Refusal
outcome f ps r = answered f ps (and_then r (asked f))

-- the places after it
abbrev pub places_of : Format → List Slot → Result Framed RecordFault → List Slot
places_of f ps r = places_if f ps (and_then r (asked f))

-- its line, by what comes of it
abbrev pub line_by : Format → ℕ → Result Done Refusal → List ℕ
line_by f n (Ok d) = done_line f n d
line_by f n (Err e) = refusal_line n e

abbrev pub line_of : Format → List Slot → ℕ → Result Framed RecordFault → List ℕ
line_of f ps n r = line_by f n (outcome f ps r)

-- the run ends with an accepted end, and where a part is missing
abbrev pub is_end : Done → Bool
is_end (loaded_at d) = false
is_end (shown_at d s) = false
is_end (noted t) = false
is_end ended = true

abbrev pub accepted_end : Result Done Refusal → Bool
accepted_end (Ok d) = is_end d
accepted_end (Err e) = false

abbrev pub ends_of : Format → List Slot → Result Framed RecordFault → Bool
ends_of f ps (Ok r) = accepted_end (outcome f ps (Ok r))
ends_of f ps (Err e) = true

-- the bytes of a whole record, which are passed over
abbrev pub bytes_of : Result Framed RecordFault → ℕ
bytes_of (Ok r) = 4 + length r.payload
bytes_of (Err e) = 0

-- what the code's answer stands for
abbrev pub replied : Result Reply Refusal → Result Done Refusal
replied (Ok r) = Ok (done_by r)
replied (Err e) = Err e
