-- Where making, opening and taking lead a run.
use Rattle.std.specs.Prelude.{◌≡◌, ℕ, ◌+◌, ◌≤◌, min, true, false, cond, List, length, drop, is_err, Ok, Err, Result, nat_lt}
use Rattle.std.specs.Borrow.{Bor}
use Rattle.arith.specs.Sequence.{and_then}
use Rattle.arith.specs.declared.format.Format.{Format}
use Rattle.bank.specs.Slots.{Slot}
use Rattle.records.specs.Asked.{opening}
use Rattle.records.specs.Frames.{Framed, contents, front}
use Rattle.records.specs.declared.codes.Codes.{Codes}
use Rattle.records.specs.declared.fault.RecordFault.{RecordFault}
use Rattle.records.specs.declared.frame.Frame.{Frame}
use Rattle.run.specs.Lines.{open_line, refusal_line}
use Rattle.run.specs.Text.{Wrote}
use Rattle.run.specs.Turns.{line_of, places_of, ends_of, bytes_of}
use Rattle.run.specs.declared.refusal.Refusal.{Refusal}
use Rattle.run.specs.declared.refusal.Refusal.TheVariants.{TapeTooLong, BufferTooShort, Record}
use Rattle.run.specs.declared.states.AfterRecord.{AfterRecord}
use Rattle.run.specs.declared.states.AfterRecord.TheVariants.{Running, Ended}
use Rattle.run.specs.declared.states.EndedRun.{EndedRun}
use Rattle.run.specs.declared.states.FreshRun.{FreshRun}
use Rattle.run.specs.declared.states.NoRoom.{NoRoom}
use Rattle.run.specs.declared.states.OpenedRun.{OpenedRun}
use Rattle.run.specs.declared.states.Window.{Window}

-- ---- making a run
-- a tape has at most 65,536 bytes
abbrev pub short_tape : ℕ → Result (Unit {0}) Refusal
short_tape n = cond (nat_lt 65536 n) (Err TapeTooLong) (Ok tt)

-- a new run has the tape that it was lent
pub record Starts (tape : Bor (List ℕ)) (run : FreshRun) : Type 0 where
  pub short : short_tape (length tape.now) ≡ Ok tt
  pub lent : run.tape ≡ tape

-- ---- what an opened run sees
-- the bytes from the place reached on
abbrev pub left : Window → List ℕ
left w = drop w.at w.tape.now

-- the record at the front of them, as the code takes it with the window behind it
abbrev pub taken_from : Result (Frame × Window) RecordFault → Result Framed RecordFault
taken_from (Ok r) = Ok (contents r.0)
taken_from (Err e) = Err e

-- the number of the record behind the one with the number n; it stops at 2^32 − 1
abbrev pub number_behind : ℕ → ℕ
number_behind n = min (n + 1) 4294967295

-- a window over a tape that is not too long, within it, which has counted no more records than bytes
pub record InTape (w : Window) : Type 0 where
  pub short : length w.tape.now ≤ 65536
  pub within : w.at ≤ length w.tape.now
  pub counted : w.number ≤ w.at

-- the window behind that record, with its number
pub record IsBehind (w behind : Window) : Type 0 where
  pub lent : behind.tape ≡ w.tape
  pub at : behind.at ≡ w.at + bytes_of (front (left w))
  pub within : behind.at ≤ length behind.tape.now
  pub number : behind.number ≡ number_behind w.number
  pub stays_in_tape : InTape w → InTape behind

-- a line buffer has at least 96 bytes
abbrev pub room_for : ℕ → Result (Unit {0}) Refusal
room_for n = cond (nat_lt n 96) (Err BufferTooShort) (Ok tt)

-- nothing was read, and the buffer is untouched
pub record Untouched {Run : Type 0} (run : Run) (stays : NoRoom Run) (before after : List ℕ) : Type 0 where
  pub no_room : room_for (length before) ≡ Err stays.refusal
  pub run_stays : stays.run ≡ run
  pub buffer_stays : after ≡ before

-- ---- opening a run by its first record
-- the codes of a first record, or why it is refused
abbrev pub first : List ℕ → Result Codes RecordFault
first bs = and_then (front bs) opening

-- its line
abbrev pub first_line : Result Codes RecordFault → List ℕ
first_line (Ok c) = open_line 1 c
first_line (Err e) = refusal_line 1 (Record e)

-- the run goes on behind the first record, with its codes
pub record Opened (run : FreshRun) (o : OpenedRun) : Type 0 where
  pub codes : first run.tape.now ≡ Ok o.codes
  pub lent : o.window.tape ≡ run.tape
  pub at : o.window.at ≡ bytes_of (front run.tape.now)
  pub within : o.window.at ≤ length o.window.tape.now
  pub number : o.window.number ≡ 1
  pub in_tape : length run.tape.now ≤ 65536 → InTape o.window

-- the first record is refused
pub record NotOpened (run : FreshRun) (e : EndedRun) : Type 0 where
  pub refused : is_err (first run.tape.now) ≡ true
  pub records : e.records ≡ 1

-- where opening leads the run
abbrev pub OpensTo : FreshRun → AfterRecord → Type 0
OpensTo run (Running o) = Opened run o
OpensTo run (Ended e) = NotOpened run e

-- the first record's line stands in the buffer, and bytes behind it stay
pub record OpeningLine (run : FreshRun) (before after : List ℕ) (n : ℕ) : Type 0 where
  pub room : room_for (length before) ≡ Ok tt
  pub line : Wrote before after n (first_line (first run.tape.now))

-- both, with what the buffer holds before and after; or there is no room for the line
abbrev pub Opens : FreshRun → List ℕ → List ℕ → Result (AfterRecord × ℕ) (NoRoom FreshRun) → Type 0
Opens run before after (Ok r) = OpensTo run r.0 × OpeningLine run before after r.1
Opens run before after (Err e) = Untouched run e before after

-- ---- taking a record, with a bank of the format f whose places hold ps before and qs after
-- the number of the next record
abbrev pub next_number : OpenedRun → ℕ
next_number run = number_behind run.window.number

-- the next record, or the refusal of a missing part
abbrev pub next_record : OpenedRun → Result Framed RecordFault
next_record run = front (left run.window)

-- the run goes on behind the record
pub record GoesOn (f : Format) (run : OpenedRun) (ps : List Slot) (next : OpenedRun) : Type 0 where
  pub goes : ends_of f ps (next_record run) ≡ false
  pub behind : IsBehind run.window next.window
  pub codes : next.codes ≡ run.codes

-- the run ends with the record
pub record Ends (f : Format) (run : OpenedRun) (ps : List Slot) (e : EndedRun) : Type 0 where
  pub ends : ends_of f ps (next_record run) ≡ true
  pub records : e.records ≡ next_number run

-- where taking a record leads the run
abbrev pub LeadsTo : Format → OpenedRun → List Slot → AfterRecord → Type 0
LeadsTo f run ps (Running next) = GoesOn f run ps next
LeadsTo f run ps (Ended e) = Ends f run ps e

-- the record's line stands in the buffer, bytes behind it stay, and the places are those after the record
pub record Taken (f : Format) (run : OpenedRun) (ps qs : List Slot) (before after : List ℕ) (n : ℕ) : Type 0 where
  pub room : room_for (length before) ≡ Ok tt
  pub line : Wrote before after n (line_of f ps (next_number run) (next_record run))
  pub places : qs ≡ places_of f ps (next_record run)

-- both, with the places and what the buffer holds before and after; or there is no room for the line
abbrev pub Takes : Format → OpenedRun → List Slot → List Slot → List ℕ → List ℕ → Result (AfterRecord × ℕ) (NoRoom OpenedRun) → Type 0
Takes f run ps qs before after (Ok r) = LeadsTo f run ps r.0 × Taken f run ps qs before after r.1
Takes f run ps qs before after (Err e) = Untouched run e before after × (qs ≡ ps)
