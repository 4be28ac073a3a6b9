-- Which records of a tape are read, and laws over whole tapes: what holds of the text that is printed for a tape.
use Rattle.std.specs.Prelude.{◌≡◌, ℕ, zero, suc, ◌+◌, ◌≤◌, Bool, true, cond, ◌&&◌, ◌⊎◌, List, [], ◌∷◌, ◌++◌, length, drop, sum_by, is_ok, Some, None, Ok, Err, decimal, Option, Result, ◌==◌, nat_le, nat_lt}
use Rattle.std.specs.List.{list_all}
use Rattle.std.specs.Result.{result_map_both}
use Rattle.arith.specs.Pattern.{plain_zero}
use Rattle.arith.specs.Sequence.{and_then}
use Rattle.arith.specs.declared.format.Format.{Format}
use Rattle.bank.specs.Calls.{loaded, patterns}
use Rattle.bank.specs.declared.fault.Fault.{Fault}
use Rattle.bank.specs.declared.fault.Fault.TheVariants.{NoSuchPlace, EmptyPlace}
use Rattle.bank.specs.declared.store.Shown.{Shown}
use Rattle.records.specs.Asked.{Asked, load, show, note, end, asked}
use Rattle.records.specs.Frames.{Framed, front}
use Rattle.records.specs.declared.codes.Codes.{Codes}
use Rattle.records.specs.declared.fault.RecordFault.{RecordFault}
use Rattle.records.specs.declared.fault.RecordFault.TheVariants.{MissingPart}
use Rattle.run.specs.Lines.{shown_at}
use Rattle.run.specs.States.{first}
use Rattle.run.specs.Turns.{line_by, bytes_of}
use Rattle.run.specs.declared.refusal.Refusal.TheVariants.{Bank}
use Rattle.tape.specs.Printed.{format_in, printed}

-- ---- which records are read

-- what stands at a place of the tape: a whole record, or one of which a part is missing
abbrev pub Read : Type 0
Read = Result Framed RecordFault

-- a record of which a part is missing is the last one, and so is an end without payload (kind 8)
abbrev pub is_last : Read → Bool
is_last (Ok r) = r.kind == 8 && length r.payload == 0
is_last (Err e) = true

-- the records at the front of some bytes up to the last one that is read, at most so many
abbrev pub records_of : ℕ → List ℕ → List Read
records_of zero bs = []
records_of (suc i) bs = front bs ∷ cond (is_last (front bs)) [] (records_of i (drop (bytes_of (front bs)) bs))

-- those behind the first record, if that opens the run
abbrev pub behind_first : List ℕ → Result Codes RecordFault → List Read
behind_first t (Ok c) = records_of (length t) (drop (bytes_of (front t)) t)
behind_first t (Err e) = []

-- all records of a tape that are read
abbrev pub read_of : List ℕ → List Read
read_of t = front t ∷ behind_first t (first t)

-- ---- one line for each record that is read, numbered from 1

-- bytes none of which ends a line
abbrev pub unbroken : List ℕ → Bool
unbroken bs = list_all (nat_le 32) bs

-- a line: its number, a space, its text, and the one byte that ends it
pub record Line (n : ℕ) (l : List ℕ) : Type 0 where
  pub body : List ℕ
  pub is : l ≡ decimal n ++ (32 ∷ (body ++ (10 ∷ [])))
  pub whole : unbroken body ≡ true

-- a text of so many lines, numbered from n on without a gap
abbrev pub Numbered : ℕ → ℕ → List ℕ → Type 0
Numbered zero n text = text ≡ []
Numbered (suc i) n text = (l : List ℕ) × (rest : List ℕ) × (text ≡ l ++ rest) × Line n l × Numbered i (n + 1) rest

abbrev pub OneLineEach : List ℕ → List ℕ → Type 0
OneLineEach t text = length t ≤ 65536 → Numbered (length (read_of t)) 1 text

-- ---- an opened run is read to its last record: the bound on their number cuts nothing off
abbrev pub Finished : List Read → Type 0
Finished [] = ⊥
Finished (r ∷ []) = is_last r ≡ true
Finished (r ∷ s ∷ rs) = Finished (s ∷ rs)

abbrev pub ReadOut : List ℕ → Result Codes RecordFault → Type 0
ReadOut t (Ok c) = Finished (behind_first t (Ok c))
ReadOut t (Err e) = Unit {0}

-- ---- nothing behind the last record is read

-- the bytes that are passed over
abbrev pub bytes_in : List Read → ℕ
bytes_in rs = sum_by bytes_of rs

-- no part of a record is missing
abbrev pub all_whole : List Read → Bool
all_whole rs = list_all is_ok rs

-- Of a tape a ++ x, where a is what was passed over, x may be exchanged for any other y: behind an accepted end and behind
-- a first record that is refused always, and in front of a missing part if a part is missing in y too.
abbrev pub NothingBehind : List ℕ → List ℕ → Type 0
NothingBehind t text =
    (a x y : List ℕ) → t ≡ a ++ x → length a ≡ bytes_in (read_of t)
    → length t ≤ 65536 → length (a ++ y) ≤ 65536
    → (all_whole (read_of t) ≡ true) ⊎ (front y ≡ Err MissingPart)
    → printed (a ++ y) ≡ text

-- ---- a show shows what was loaded last

-- two patterns as they stand on the tape
pub record PatternPair : Type 0 where
  pub re : ℕ
  pub im : ℕ

-- whether a record loads a place, and with what: a refused load does not
abbrev pub load_asked : Format → ℕ → Result Asked RecordFault → Option PatternPair
load_asked f d (Ok (load p m n)) = cond (p == d && is_ok (loaded f p m n)) (Some (record { re = m; im = n })) None
load_asked f d (Ok (show p)) = None
load_asked f d (Ok (note t)) = None
load_asked f d (Ok end) = None
load_asked f d (Err e) = None

-- the later of two, if there is any
abbrev pub later : Option PatternPair → Option PatternPair → Option PatternPair
later old (Some new) = Some new
later old None = old

-- the last accepted load of a place among some records, the earliest of them first; `sofar` is the one before them
abbrev pub last_load : Format → ℕ → Option PatternPair → List Read → Option PatternPair
last_load f d sofar [] = sofar
last_load f d sofar (r ∷ rs) = last_load f d (later sofar (load_asked f d (and_then r (asked f)))) rs

-- what a show then answers: the patterns that were loaded, without the sign of a zero, and the depth 0
abbrev pub loaded_shown : Format → Option PatternPair → Result Shown Fault
loaded_shown f (Some l) = Ok (patterns (plain_zero f l.re) (plain_zero f l.im) 0)
loaded_shown f None = Err EmptyPlace

abbrev pub shown_last : Format → ℕ → Option PatternPair → Result Shown Fault
shown_last f d l = cond (nat_lt 15 d) (Err NoSuchPlace) (loaded_shown f l)

-- Between the opening record and a show of the place d stand the records `before`, and behind it the records `after`.
-- Its line has its number and the patterns of the last accepted load of d among `before`, or the refusal, where there is none.
-- In front of it stand the lines of the opening record and of `before`, and behind it those of `after`.
abbrev pub ShowsLastLoad : List ℕ → List ℕ → Type 0
ShowsLastLoad t text =
    length t ≤ 65536 → (c : Codes) → first t ≡ Ok c
    → (before : List Read) (r : Read) (after : List Read) (d : ℕ)
    → behind_first t (Ok c) ≡ before ++ (r ∷ after) → and_then r (asked (format_in c)) ≡ Ok (show d)
    → (a : List ℕ) × (b : List ℕ)
    × (text ≡ a ++ (line_by (format_in c) (length before + 2) (result_map_both (shown_at d) Bank (shown_last (format_in c) d (last_load (format_in c) d None before))) ++ b))
    × Numbered (suc (length before)) 1 a
    × Numbered (length after) (length before + 2 + 1) b
