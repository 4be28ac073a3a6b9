-- What is printed is told of the records that are read, one after another.
use Rattle.std.proofs.Common.{◌≡◌, ℕ, zero, suc, ◌+◌, ◌≤◌, List, [], ◌∷◌, ◌++◌, length, drop, Ok, Err, Result, sym, refl, ap, ◌∙◌, append_assoc, arith}
use Rattle.std.proofs.lemmas.Bool.Decides.{nat_tests}
use Rattle.arith.specs.Format.{format_of}
use Rattle.arith.specs.Sequence.{and_then}
use Rattle.arith.specs.declared.format.Format.{Format}
use Rattle.bank.specs.Slots.{Slot, fresh}
use Rattle.records.specs.Asked.{opening}
use Rattle.records.specs.Frames.{front}
use Rattle.records.specs.declared.codes.Codes.{Codes}
use Rattle.records.specs.declared.fault.RecordFault.{RecordFault}
use Rattle.run.specs.States.{first, first_line}
use Rattle.run.specs.Turns.{line_of, places_of, bytes_of}
use Rattle.tape.specs.Printed.{lines_of, format_in, printed}
use Rattle.tape.specs.Reading.{Read, records_of, behind_first, read_of, Numbered}
use Rattle.tape.proofs.After.{places_after}
use Rattle.tape.proofs.Last.{ends_at_last}
use Rattle.tape.proofs.Numbering.{line_first, line_of_lem}

-- the lines of some records, numbered from n on, with a bank of the format f whose places hold ps
abbrev told : Format → List Slot → ℕ → List Read → List ℕ
told f ps n [] = []
told f ps n (r ∷ rs) = line_of f ps n r ++ told f (places_of f ps r) (n + 1) rs

lines_told : (i : ℕ) (f : Format) (ps : List Slot) (n : ℕ) (bs : List ℕ) → lines_of i f ps n bs ≡ told f ps n (records_of i bs)
lines_told zero f ps n bs = refl
lines_told (suc i) f ps n bs =
    let more = lines_told i f (places_of f ps (front bs)) (n + 1) (drop (bytes_of (front bs)) bs) in
    grind (arith, ends_at_last f ps (front bs))

numbered_told : (f : Format) (ps : List Slot) (n : ℕ) (rs : List Read) → Numbered (length rs) n (told f ps n rs)
numbered_told f ps n [] = refl
numbered_told f ps n (r ∷ rs) = (_, _, refl, line_of_lem f ps n r, numbered_told f (places_of f ps r) (n + 1) rs)

told_append : (f : Format) (ps : List Slot) (n : ℕ) (before rs : List Read)
    → told f ps n (before ++ rs) ≡ told f ps n before ++ told f (places_after f ps before) (length before + n) rs
told_append f ps n [] rs = grind arith
told_append f ps n (s ∷ before) rs = grind (arith, append_assoc, told_append f (places_of f ps s) (n + 1) before rs)

-- the format of a run: if its first record is refused, then none is read behind it, and any format will do
abbrev format_by : Result Codes RecordFault → Format
format_by (Ok c) = format_in c
format_by (Err e) = format_of 1

-- the lines of all records that are read
abbrev pub told_whole : List Read → List ℕ
told_whole [] = []
told_whole (r ∷ rs) = first_line (and_then r opening) ++ told (format_by (and_then r opening)) fresh 2 rs

pub printed_told : (t : List ℕ) → length t ≤ 65536 → printed t ≡ told_whole (read_of t)
printed_told t h = grind (arith, nat_tests, lines_told)

numbered_whole : (rs : List Read) → Numbered (length rs) 1 (told_whole rs)
numbered_whole [] = refl
numbered_whole (r ∷ rs) =
    (_, _, refl, line_first (and_then r opening), numbered_told (format_by (and_then r opening)) fresh 2 rs)

-- each record that is read has one line
pub one_line_each : (t : List ℕ) → length t ≤ 65536 → Numbered (length (read_of t)) 1 (printed t)
one_line_each t h = rw (printed_told t h) (numbered_whole (read_of t))

-- the line of a record behind the first stands between those of the records before and after it
pub line_among : (t : List ℕ) → length t ≤ 65536 → (c : Codes) → first t ≡ Ok c
    → (before : List Read) (r : Read) (after : List Read) → behind_first t (Ok c) ≡ before ++ (r ∷ after)
    → (a : List ℕ) × (b : List ℕ)
    × (printed t ≡ a ++ (line_of (format_in c) (places_after (format_in c) fresh before) (length before + 2) r ++ b))
    × Numbered (suc (length before)) 1 a × Numbered (length after) (length before + 2 + 1) b
line_among t h c opens before r after is =
    let f = format_in c in
    let line = first_line (Ok c) in (
      line ++ told f fresh 2 before,
      told f (places_of f (places_after f fresh before) r) (length before + 2 + 1) after,
      printed_told t h
          ∙ ap (λ x. first_line x ++ told (format_by x) fresh 2 (behind_first t x)) opens
          ∙ ap (λ rs. line ++ told f fresh 2 rs) is
          ∙ ap (λ l. line ++ l) (told_append f fresh 2 before (r ∷ after))
          ∙ sym (append_assoc line (told f fresh 2 before) _),
      (line, told f fresh 2 before, refl, line_first (Ok c), numbered_told f fresh 2 before),
      numbered_told f (places_of f (places_after f fresh before) r) (length before + 2 + 1) after,
    )
