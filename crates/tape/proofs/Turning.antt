-- One turn of the loop that prints: what is printed and what is still to come make the same whole.
use Rattle.std.proofs.Common.{◌≡◌, ℕ, zero, suc, ◌+◌, ◌<◌, true, false, cond, List, [], ◌++◌, length, drop, is_ok, sym, refl, ap, ◌∙◌, ap₂, append-nil, arith}
use Rattle.std.proofs.lemmas.List.{drop-drop}
use Rattle.arith.specs.declared.format.Format.{Format}
use Rattle.bank.specs.Slots.{Slot}
use Rattle.records.specs.Frames.{front}
use Rattle.run.specs.States.{left, InTape, IsBehind, next_number, next_record, GoesOn}
use Rattle.run.specs.Turns.{line_of, places_of, ends_of, bytes_of}
use Rattle.run.specs.declared.states.OpenedRun.{OpenedRun}
use Rattle.run.specs.declared.states.Window.{Window}
use Rattle.tape.specs.Printed.{lines_of, lines_from}
use Rattle.tape.specs.Reading.{Read}
use Rattle.tape.proofs.Fronts.{whole_shorter}

-- a record that does not end the run is whole
whole_if_goes : (f : Format) (ps : List Slot) (r : Read) → ends_of f ps r ≡ false → is_ok r ≡ true
whole_if_goes f ps r e = grind arith

rest_shorter : (f : Format) (ps : List Slot) (bs : List ℕ) → ends_of f ps (front bs) ≡ false → length (drop (bytes_of (front bs)) bs) < length bs
rest_shorter f ps bs e = whole_shorter bs (front bs) refl (whole_if_goes f ps (front bs) e)

-- ---- so any number of turns above the number of bytes is enough
enough : (i j : ℕ) (f : Format) (ps : List Slot) (n : ℕ) (bs : List ℕ) → length bs < i → length bs < j → lines_of i f ps n bs ≡ lines_of j f ps n bs
enough zero j f ps n bs h k = absurd (omega arith)
enough (suc i) zero f ps n bs h k = absurd (omega arith)
enough (suc i) (suc j) f ps n bs h k =
    grind (arith, rest_shorter f ps bs, enough i j f (places_of f ps (front bs)) (n + 1) (drop (bytes_of (front bs)) bs))

pub lines_enough : (i : ℕ) (f : Format) (ps : List Slot) (n : ℕ) (bs : List ℕ) → length bs < i → lines_from f ps n bs ≡ lines_of i f ps n bs
lines_enough i f ps n bs h = enough (suc (length bs)) i f ps n bs (omega arith) h

-- ---- the lines from a record on: its own and the others, or its own alone
lines_more : (f : Format) (ps : List Slot) (n : ℕ) (bs : List ℕ) → ends_of f ps (front bs) ≡ false → lines_from f ps n bs ≡ line_of f ps n (front bs) ++ lines_from f (places_of f ps (front bs)) (n + 1) (drop (bytes_of (front bs)) bs)
lines_more f ps n bs goes =
    grind (arith, rest_shorter f ps bs, lines_enough (length bs) f (places_of f ps (front bs)) (n + 1) (drop (bytes_of (front bs)) bs))

lines_last : (f : Format) (ps : List Slot) (n : ℕ) (bs : List ℕ) → ends_of f ps (front bs) ≡ true → lines_from f ps n bs ≡ line_of f ps n (front bs)
lines_last f ps n bs ends = grind (arith, append-nil)

-- ---- of a run: what it sees behind its next record
pub left_behind : (w behind : Window) → IsBehind w behind → left behind ≡ drop (bytes_of (front (left w))) (left w)
left_behind w behind p = grind (arith, drop-drop, p.at, p.lent)

module _ (f : Format) (run : OpenedRun) (ps : List Slot) where
  -- the lines behind that of the next record
  abbrev pub others : List ℕ
  others = cond (ends_of f ps (next_record run)) [] (lines_of (length (left run.window)) f (places_of f ps (next_record run)) (next_number run + 1) (drop (bytes_of (next_record run)) (left run.window)))

  pub run_last : ends_of f ps (next_record run) ≡ true → lines_from f ps (next_number run) (left run.window) ≡ line_of f ps (next_number run) (next_record run)
  run_last ends = lines_last f ps (next_number run) (left run.window) ends

  -- a run that goes on, whose number does not come to its limit
  module _ (next : OpenedRun) (goes_on : GoesOn f run ps next) (inside : InTape run.window) where
    counts_on : next_number next ≡ next_number run + 1
    counts_on =
        let in_tape = goes_on.behind.stays_in_tape inside in
        omega (arith, goes_on.behind.number, in_tape.counted, in_tape.within, in_tape.short)

    pub run_more : lines_from f ps (next_number run) (left run.window) ≡ line_of f ps (next_number run) (next_record run) ++ lines_from f (places_of f ps (next_record run)) (next_number next) (left next.window)
    run_more =
        lines_more f ps (next_number run) (left run.window) goes_on.goes
        ∙ ap (λ l. line_of f ps (next_number run) (next_record run) ++ l) (ap₂ (lines_from f (places_of f ps (next_record run))) (sym counts_on) (sym (left_behind run.window next.window goes_on.behind)))
