-- What an opened run prints, by its tape: the line of its first record, and those behind it.
use Rattle.std.proofs.Common.{◌≡◌, ℕ, ◌<◌, List, ◌++◌, length, drop, refl, ap, ap₂, arith}
use Rattle.bank.specs.Slots.{fresh}
use Rattle.records.specs.Frames.{front}
use Rattle.run.specs.States.{left, first, first_line, Opened, next_number}
use Rattle.run.specs.Turns.{bytes_of}
use Rattle.run.specs.declared.states.FreshRun.{FreshRun}
use Rattle.run.specs.declared.states.OpenedRun.{OpenedRun}
use Rattle.tape.specs.Printed.{lines_from, format_in, run_lines}
use Rattle.tape.proofs.Fronts.{whole_shorter, whole_if_opening}
use Rattle.tape.proofs.Turning.{lines_enough}

module _ (run : FreshRun) (o : OpenedRun) (p : Opened run o) where
  abbrev tape : List ℕ
  tape = run.tape.now

  left_is : left o.window ≡ drop (bytes_of (front tape)) tape
  left_is = ap₂ drop p.at (ap (λ t. t.now) p.lent)

  shorter : length (drop (bytes_of (front tape)) tape) < length tape
  shorter = whole_shorter tape (front tape) refl (whole_if_opening (front tape) o.codes p.codes)

  -- the lines behind the first
  pub opened_lines : run_lines tape ≡ first_line (first tape) ++ lines_from (format_in o.codes) fresh (next_number o) (left o.window)
  opened_lines =
      grind (arith, lines_enough (length tape) (format_in o.codes) fresh 2 (drop (bytes_of (front tape)) tape), shorter, left_is, p.codes, p.number)
