use Rattle.std.proofs.Common.{ℕ, length, Result, Vec}
use Rattle.std.specs.declared.alloc.AllocError.{AllocError}
use Rattle.std.specs.declared.alloc.Global.{Global}
use Rattle.bank.specs.Slots.{fresh}
use Rattle.bank.specs.Views.{holds}
use Rattle.run.specs.States.{left, next_number, InTape}
use Rattle.tape.specs.Added.{Adds}
use Rattle.tape.specs.Printed.{lines_from}
use Rattle.tape.proofs.print.print_records.Given as goal

-- whatever comes of adding the lines that are left comes of adding all of them, and the run stays in the tape
abbrev pub invariant-loop-next : goal.invariant-loop-next
invariant-loop-next g l =
    ((end : Vec ℕ Global) (r : Result (Unit {0}) AllocError)
    → Adds l.out end (lines_from g.F.NamedFormat.format (holds l.bank) (next_number l.run) (left l.run.window)) r
    → Adds l.initial.out end (lines_from g.F.NamedFormat.format fresh (next_number l.initial.run) (left l.initial.run.window)) r)
    × InTape l.run.window

-- the bytes that are left
abbrev pub decreases-loop-next : goal.decreases-loop-next
decreases-loop-next g l = length (left l.run.window)
