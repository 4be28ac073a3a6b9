use Rattle.std.proofs.Common.{ℕ, List, OnOk, refl}
use Rattle.run.specs.States.{first}
use Rattle.tape.specs.Added.{added}
use Rattle.tape.specs.Printed.{printed}
use Rattle.tape.specs.Reading.{OneLineEach, NothingBehind, ShowsLastLoad}
use Rattle.tape.proofs.Adding.{of_added}
use Rattle.tape.proofs.Behind.{nothing_behind}
use Rattle.tape.proofs.Ends.{read_out}
use Rattle.tape.proofs.ShowLines.{shows_last_load}
use Rattle.tape.proofs.Told.{one_line_each}
use Rattle.tape.proofs.print.print_tape.Goals as goal

pub returns : goal.returns
returns c =
    let t = c.args.tape.now in
    let law : (P : List ℕ → Type 0) → P (printed t) → OnOk c.print_all.result (P (added c.args.out.now c.print_all.new.out))
    = λ P. of_added P c.print_all.result c.print_all.ensures in
    record {
      defined = c.print_all.ensures;
      one_line_each = law (OneLineEach t) (one_line_each t);
      read_out = read_out t (first t) refl;
      nothing_behind = law (NothingBehind t) (nothing_behind t);
      shows_last_load = law (ShowsLastLoad t) (shows_last_load t);
    }
