use Rattle.std.proofs.lemmas.Result.{err_from_is_err_and}
use Rattle.run.specs.States.{first}
use Rattle.tape.specs.Printed.{lines_behind}
use Rattle.tape.proofs.Adding.{wanting, adds_then}
use Rattle.tape.proofs.Openings.{opened_lines}
use Rattle.tape.proofs.print.print_run.Goals as goal

pub returns-in-Running : goal.returns-in-Running
returns-in-Running c =
    let opened = rw c.in-Running.is at c.first_line-line.ensures.leads in
    rw (opened_lines c.args.run c.in-Running.run' opened) (adds_then c.print_opened.result (rw c.first_line-line.ensures.line at c.in_ok-add_line.ensures) c.print_opened.ensures)

pub returns-in_err-add_line : goal.returns-in_err-add_line
returns-in_err-add_line c =
    let p = err_from_is_err_and c.from_residual.result c.from_residual.ensures.1 in
    let t = c.args.run.tape.now in
    rw p.1 (wanting (lines_behind t (first t)) (rw c.first_line-line.ensures.line at c.in_err-add_line.ensures))
