use Rattle.std.proofs.lemmas.Result.{err_from_is_err_and}
use Rattle.bank.specs.Views.{holds}
use Rattle.tape.proofs.Adding.{added_all, wanting, adds_then}
use Rattle.tape.proofs.Turning.{others, run_last, run_more}
use Rattle.tape.proofs.print.print_records.Goals as goal

pub loop-next-preserved : goal.loop-next-preserved
loop-next-preserved g c =
    let f = g.F.NamedFormat.format in
    let run = c.loop-next.run in
    let ps = holds c.loop-next.bank in
    let (adds, inside) = c.loop-next.invariant in
    let one = c.in_ok-next.ensures.adds in
    let goes_on = rw c.in-Running.is at c.in_ok-next.ensures.leads in (
      λ end r k. adds end r (rw (run_more f run ps c.in-Running.next goes_on inside) (adds_then r one (rw c.print_record.ensures.places at k))),
      goes_on.behind.stays_in_tape inside,
    )

pub returns : goal.returns
returns g c =
    let ends = rw c.in_default.is at c.in_ok-next.ensures.leads in
    c.loop-next.invariant.0 _ _ (rw (run_last g.F.NamedFormat.format c.loop-next.run (holds c.loop-next.bank) ends.ends) (added_all tt c.in_ok-next.ensures.adds))

pub returns-in_err-next : goal.returns-in_err-next
returns-in_err-next g c =
    let p = err_from_is_err_and c.from_residual.result c.from_residual.ensures.1 in
    rw p.1 (c.loop-next.invariant.0 _ _ (wanting (others g.F.NamedFormat.format c.loop-next.run (holds c.loop-next.bank)) c.in_err-next.ensures.adds))
