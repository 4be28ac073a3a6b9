use Rattle.bank.specs.Views.{holds}
use Rattle.bank.proofs.Loads.{shown_again}
use Rattle.bank.proofs.store.Bank.load.Goals as goal

pub returns-clause-shown_again : goal.returns-clause-shown_again
returns-clause-shown_again g c =
    let h = c.fill.ensures in
    shown_again g.F.NamedFormat.format g.met.F.NamedFormat.usable.sound (holds c.args.self.now) (holds c.fill.new.self) c.args.place c.args.re c.args.im c.fill.result h.answer h.places h.there
