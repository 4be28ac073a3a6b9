use Rattle.std.proofs.Common.{rules}
use Rattle.bank.proofs.Slots.{slots_get}
use Rattle.bank.proofs.store.Bank.at.Goals as goal

pub returns : goal.returns
returns g c = slots_get c.args.self.now.places c.args.place c.index-self-place.result (search rules)
