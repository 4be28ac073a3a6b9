use Rattle.std.proofs.Common.{◌<◌, Some, length, arith, rules}
use Rattle.bank.proofs.Slots.{slots_set, slots_length}
use Rattle.bank.proofs.store.Bank.put.Goals as goal

pub returns : goal.returns
returns g c =
    let inside : c.args.place < length c.args.self.now.places = search rules in
    record { places = slots_set c.args.self.now.places c.args.place (Some c.args.held); there = omega (arith, slots_length c.args.self.now.places) }
