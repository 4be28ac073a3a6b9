-- A number that is not zero is read back from its pattern.
use Rattle.std.proofs.Common.{◌≡◌, ◌<◌, Ok, sym, subst, arith}
use Rattle.arith.specs.Number.{parts_of}
use Rattle.arith.specs.Pattern.{decoded}
use Rattle.arith.proofs.ReadBack.{read_back}
use Rattle.arith.proofs.number.Number.pattern.Goals as goal

pub returns-clause-read_back : goal.returns-clause-read_back
returns-clause-read_back g c =
    let f = g.F.NamedFormat.format in
    let x = c.args.self in
    let some : 0 < x.significand = omega arith in
    subst (λ n. decoded f n ≡ Ok (parts_of x)) (sym c.encode.ensures) (read_back f g.met.F.NamedFormat.usable.sound (parts_of x) some x.short (x.full some) x.low x.high)
