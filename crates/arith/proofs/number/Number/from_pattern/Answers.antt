-- What is answered is the number of an accepted pattern.
use Rattle.std.proofs.Common.{◌≡◌, ℕ, IfOk, Ok, Err, Result, sym}
use Rattle.exact.specs.Parts.{Parts}
use Rattle.arith.specs.declared.format.NamedFormat.{Ghosts}
use Rattle.arith.specs.declared.number.Number.{Number}
use Rattle.arith.specs.declared.pattern.PatternFault.{PatternFault}
use Rattle.arith.specs.Number.{parts_of, parts_by}
use Rattle.arith.specs.Pattern.{decoded}
use Rattle.arith.proofs.Accepted.{Accepted, accepted}
use Rattle.arith.proofs.Values.{ieee_value_lem}
use Rattle.arith.proofs.Patterns.{shown, told_apart}
use Rattle.arith.proofs.number.Number.from_pattern.Goals as goal

-- what holds of the number of an accepted pattern holds of the one that is answered
answered : {F : Type 0} (g : Ghosts F) (n : ℕ) (r : Result (Number F g) PatternFault) (P : Parts → Type 0) → parts_by r ≡ decoded g.format n → ((x : Parts) → Accepted g.format n x → P x) → IfOk r (λ x. P (parts_of x))
answered g n (Ok x) P e h = h (parts_of x) (accepted g.format n (parts_of x) (sym e))
answered g n (Err d) P e h = tt

pub returns-clause-ieee_value : goal.returns-clause-ieee_value
returns-clause-ieee_value g c =
    let f = g.F.NamedFormat.format in
    answered g.F.NamedFormat c.args.pattern c.decode.result _ c.decode.ensures (λ x. ieee_value_lem f c.args.pattern x g.met.F.NamedFormat.usable.sound.some_digit)

pub returns-clause-shown_again : goal.returns-clause-shown_again
returns-clause-shown_again g c = answered g.F.NamedFormat c.args.pattern c.decode.result _ c.decode.ensures (shown g.F.NamedFormat.format g.met.F.NamedFormat.usable.sound c.args.pattern)

pub returns-clause-told_apart : goal.returns-clause-told_apart
returns-clause-told_apart g c = answered g.F.NamedFormat c.args.pattern c.decode.result _ c.decode.ensures (told_apart g.F.NamedFormat.format g.met.F.NamedFormat.usable.sound c.args.pattern)
