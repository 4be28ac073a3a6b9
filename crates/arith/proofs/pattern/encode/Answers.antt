-- A pattern fits in 32 bits.
use Rattle.std.proofs.Common.{◌*◌, ◌<◌, ◌^◌, ◌≤◌, sym, subst, arith}
use Rattle.arith.specs.Format.{Sound}
use Rattle.arith.specs.declared.format.Format.{Format}
use Rattle.arith.proofs.Formats.{field_fits, sign_fits, sign_placed, all_fit, sign_place}
use Rattle.arith.proofs.pattern.encode.Goals.{then-number, else-number}
use Rattle.arith.proofs.pattern.encode.Goals as goal

pub overflow_mul-result : goal.overflow_mul-result
overflow_mul-result g c =
    let f = c.format-format.result in
    let s = sym c.format-format.ensures in
    let sound = subst Sound s g.met.F.NamedFormat.usable.sound in
    field_fits f sound c.biased.result c.args.number.significand (subst (λ (k : Format). c.biased.result ≤ 2 * k.emax) s c.biased.ensures.bound) (subst (λ (k : Format). c.args.number.significand < 2 ^ k.precision) s c.args.number.short)

pub overflow_add-result : goal.overflow_add-result
overflow_add-result g c =
    let f = c.format-format.result in
    let s = sym c.format-format.ensures in
    let sound = subst Sound s g.met.F.NamedFormat.usable.sound in
    let placed : c.if-number.sign ≤ sign_place f = elim c.if-number.branch [ then-number w ↦ sign_placed f sound c.if-number.sign w.sign-is | else-number w ↦ omega (arith, w.sign-is) ] in
    sign_fits f sound c.biased.result c.args.number.significand (subst (λ (k : Format). c.biased.result ≤ 2 * k.emax) s c.biased.ensures.bound) (subst (λ (k : Format). c.args.number.significand < 2 ^ k.precision) s c.args.number.short)
    c.if-number.sign placed

pub overflow_add-result-2 : goal.overflow_add-result-2
overflow_add-result-2 g c =
    let f = c.format-format.result in
    let s = sym c.format-format.ensures in
    let sound = subst Sound s g.met.F.NamedFormat.usable.sound in
    let placed : c.if-number.sign ≤ sign_place f = elim c.if-number.branch [ then-number w ↦ sign_placed f sound c.if-number.sign w.sign-is | else-number w ↦ omega (arith, w.sign-is) ] in
    all_fit f sound c.biased.result c.args.number.significand (subst (λ (k : Format). c.biased.result ≤ 2 * k.emax) s c.biased.ensures.bound) (subst (λ (k : Format). c.args.number.significand < 2 ^ k.precision) s c.args.number.short)
    c.if-number.sign placed
