use Rattle.std.proofs.Common.{◌≡◌, ℕ, ◌<◌, ◌≤◌, ℤ, pos, negsuc, ◌+ℤ◌, ◌-ℤ◌, ◌≤ℤ◌, sym, ap, ◌∙◌, arith, w32, to_z, of_z}
use borrow.Author.Differences.{ints}
use Rattle.exact.specs.Exact.{is_negative}
use Rattle.rounding.proofs.Wholes.{size_is, size_short}
use Rattle.rounding.proofs.ByCases.{at_zero, by_size, few_fits, at_few, many_few, many_short, at_many}
use Rattle.rounding.proofs.nearest.to_nearest.Goals as goal

-- ---- small signed numbers are the same after they went to their bits and back
exponent_is : (r e : ℤ) (n : ℕ) → negsuc 399 ≤ℤ e → e ≤ℤ pos 400 → r ≡ to_z w32 (of_z w32 e) +ℤ pos n -ℤ pos 1 → r ≡ e +ℤ pos n -ℤ pos 1
exponent_is r e n lo hi q = omega (arith, ints)

itself : (s e : ℤ) (n : ℕ) → negsuc 399 ≤ℤ e → e ≤ℤ pos 400 → n ≤ 128 → s ≡ e +ℤ pos n -ℤ pos 1 → to_z w32 (of_z w32 s) ≡ s
itself s e n lo hi few q = omega (arith, ints)

some : (n : ℕ) → (n ≡ 0 → ⊥) → 0 < n
some n h = omega (arith, h)

pub returns-then-size-eq0 : goal.returns-then-size-eq0
returns-then-size-eq0 g c = at_zero g.T.TieBreak.upper c.args.p.bits c.args.t.whole c.args.t.exponent c.args.p.some (sym (size_is c.args.t.whole c.args.t.short c.unsigned_abs-size.result c.unsigned_abs-size.ensures.value) ∙ c.if-size-eq0.true)

pub overflow_cast-result-then-n-p : goal.overflow_cast-result-then-n-p
overflow_cast-result-then-n-p g c = record { fits = few_fits c.args.p.bits c.unsigned_abs-size.result c.digits-n.result c.args.p.some c.args.p.few (some c.unsigned_abs-size.result c.if-size-eq0.false) c.digits-n.ensures.defined c.if-n-p.true }

pub returns-then-n-p : goal.returns-then-n-p
returns-then-n-p g c =
    let t = c.args.t in
    let size = c.unsigned_abs-size.result in
    let n = c.digits-n.result in
    let s = c.first_exponent-e.result in
    let q = exponent_is s t.exponent n t.low t.high c.first_exponent-e.ensures in
    at_few c.args.p.bits size n c.args.p.some c.args.p.few (some size c.if-size-eq0.false) c.digits-n.ensures.defined c.if-n-p.true g.T.TieBreak.upper (is_negative t.whole) t.exponent _
    (itself s t.exponent n t.low t.high c.digits-n.ensures.few q ∙ q)
    ∙ by_size g.T.TieBreak.upper c.args.p.bits size t.whole t.exponent (size_is t.whole t.short size c.unsigned_abs-size.ensures.value)

pub cut-requires : goal.cut-requires
cut-requires g c =
    let size = c.unsigned_abs-size.result in
    let short = size_short c.args.t.whole c.args.t.short size c.unsigned_abs-size.ensures.value in
    let f = many_few c.args.p.bits size c.digits-n.result c.args.p.some c.args.p.few short c.digits-n.ensures.defined c.if-n-p.false in
    record { some = omega (arith, c.if-n-p.false); few = omega (arith, f); short = many_short c.args.p.bits size c.digits-n.result c.args.p.some c.args.p.few short c.digits-n.ensures.defined c.if-n-p.false }

pub returns : goal.returns
returns g c =
    let t = c.args.t in
    let size = c.unsigned_abs-size.result in
    let n = c.digits-n.result in
    let s = c.first_exponent-e.result in
    let q = exponent_is s t.exponent n t.low t.high c.first_exponent-e.ensures in
    let same = itself s t.exponent n t.low t.high c.digits-n.ensures.few q in
    at_many c.args.p.bits size n c.args.p.some c.args.p.few (size_short t.whole t.short size c.unsigned_abs-size.ensures.value) c.digits-n.ensures.defined c.if-n-p.false g.T.TieBreak.upper c.cut.result (some size c.if-size-eq0.false) c.cut.ensures
    (is_negative t.whole) t.exponent s q _ _
    (λ z. let (m, e) = c.carried.ensures.kept z in (m, e ∙ same))
    (λ z. let (m, e) = c.carried.ensures.halved z in (m, e ∙ ap (λ (z : ℤ). z +ℤ pos 1) same))
    ∙ by_size g.T.TieBreak.upper c.args.p.bits size t.whole t.exponent (size_is t.whole t.short size c.unsigned_abs-size.ensures.value)
