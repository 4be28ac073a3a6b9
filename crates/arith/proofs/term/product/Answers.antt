use Rattle.std.proofs.Common.{ℤ, pos, negsuc, ◌+ℤ◌, ◌*ℤ◌, ◌≤ℤ◌, sym, ◌∙◌, subst, ap₂}
use Rattle.exact.specs.Exact.{scaled}
use Rattle.arith.proofs.Exponents.{sum_is, sum_low, sum_high, product_fits, product_is, product_short}
use Rattle.arith.proofs.term.product.Goals as goal

pub overflow_mul-result : goal.overflow_mul-result
overflow_mul-result g c = product_fits c.signed.result c.signed-2.result c.signed.ensures.short c.signed-2.ensures.short

pub invariant_of-result : goal.invariant_of-result
invariant_of-result g c =
    let a = c.last_exponent.result in
    let b = c.last_exponent-2.result in
    let i = c.last_exponent.ensures in
    let j = c.last_exponent-2.ensures in
    let e = sum_is a b i.low i.high j.low j.high in
    record {
      short = product_short c.signed.result c.signed-2.result c.signed.ensures.short c.signed-2.ensures.short;
      low = subst (λ (z : ℤ). negsuc 299 ≤ℤ z) (sym e) (sum_low a b i.low i.high j.low j.high);
      high = subst (λ (z : ℤ). z ≤ℤ pos 300) (sym e) (sum_high a b i.low i.high j.low j.high);
    }

pub returns : goal.returns
returns g c =
    let i = c.last_exponent.ensures in
    let j = c.last_exponent-2.ensures in
    ap₂ scaled (product_is c.signed.result c.signed-2.result c.signed.ensures.short c.signed-2.ensures.short ∙ ap₂ ◌*ℤ◌ c.signed.ensures.value c.signed-2.ensures.value)
    (sum_is c.last_exponent.result c.last_exponent-2.result i.low i.high j.low j.high ∙ ap₂ ◌+ℤ◌ i.value j.value)
