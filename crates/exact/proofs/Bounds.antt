-- What holds of every rounding to nearest of an exact value: how far off it is, what it keeps, and what its error is.
use Rattle.std.proofs.Common.{◌≡◌, ℕ, ◌+◌, ◌*◌, ◌^◌, ◌<◌, ◌≤◌, ℤ, pos, ◌+ℤ◌, ◌-ℤ◌, ◌*ℤ◌, nat_abs, sym, ap, ◌∙◌, subst, arith}
use borrow.Author.Differences.{ints, up, down}
use Rattle.exact.proofs.Order.{◌≼◌}
use Rattle.exact.proofs.Scale.{at, le_at, at_le, at_same, at_plus, at_minus, at_times, at_whole, at_size, on, at_on, same_trans}
use Rattle.exact.proofs.Scaled.{low_is, at_scaled}
use Rattle.exact.proofs.Precision.{WholePrecision, on_precise, precise_at, neg_precise}
use Rattle.exact.proofs.Nearness.{NearestWhole, kept, reaches, stays, refined}
use Rattle.exact.proofs.Errors.{no_error, product_error, sum_error}
use Rattle.exact.proofs.Roundings.{nearest_at}
use Rattle.exact.specs.Exact.{Exact, HasPrecision, ◌≈◌, ◌⊑◌, ◌⊞◌, ◌⊟◌, ◌⊠◌, size, negated, whole, scaled}
use Rattle.exact.specs.Rounding.{NoneNearer, WithinRoundoff}

-- precision depends on the value alone
precise_like : (p S : ℕ) (x : Exact) → x.low ≤ S → WholePrecision p (at S x) → HasPrecision p x
precise_like p S x h w = let (m, e, lt, s) = on_precise p S w in (m, e, lt, same_trans x (on S (at S x)) _ (at_same S x (on S (at S x)) h (omega arith) (sym (at_on S (at S x)))) s)

module _ (p : ℕ) (t x : Exact) (hx : HasPrecision p x) (n : NoneNearer p t x) where
  -- t and x on one scale
  abbrev S : ℕ
  S = t.low + x.low

  on_scale : NearestWhole p (at S t) (at S x)
  on_scale = nearest_at p t x hx n S (omega arith) (omega arith)

  -- a number of precision p is answered as itself
  pub exact_kept : HasPrecision p t → x ≈ t
  exact_kept h = at_same S x t (omega arith) (omega arith) (kept p (precise_at p S t (omega arith) h) on_scale)

  -- the refined bound
  pub within_roundoff : 0 < p → WithinRoundoff p t x
  within_roundoff hp =
      at_le S (whole (pos (2 ^ p + 1)) ⊠ size (x ⊟ t)) (size t) (omega arith) (omega arith)
      (rw (at_whole S (pos (2 ^ p + 1)) (size (x ⊟ t)), at_size S (x ⊟ t), at_size S t, at_minus S x t (omega arith) (omega arith) (omega arith)) (omega (arith, ints, refined p hp on_scale)))

  -- what is at least, or at most, of the size of a number of precision p stays so
  module _ (hp : 0 < p) (c : ℕ) (few : c ≤ 2 ^ p) (e : ℤ) where
    bound_at : at (t.low + x.low + down e) (scaled (pos c) e) ≡ pos (c * 2 ^ (up e + (t.low + x.low)))
    bound_at = at_scaled (t.low + x.low + down e) (pos c) e (up e + (t.low + x.low)) (place e (t.low + x.low))
      where
        place : (e : ℤ) (k : ℕ) → e +ℤ pos (k + down e) ≡ pos (up e + k)
        place e k = omega (arith, ints)

    finer : NearestWhole p (at (t.low + x.low + down e) t) (at (t.low + x.low + down e) x)
    finer = nearest_at p t x hx n (t.low + x.low + down e) (omega arith) (omega arith)

    low : (scaled (pos c) e).low ≤ t.low + x.low + down e
    low = rw (low_is (pos c) e) (omega arith)

    pub size_reaches : scaled (pos c) e ⊑ size t → scaled (pos c) e ⊑ size x
    size_reaches h =
        let S = t.low + x.low + down e in
        let l : pos (c * 2 ^ (up e + (t.low + x.low))) ≼ pos (nat_abs (at S t)) = rw (← bound_at, ← at_size S t) (le_at S (scaled (pos c) e) (size t) low (omega arith) h) in
        at_le S (scaled (pos c) e) (size x) low (omega arith) (rw (bound_at, at_size S x) (omega (arith, ints, reaches p (up e + (t.low + x.low)) c hp finer few (omega (arith, ints, l)))))

    pub size_stays : size t ⊑ scaled (pos c) e → size x ⊑ scaled (pos c) e
    size_stays h =
        let S = t.low + x.low + down e in
        let l : pos (nat_abs (at S t)) ≼ pos (c * 2 ^ (up e + (t.low + x.low))) = rw (← bound_at, ← at_size S t) (le_at S (size t) (scaled (pos c) e) (omega arith) low h) in
        at_le S (size x) (scaled (pos c) e) (omega arith) low (rw (bound_at, at_size S x) (omega (arith, ints, stays p (up e + (t.low + x.low)) c hp finer few (omega (arith, ints, l)))))

pub negated_precise : (p : ℕ) (x : Exact) → HasPrecision p x → HasPrecision p (negated x)
negated_precise p x h = on_precise p x.low (neg_precise p (subst (WholePrecision p) (at_on x.low x.num) (precise_at p x.low x (omega arith) h)))

-- ---- errors
pub kept_error_precise : (p : ℕ) (t r : Exact) → HasPrecision p t → HasPrecision p r → NoneNearer p t r → HasPrecision p (r ⊟ t)
kept_error_precise p t r ht hr n =
    let S = t.low + r.low in
    let w = no_error p (precise_at p S t (omega arith) ht) (nearest_at p t r hr n S (omega arith) (omega arith)) in
    precise_like p S (r ⊟ t) (omega arith) (subst (WholePrecision p) (sym (at_minus S r t (omega arith) (omega arith) (omega arith))) w)

module _ (p : ℕ) (x y r : Exact) (hx : HasPrecision p x) (hy : HasPrecision p y) (hr : HasPrecision p r) where
  pub product_error_precise : NoneNearer p (x ⊠ y) r → HasPrecision p (r ⊟ x ⊠ y)
  product_error_precise n =
      let S = x.low + r.low in
      let e : at (S + y.low) (x ⊠ y) ≡ at S x *ℤ at y.low y = at_times S y.low x y (omega arith) (omega arith) in
      let w = product_error p (precise_at p S x (omega arith) hx) (precise_at p y.low y (omega arith) hy) (subst (λ (z : ℤ). NearestWhole p z (at (S + y.low) r)) e (nearest_at p (x ⊠ y) r hr n (S + y.low) (omega arith) (omega arith))) in
      precise_like p (S + y.low) (r ⊟ x ⊠ y) (omega arith) (subst (WholePrecision p) (sym (at_minus (S + y.low) r (x ⊠ y) (omega arith) (omega arith) (omega arith) ∙ ap (λ (z : ℤ). at (S + y.low) r -ℤ z) e)) w)

module _ (p : ℕ) (hp : 0 < p) (x y r : Exact) (hx : HasPrecision p x) (hy : HasPrecision p y) (hr : HasPrecision p r) where
  abbrev all : ℕ
  all = x.low + y.low + r.low

  pub sum_error_precise : NoneNearer p (x ⊞ y) r → HasPrecision p (r ⊟ (x ⊞ y))
  sum_error_precise n =
      let e : at all (x ⊞ y) ≡ at all x +ℤ at all y = at_plus all x y (omega arith) (omega arith) (omega arith) in
      let w = sum_error p hp (precise_at p all x (omega arith) hx) (precise_at p all y (omega arith) hy) (subst (λ (z : ℤ). NearestWhole p z (at all r)) e (nearest_at p (x ⊞ y) r hr n all (omega arith) (omega arith))) in
      precise_like p all (r ⊟ (x ⊞ y)) (omega arith) (subst (WholePrecision p) (sym (at_minus all r (x ⊞ y) (omega arith) (omega arith) (omega arith) ∙ ap (λ (z : ℤ). at all r -ℤ z) e)) w)
