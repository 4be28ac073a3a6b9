-- Every choice midway makes a rounding to nearest.
use Rattle.std.proofs.Common.{◌≡◌, ℕ, zero, suc, ◌+◌, ◌-◌, ◌^◌, ◌<◌, ◌≤◌, ℤ, pos, negsuc, ◌-ℤ◌, ◌*ℤ◌, nat_abs, sym, refl, ap, ◌∙◌, ap₂, le_trans, arith, pow_pos}
use borrow.Author.Differences.{ints}
use Rattle.exact.proofs.Signs.{dist, abs_mul, abs_signed, negative_mul, signed_mul, signed_dist}
use Rattle.exact.proofs.Scale.{at, same_at, at_same, nearer_at, at_nearer, same_trans}
use Rattle.exact.proofs.Precision.{WholePrecision, on_precise, precise_at}
use Rattle.exact.proofs.Chosen.{NaturalPrecision, chosen_near, chosen_prec}
use Rattle.exact.proofs.OneChoice.{round_chosen, round_finer}
use Rattle.exact.proofs.OneForm.{one_form, has_form}
use Rattle.exact.specs.Exact.{Exact, HasPrecision, two^, ◌≈◌, ◌⊑◌, ◌⊟◌, size, scaled, signed_by, is_negative}
use Rattle.exact.specs.Parts.{value}
use Rattle.exact.specs.Rounding.{Rounding}
use Rattle.exact.specs.Ties.{Tie, round_whole, round_exact, nearest_by}

-- of two equal values one is as near as the other
near_like : (y z t x : Exact) → y ≈ z → size (z ⊟ t) ⊑ size (x ⊟ t) → size (y ⊟ t) ⊑ size (x ⊟ t)
near_like y z t x e h =
    let S = y.low + z.low + t.low + x.low in
    let n : nat_abs (at S z -ℤ at S t) ≤ nat_abs (at S x -ℤ at S t) = nearer_at S x z t (omega arith) (omega arith) (omega arith) h in
    let q : at S y ≡ at S z = same_at S y z (omega arith) (omega arith) e in
    at_nearer S x y t (omega arith) (omega arith) (omega arith) (rw q n)

module _ (tie : Tie) (p : ℕ) where
  -- ---- `round_exact` on one scale
  unfoldable round_integer : ℤ → ℤ
  round_integer z = signed_by (is_negative z) (round_whole tie (suc p) (nat_abs z))

  finer : (z : ℤ) (j : ℕ) → round_integer z *ℤ two^ j ≡ round_integer (z *ℤ two^ j)
  unfolding round_integer
  finer z j =
      sym (signed_mul (is_negative z) (round_whole tie (suc p) (nat_abs z)) (2 ^ j))
      ∙ ap₂ signed_by (sym (negative_mul z (2 ^ j) (pow_pos j))) (round_finer tie p (nat_abs z) j ∙ ap (round_whole tie (suc p)) (sym (abs_mul z (two^ j))))

  rounded_at : (S : ℕ) (t : Exact) → at S (round_exact tie (suc p) t) ≡ round_integer (at S t)
  unfolding at round_integer
  rounded_at S t = finer t.num (S - t.low)

  -- a value z · 2 ^ e: z is rounded, and the exponent stays
  pub rounded_scaled : (z e : ℤ) → round_exact tie (suc p) (scaled z e) ≈ scaled (signed_by (is_negative z) (round_whole tie (suc p) (nat_abs z))) e
  unfolding round_integer
  rounded_scaled z (pos e) = ap (λ n. n *ℤ two^ 0) (sym (finer z e))
  rounded_scaled z (negsuc e) = refl

  -- ---- it has precision p + 1, no number of that precision is nearer, and equal values give equal values
  precise : (t : Exact) → HasPrecision (suc p) (round_exact tie (suc p) t)
  precise t =
      let n = nat_abs t.num in
      let s = is_negative t.num in
      let (m, k, lt, e) = chosen_prec tie p n (round_whole tie (suc p) n) (round_chosen tie p n) in
      on_precise (suc p) t.low (signed_by s m, k, rw (abs_signed s m) lt, ap (signed_by s) e ∙ signed_mul s m (2 ^ k))

  as_natural : (n : ℤ) → WholePrecision (suc p) n → NaturalPrecision (suc p) (nat_abs n)
  as_natural n (m, k, lt, e) = (nat_abs m, k, lt, ap nat_abs e ∙ abs_mul m (two^ k))

  nearest : (t x : Exact) → HasPrecision (suc p) x → size (round_exact tie (suc p) t ⊟ t) ⊑ size (x ⊟ t)
  unfolding round_integer
  nearest t x h =
      let S = t.low + x.low in
      let w = at S t in
      let R = round_whole tie (suc p) (nat_abs w) in
      let n : dist R (nat_abs w) ≤ dist (nat_abs (at S x)) (nat_abs w) = chosen_near tie p (nat_abs w) R (round_chosen tie p (nat_abs w)) (nat_abs (at S x)) (as_natural (at S x) (precise_at (suc p) S x (omega arith) h)) in
      at_nearer S x (round_exact tie (suc p) t) t (omega arith) (omega arith) (omega arith) (rw (rounded_at S t, signed_dist w R) (le_trans n (apart (at S x) w)))
    where
      apart : (a b : ℤ) → dist (nat_abs a) (nat_abs b) ≤ nat_abs (a -ℤ b)
      apart a b = omega (arith, ints)

  by_value : (t s : Exact) → t ≈ s → round_exact tie (suc p) t ≈ round_exact tie (suc p) s
  by_value t s h =
      let S = t.low + s.low in
      at_same S (round_exact tie (suc p) t) (round_exact tie (suc p) s) (omega arith) (omega arith)
      (rounded_at S t ∙ ap round_integer (same_at S t s (omega arith) (omega arith) h) ∙ sym (rounded_at S s))

  -- ---- in the one form
  rounding : Rounding (suc p) (nearest_by tie (suc p))
  rounding = record {
    canonical = λ t. (has_form (suc p) (round_exact tie (suc p) t) (precise t)).canonical;
    nearest = λ t x h. near_like (value (suc p) (nearest_by tie (suc p) t)) (round_exact tie (suc p) t) t x (has_form (suc p) (round_exact tie (suc p) t) (precise t)).same (nearest t x h);
    by_value = λ t s e.
        let f = has_form (suc p) (round_exact tie (suc p) s) (precise s) in
        one_form (suc p) (round_exact tie (suc p) t) (nearest_by tie (suc p) s) (record {
          canonical = f.canonical;
          same = same_trans (value (suc p) (nearest_by tie (suc p) s)) (round_exact tie (suc p) s) (round_exact tie (suc p) t) f.same (sym (by_value t s e));
        });
  }

pub every_tie_rounds : (tie : Tie) (p : ℕ) → 0 < p → Rounding p (nearest_by tie p)
every_tie_rounds tie zero h = absurd (omega arith)
every_tie_rounds tie (suc p) h = rounding tie p
