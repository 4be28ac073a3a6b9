-- The rule that takes the larger value midway is a rounding to nearest: it is one of two that are, by the sign of the value.
use Rattle.std.specs.Prelude.{ℕ, ◌^◌, ◌<◌, ◌≡◌, Bool, true, false, cond}
use Rattle.std.proofs.Common.{sym, ap, ◌∙◌, pow_pos}
use Rattle.exact.specs.Exact.{Exact, ◌≈◌, is_negative}
use Rattle.exact.specs.Parts.{Parts, value, Canonical}
use Rattle.exact.specs.Rounding.{NoneNearer, Rounding}
use Rattle.exact.specs.Ties.{nearest_by, away_from_zero, toward_zero}
use Rattle.exact.proofs.Signs.{negative_mul}
use Rattle.exact.proofs.Rules.{every_tie_rounds}
use Rattle.buyer.specs.Rules.{upward}

-- equal values have one sign
same_sign : (t s : Exact) → t ≈ s → is_negative t.num ≡ is_negative s.num
same_sign t s e = sym (negative_mul t.num (2 ^ s.low) (pow_pos s.low)) ∙ ap is_negative e ∙ negative_mul s.num (2 ^ t.low) (pow_pos t.low)

either : (b : Bool) (P : Parts → Type 0) (x y : Parts) → P x → P y → P (cond b x y)
either true P x y h k = h
either false P x y h k = k

pub upward_rounds : (p : ℕ) → 0 < p → Rounding p (upward p)
upward_rounds p hp =
    let down = every_tie_rounds toward_zero p hp in
    let up = every_tie_rounds away_from_zero p hp in
    record {
      canonical = λ t. either (is_negative t.num) (Canonical p) (nearest_by toward_zero p t) (nearest_by away_from_zero p t) (down.canonical t) (up.canonical t);
      nearest = λ t. either (is_negative t.num) (λ (x : Parts). NoneNearer p t (value p x)) (nearest_by toward_zero p t) (nearest_by away_from_zero p t) (down.nearest t) (up.nearest t);
      by_value = λ t s e. (λ i. cond (same_sign t s e i) (down.by_value t s e i) (up.by_value t s e i));
    }
