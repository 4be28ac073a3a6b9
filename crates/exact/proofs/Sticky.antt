-- A part far below the last digits that matter is seen only by its sign: two values 2 b + δ with 0 < δ < 2, where b has more
-- digits than the precision, lie strictly between the same neighbours of one digit more, so every rounding answers the same.
use Rattle.std.proofs.Common.{◌≡◌, ℕ, zero, suc, ◌+◌, ◌-◌, ◌*◌, ◌/◌, ◌%◌, ◌^◌, ◌<◌, ◌≤◌, Bool, ◌⊎◌, ℤ, ◌*ℤ◌, sym, ap, ◌∙◌, subst, inl, inr, le_trans, le_of_eq, lt_of_lt_of_le, mul-le-mul_right, mod-lt, zero-lt-suc, mul-lt-mul_of_pos_right, mul-pos, pow-suc, div-add-mod', arith, pow_pos, pow_mono, pow-add}
use native.Mathlib.Decide.{dec_le}
use lib.Ieee.{size as digits}
use lib.Ieee.Digits.{size-lt}
use Rattle.exact.proofs.Signs.{signed_mul}
use Rattle.exact.proofs.Digits.{quotient_full}
use Rattle.exact.proofs.Scale.{at, at_same, at_more}
use Rattle.exact.proofs.Nearness.{NearestWhole}
use Rattle.exact.proofs.OneNearest.{NearerLower, NearerUpper, same_nearest}
use Rattle.exact.proofs.OneForm.{same_parts}
use Rattle.exact.proofs.Roundings.{rounding_at}
use Rattle.exact.specs.Exact.{Exact, two^, signed_by}
use Rattle.exact.specs.Parts.{Parts, value}
use Rattle.exact.specs.Rounding.{Rounding, RoundAlike}

-- ---- an even number 2 b with more digits than p + 1, and a part below it: which way is settled by 2 b
-- r₀ is the rest of 2 b at the spacing 4 V
even_rest : (b X r₀ : ℕ) → 2 * b ≡ 4 * X + r₀ → r₀ ≡ 2 * (r₀ / 2)
even_rest b X r₀ e = omega arith

rest_lower : (ρ V J δ : ℕ) → suc ρ ≤ V → δ < 2 * J → 2 * (2 * ρ * J + δ) < 4 * V * J
rest_lower ρ V J δ h l = omega (arith, mul-le-mul_right J h)

rest_upper : (ρ V J δ : ℕ) → V ≤ ρ → 0 < δ → 4 * V * J < 2 * (2 * ρ * J + δ)
rest_upper ρ V J δ h l = omega (arith, mul-le-mul_right J h)

rest_short : (ρ V J δ : ℕ) → suc ρ ≤ 2 * V → δ < 2 * J → 2 * ρ * J + δ < 4 * V * J
rest_short ρ V J δ h l = omega (arith, mul-le-mul_right J h)

four : (k : ℕ) → 2 ^ suc (suc k) ≡ 4 * 2 ^ k
four k = rw (pow-suc 2 (suc k), pow-suc 2 k) (omega arith)

module _ (p b : ℕ) (big : 2 ^ suc (suc p) ≤ 2 * b) where
  -- how many digits 2 b has beyond p + 3
  abbrev spare : ℕ
  spare = digits (2 * b) - (suc p + 2)

  enough : suc p + suc (suc spare) ≡ digits (2 * b)
  enough = go (dec_le (suc p + 2) (digits (2 * b)))
    where
      back : (n p : ℕ) → suc p + 2 ≤ n → suc p + suc (suc (n - (suc p + 2))) ≡ n
      back n p h = omega arith

      go : Dec (suc p + 2 ≤ digits (2 * b)) → suc p + suc (suc spare) ≡ digits (2 * b)
      go (yes h) = back (digits (2 * b)) p h
      go (no h) = let l : 2 ^ digits (2 * b) ≤ 2 ^ suc (suc p) = pow_mono (omega arith) in absurd (omega (arith, size-lt (2 * b)))

  abbrev W : ℕ
  W = 2 ^ suc (suc spare)

  abbrev V : ℕ
  V = 2 ^ spare

  abbrev Q : ℕ
  Q = 2 * b / W

  abbrev ρ : ℕ
  ρ = 2 * b % W / 2

  split : 2 * b ≡ Q * W + 2 * b % W
  split = sym (div-add-mod' (2 * b) W)

  rest_even : 2 * b % W ≡ 2 * ρ
  rest_even = even_rest b (Q * V) (2 * b % W) (split ∙ ap (λ (z : ℕ). Q * z + 2 * b % W) (four spare) ∙ swap Q V (2 * b % W))
    where
      swap : (a c d : ℕ) → a * (4 * c) + d ≡ 4 * (a * c) + d
      swap a c d = omega arith

  rest_below : suc ρ ≤ 2 * V
  rest_below = less ρ V (2 * b % W) W rest_even (mod-lt (2 * b) (pow_pos (suc (suc spare)))) (four spare)
    where
      less : (ρ V r W : ℕ) → r ≡ 2 * ρ → r < W → W ≡ 4 * V → suc ρ ≤ 2 * V
      less ρ V r W e l f = omega arith

  full : (2 ^ p ≤ Q) × (Q < 2 ^ suc p)
  full =
      let f = quotient_full (suc p) (2 * b) (suc (suc spare)) (sym enough) (zero-lt-suc p) in
      (omega (arith, f.1, pow-suc 2 p), f.0)

  -- the number taken, in units of W · 2 ^ j
  module _ (j : ℕ) where
    whole : (δ : ℕ) → 2 * b * 2 ^ j + δ ≡ Q * 2 ^ (suc (suc spare) + j) + (2 * ρ * 2 ^ j + δ)
    whole δ = ap (λ (z : ℕ). z * 2 ^ j + δ) (split ∙ ap (λ (z : ℕ). Q * W + z) rest_even) ∙ rw (pow-add 2 (suc (suc spare)) j) (move Q W ρ (2 ^ j) δ)
      where
        move : (a w r J d : ℕ) → (a * w + 2 * r) * J + d ≡ a * (w * J) + (2 * r * J + d)
        move a w r J d = omega arith

    wide : 2 ^ (suc (suc spare) + j) ≡ 4 * V * 2 ^ j
    wide = pow-add 2 (suc (suc spare)) j ∙ ap (λ (z : ℕ). z * 2 ^ j) (four spare)

    -- which way is settled by 2 b, whatever δ is
    settled : (n : Bool) {r r' : ℤ} (δ δ' : ℕ) → 0 < δ → δ < 2 * 2 ^ j → 0 < δ' → δ' < 2 * 2 ^ j → NearestWhole (suc p) (signed_by n (2 * b * 2 ^ j + δ)) r → NearestWhole (suc p) (signed_by n (2 * b * 2 ^ j + δ')) r' → r ≡ r'
    settled n {r} {r'} δ δ' a c a' c' near near' =
        same_nearest p Q (suc (suc spare) + j) (2 * ρ * 2 ^ j + δ) (2 * ρ * 2 ^ j + δ') full.0 full.1 (go (dec_le (suc ρ) V)) n
        (subst (λ (z : ℕ). NearestWhole (suc p) (signed_by n z) r) (whole δ) near) (subst (λ (z : ℕ). NearestWhole (suc p) (signed_by n z) r') (whole δ') near')
      where
        lower : (d : ℕ) → d < 2 * 2 ^ j → suc ρ ≤ V → NearerLower (suc (suc spare) + j) (2 * ρ * 2 ^ j + d)
        lower d l h = rw wide (rest_lower ρ V (2 ^ j) d h l)

        upper : (d : ℕ) → 0 < d → d < 2 * 2 ^ j → (suc ρ ≤ V → ⊥) → NearerUpper (suc (suc spare) + j) (2 * ρ * 2 ^ j + d)
        upper d k l h = rw wide (rest_short ρ V (2 ^ j) d rest_below l, rest_upper ρ V (2 ^ j) d (omega arith) k)

        go : Dec (suc ρ ≤ V) → (NearerLower (suc (suc spare) + j) (2 * ρ * 2 ^ j + δ) × NearerLower (suc (suc spare) + j) (2 * ρ * 2 ^ j + δ')) ⊎ (NearerUpper (suc (suc spare) + j) (2 * ρ * 2 ^ j + δ) × NearerUpper (suc (suc spare) + j) (2 * ρ * 2 ^ j + δ'))
        go (yes h) = inl (lower δ c h, lower δ' c' h)
        go (no h) = inr (upper δ a c h, upper δ' a' c' h)

-- ---- exact values: every rounding answers the same
module _ (p : ℕ) (rn : Exact → Parts) (R : Rounding (suc p) rn) (t s : Exact) (S : ℕ) (ht : t.low ≤ S) (hs : s.low ≤ S) (n : Bool) (b j δ δ' : ℕ) (big : 2 ^ suc (suc p) ≤ 2 * b)
    (et : at S t ≡ signed_by n (2 * b * 2 ^ j + δ)) (es : at S s ≡ signed_by n (2 * b * 2 ^ j + δ')) (a : 0 < δ) (c : δ < 2 * 2 ^ j) (a' : 0 < δ') (c' : δ' < 2 * 2 ^ j) where
  abbrev L : ℕ
  L = (value (suc p) (rn t)).low + (value (suc p) (rn s)).low

  finer : (x : Exact) (d : ℕ) → x.low ≤ S → at S x ≡ signed_by n (2 * b * 2 ^ j + d) → at (S + L) x ≡ signed_by n (2 * b * 2 ^ (j + L) + d * 2 ^ L)
  finer x d h e = at_more S L x h ∙ ap (λ (z : ℤ). z *ℤ two^ L) e ∙ sym (signed_mul n (2 * b * 2 ^ j + d) (2 ^ L)) ∙ ap (signed_by n) (rw (pow-add 2 j L) (move (2 * b) (2 ^ j) (2 ^ L) d))
    where
      move : (a u v d : ℕ) → (a * u + d) * v ≡ a * (u * v) + d * v
      move a u v d = omega arith

  finer_lt : (d : ℕ) → d < 2 * 2 ^ j → d * 2 ^ L < 2 * 2 ^ (j + L)
  finer_lt d h = lt_of_lt_of_le (mul-lt-mul_of_pos_right h (pow_pos L)) (rw (pow-add 2 j L) (le_of_eq (move (2 ^ j) (2 ^ L))))
    where
      move : (a d : ℕ) → 2 * a * d ≡ 2 * (a * d)
      move a d = omega arith

  near : (x : Exact) (d : ℕ) → x.low ≤ S → (value (suc p) (rn x)).low ≤ L → at S x ≡ signed_by n (2 * b * 2 ^ j + d) → NearestWhole (suc p) (signed_by n (2 * b * 2 ^ (j + L) + d * 2 ^ L)) (at (S + L) (value (suc p) (rn x)))
  near x d h l e = subst (λ (z : ℤ). NearestWhole (suc p) z (at (S + L) (value (suc p) (rn x)))) (finer x d h e) (rounding_at (suc p) rn R x (S + L) (omega arith) (omega arith))

  same_answer : rn t ≡ rn s
  same_answer =
      let e : at (S + L) (value (suc p) (rn t)) ≡ at (S + L) (value (suc p) (rn s)) =
      settled p b big (j + L) n (δ * 2 ^ L) (δ' * 2 ^ L) (mul-pos a (pow_pos L)) (finer_lt δ c) (mul-pos a' (pow_pos L)) (finer_lt δ' c')
      (near t δ ht (omega arith) et) (near s δ' hs (omega arith) es) in
      same_parts (suc p) (rn t) (rn s) (R.canonical t) (R.canonical s) (at_same (S + L) (value (suc p) (rn t)) (value (suc p) (rn s)) (omega arith) (omega arith) e)

pub sticky_alike : (most : ℕ) (t s : Exact) (S : ℕ) → t.low ≤ S → s.low ≤ S → (n : Bool) (b j δ δ' : ℕ) → 2 ^ suc most ≤ 2 * b → at S t ≡ signed_by n (2 * b * 2 ^ j + δ) → at S s ≡ signed_by n (2 * b * 2 ^ j + δ') → 0 < δ → δ < 2 * 2 ^ j → 0 < δ' → δ' < 2 * 2 ^ j → RoundAlike most t s
sticky_alike most t s S ht hs n b j δ δ' big et es a c a' c' = record { alike = at_precision }
  where
    at_precision : (p : ℕ) → 0 < p → p ≤ most → (rn : Exact → Parts) → Rounding p rn → rn t ≡ rn s
    at_precision zero hp le rn R = absurd (omega arith)
    at_precision (suc p) hp le rn R = same_answer p rn R t s S ht hs n b j δ δ' (le_trans (pow_mono (omega arith)) big) et es a c a' c'
