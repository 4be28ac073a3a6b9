-- The sum of two terms m · 2 ^ e as far as any rounding to at most 24 digits can tell:
-- in place of a far smaller term stands one unit with its sign.
use Rattle.std.proofs.Common.{◌≡◌, ℕ, suc, ◌+◌, ◌-◌, ◌*◌, ◌^◌, ◌<◌, ◌≤◌, Bool, not, ◌⊎◌, ℤ, pos, ◌+ℤ◌, ◌-ℤ◌, sym, ap, ◌∙◌, ap₂, inl, inr, le_trans, le_of_eq, lt_of_lt_of_le, mul_comm, mul-lt-mul_of_pos_right, mul-pos, pow-suc, arith, pow_pos, pow_mono, pow-add}
use borrow.Author.Differences.{ints, up, down}
use Rattle.exact.proofs.Order.{◌≼◌}
use Rattle.exact.proofs.Signs.{signed_mul, signed_plus, signed_minus}
use Rattle.exact.proofs.Scale.{at}
use Rattle.exact.proofs.Scaled.{low_is, one_side, at_scaled, sum_at, sum_low}
use Rattle.exact.proofs.Sticky.{sticky_alike}
use Rattle.exact.specs.Exact.{Exact, ◌≈◌, ◌⊞◌, scaled, signed_by}
use Rattle.exact.specs.Rounding.{RoundAlike}

-- ---- alike whatever the rounding: equal values, and values that are alike to equal values
pub same_alike : (most : ℕ) (x y : Exact) → x ≈ y → RoundAlike most x y
same_alike most x y e = record { alike = λ p hp le rn R. R.by_value x y e }

pub alike_same : (most : ℕ) (r x y : Exact) → x ≈ y → RoundAlike most r x → RoundAlike most r y
alike_same most r x y e h = record { alike = λ p hp le rn R. h.alike p hp le rn R ∙ R.by_value x y e }

-- ---- a far smaller term
module _ (b : Bool) (X Y : ℕ) (ex ey : ℤ) (hx : 0 < X) (hy : 0 < Y) (short : Y < 2 ^ 48) (far : ey +ℤ pos 77 ≼ ex) where
  -- the places of the smaller term's and of the unit's digits
  abbrev j : ℕ
  j = up ex + down ey

  abbrev w : ℕ
  w = up ey + down ex + 30

  apart : 48 + w ≤ suc j
  apart = go ex ey far
    where
      go : (ex ey : ℤ) → ey +ℤ pos 77 ≼ ex → 48 + (up ey + down ex + 30) ≤ suc (up ex + down ey)
      go ex ey h = omega (arith, ints)

  small : Y * 2 ^ w < 2 * 2 ^ j
  small =
      let a : Y * 2 ^ w < 2 ^ 48 * 2 ^ w = mul-lt-mul_of_pos_right short (pow_pos w) in
      let c : 2 ^ (48 + w) ≤ 2 ^ suc j = pow_mono apart in
      lt_of_lt_of_le a (le_trans (le_of_eq (sym (pow-add 2 48 w))) (le_trans c (le_of_eq (pow-suc 2 j ∙ mul_comm (2 ^ j) 2))))

  some : 0 < Y * 2 ^ w
  some = mul-pos hy (pow_pos w)

  unit_place : (ex ey : ℤ) → ex -ℤ pos 30 +ℤ pos (down ex + down ey + 30) ≡ pos (up ex + down ey)
  unit_place ex ey = omega (arith, ints)

  unit_low : (n : ℤ) → (scaled n (ex -ℤ pos 30)).low ≤ down ex + down ey + 30
  unit_low n = rw (low_is n (ex -ℤ pos 30)) (go ex ey (one_side (ex -ℤ pos 30)))
    where
      go : (ex ey : ℤ) → (up (ex -ℤ pos 30) ≡ 0) ⊎ (down (ex -ℤ pos 30) ≡ 0) → down (ex -ℤ pos 30) ≤ down ex + down ey + 30
      go ex ey (inl h) = omega (arith, ints)
      go ex ey (inr h) = omega arith

  unit_at : (n : ℕ) → at (down ex + down ey + 30) (scaled (signed_by b n) (ex -ℤ pos 30)) ≡ signed_by b (n * 2 ^ j)
  unit_at n = at_scaled (down ex + down ey + 30) (signed_by b n) (ex -ℤ pos 30) j (unit_place ex ey) ∙ sym (signed_mul b n (2 ^ j))

  large : 2 ^ (up ex + down ey + 30) ≡ 2 ^ j * 2 ^ 30
  large = pow-add 2 j 30

  both_at : (c : Bool) → at (down ex + down ey + 30) (scaled (signed_by b X) ex ⊞ scaled (signed_by c Y) ey) ≡ signed_by b (X * (2 ^ j * 2 ^ 30)) +ℤ signed_by c (Y * 2 ^ w)
  both_at c = sum_at (signed_by b X) (signed_by c Y) ex ey 30 ∙ ap₂ ◌+ℤ◌ (sym (signed_mul b X (2 ^ (up ex + down ey + 30))) ∙ ap (λ (z : ℕ). signed_by b (X * z)) large) (sym (signed_mul c Y (2 ^ w)))

  -- of the same sign
  pub far_plus : RoundAlike 24 (scaled (signed_by b (X * 2 ^ 30 + 1)) (ex -ℤ pos 30)) (scaled (signed_by b X) ex ⊞ scaled (signed_by b Y) ey)
  far_plus =
      sticky_alike 24 (scaled (signed_by b (X * 2 ^ 30 + 1)) (ex -ℤ pos 30)) (scaled (signed_by b X) ex ⊞ scaled (signed_by b Y) ey) (down ex + down ey + 30) (unit_low (signed_by b (X * 2 ^ 30 + 1))) (sum_low (signed_by b X) (signed_by b Y) ex ey 30)
      b (X * 2 ^ 29) j (2 ^ j) (Y * 2 ^ w) (big X hx)
      (unit_at (X * 2 ^ 30 + 1) ∙ ap (signed_by b) (one X (2 ^ j)))
      (both_at b ∙ signed_plus b (X * (2 ^ j * 2 ^ 30)) (Y * 2 ^ w) ∙ ap (signed_by b) (two X (2 ^ j) (Y * 2 ^ w)))
      (pow_pos j) (twice (2 ^ j) (pow_pos j)) some small
    where
      big : (X : ℕ) → 0 < X → 2 ^ 25 ≤ 2 * (X * 2 ^ 29)
      big X h = omega arith

      one : (X J : ℕ) → (X * 2 ^ 30 + 1) * J ≡ 2 * (X * 2 ^ 29) * J + J
      one X J = omega arith

      two : (X J D : ℕ) → X * (J * 2 ^ 30) + D ≡ 2 * (X * 2 ^ 29) * J + D
      two X J D = omega arith

      twice : (J : ℕ) → 0 < J → J < 2 * J
      twice J h = omega arith

  abbrev half : ℕ
  half = X * 2 ^ 29 - 1

  -- of the other sign
  pub far_minus : RoundAlike 24 (scaled (signed_by b (X * 2 ^ 30 - 1)) (ex -ℤ pos 30)) (scaled (signed_by b X) ex ⊞ scaled (signed_by (not b) Y) ey)
  far_minus =
      sticky_alike 24 (scaled (signed_by b (X * 2 ^ 30 - 1)) (ex -ℤ pos 30)) (scaled (signed_by b X) ex ⊞ scaled (signed_by (not b) Y) ey) (down ex + down ey + 30) (unit_low (signed_by b (X * 2 ^ 30 - 1))) (sum_low (signed_by b X) (signed_by (not b) Y) ex ey 30)
      b half j (2 ^ j) (2 * 2 ^ j - Y * 2 ^ w) (big X half (less X hx) hx)
      (unit_at (X * 2 ^ 30 - 1) ∙ ap (signed_by b) (ap (λ (z : ℕ). z * 2 ^ j) (head X half (less X hx)) ∙ one half (2 ^ j)))
      (both_at (not b) ∙ signed_minus b (X * (2 ^ j * 2 ^ 30)) (Y * 2 ^ w) (below X half (2 ^ j) (Y * 2 ^ w) (less X hx) small) ∙ ap (signed_by b) (two X half (2 ^ j) (Y * 2 ^ w) (less X hx) small))
      (pow_pos j) (twice (2 ^ j) (pow_pos j)) (rest_some (2 ^ j) (Y * 2 ^ w) small) (rest_less (2 ^ j) (Y * 2 ^ w) some (pow_pos j))
    where
      less : (X : ℕ) → 0 < X → X * 2 ^ 29 ≡ suc (X * 2 ^ 29 - 1)
      less X h = omega arith

      big : (X B : ℕ) → X * 2 ^ 29 ≡ suc B → 0 < X → 2 ^ 25 ≤ 2 * B
      big X B e h = omega arith

      head : (X B : ℕ) → X * 2 ^ 29 ≡ suc B → X * 2 ^ 30 - 1 ≡ 2 * B + 1
      head X B e = omega arith

      one : (B J : ℕ) → (2 * B + 1) * J ≡ 2 * B * J + J
      one B J = omega arith

      wide : (X B J : ℕ) → X * 2 ^ 29 ≡ suc B → X * (J * 2 ^ 30) ≡ 2 * B * J + 2 * J
      wide X B J e = step X J ∙ ap (λ (z : ℕ). z * (2 * J)) e ∙ out B J
        where
          step : (X J : ℕ) → X * (J * 2 ^ 30) ≡ X * 2 ^ 29 * (2 * J)
          step X J = omega arith

          out : (B J : ℕ) → suc B * (2 * J) ≡ 2 * B * J + 2 * J
          out B J = omega arith

      below : (X B J D : ℕ) → X * 2 ^ 29 ≡ suc B → D < 2 * J → D ≤ X * (J * 2 ^ 30)
      below X B J D e h = rw (wide X B J e) (omega arith)

      two : (X B J D : ℕ) → X * 2 ^ 29 ≡ suc B → D < 2 * J → X * (J * 2 ^ 30) - D ≡ 2 * B * J + (2 * J - D)
      two X B J D e h = rw (wide X B J e) (omega arith)

      twice : (J : ℕ) → 0 < J → J < 2 * J
      twice J h = omega arith

      rest_some : (J D : ℕ) → D < 2 * J → 0 < 2 * J - D
      rest_some J D h = omega arith

      rest_less : (J D : ℕ) → 0 < D → 0 < J → 2 * J - D < 2 * J
      rest_less J D h l = omega arith
