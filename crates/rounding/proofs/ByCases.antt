-- The cases of rounding to the nearest: zero, few digits, and digits that are cut off with or without a carry.
use Rattle.std.proofs.Common.{◌≡◌, ℕ, zero, suc, ◌+◌, ◌-◌, ◌*◌, ◌/◌, ◌%◌, ◌^◌, ◌<◌, ◌≤◌, Bool, ℤ, pos, negsuc, nat_abs, ◌+ℤ◌, ◌-ℤ◌, sym, ap, ◌∙◌, ap₂, lt_of_lt_of_le, mod-eq_of_lt, pow-suc, le-div_iff_mul-le, arith, lit≤, pow_pos, pow_mono}
use Prim.Native.Nat.{compare}
use native.Mathlib.Decide.{dec_lt}
use native.Mathlib.Nat.{div-eq_of_lt}
use lib.Ieee.{size as digits}
use lib.Ieee.Digits.{size-lt, size-le}
use borrow.Author.Differences.{ints}
use Rattle.exact.specs.Exact.{scaled, signed_by, is_negative}
use Rattle.exact.specs.Parts.{parts}
use Rattle.exact.specs.Ties.{Tie, pick, round_whole, nearest_by}
use Rattle.exact.proofs.Signs.{signed_self}
use Rattle.exact.proofs.Digits.{digits_full, lifted, quotient_full}
use Rattle.exact.proofs.ByDigits.{answer_zero, answer_few, answer_cut, round_is, pick_near}

pub at_zero : (tie : Tie) (p : ℕ) (z e : ℤ) → 0 < p → nat_abs z ≡ 0 → parts (is_negative z) 0 (pos 0) ≡ nearest_by tie p (scaled z e)
at_zero tie p (pos n) e hp q = sym (answer_zero tie p e hp) ∙ ap (λ (k : ℕ). nearest_by tie p (scaled (pos k) e)) (sym q)
at_zero tie p (negsuc n) e hp q = absurd (cc)

-- the value of a whole number by its sign and its size
pub by_size : (tie : Tie) (p n : ℕ) (z e : ℤ) → n ≡ nat_abs z → nearest_by tie p (scaled (signed_by (is_negative z) n) e) ≡ nearest_by tie p (scaled z e)
by_size tie p n z e q = ap (λ (m : ℤ). nearest_by tie p (scaled m e)) (ap (signed_by (is_negative z)) q ∙ signed_self z)

-- ---- M has n digits, n ≤ p
module _ (p M n : ℕ) (hp : 0 < p) (small : p ≤ 24) (some : 0 < M) (en : n ≡ digits M) (le : n ≤ p) where
  few_short : M * 2 ^ (p - n) < 2 ^ 24
  few_short = lt_of_lt_of_le (rw en (lifted p M (p - digits M) (digits M) (omega arith) (size-lt M) (digits_full M some)).0) (pow_mono small)

  few_whole : (M * 2 ^ (p - n)) % 2 ^ 128 ≡ M * 2 ^ (p - n)
  few_whole = mod-eq_of_lt (lt_of_lt_of_le few_short (lit≤ tt))

  pub few_fits : (M * 2 ^ (p - n)) % 2 ^ 128 < 2 ^ 32
  few_fits = rw few_whole (lt_of_lt_of_le few_short (lit≤ tt))

  pub at_few : (tie : Tie) (b : Bool) (e top : ℤ) → top ≡ e +ℤ pos n -ℤ pos 1 → parts b ((M * 2 ^ (p - n)) % 2 ^ 128) top ≡ nearest_by tie p (scaled (signed_by b M) e)
  at_few tie b e top t = rw (few_whole, t, en) (sym (answer_few tie p b M e hp some (omega arith)))

-- ---- M has n = p + k digits, of which m is taken
module _ (p M n : ℕ) (hp : 0 < p) (small : p ≤ 24) (short : M < 2 ^ 126) (en : n ≡ digits M) (gt : p < n) where
  pub many_few : n ≤ 126
  many_few = omega (arith, size-le M 126 short)

  pub many_short : M < 2 ^ (24 + (n - p))
  many_short = lt_of_lt_of_le (size-lt M) (pow_mono (omega arith))

  module _ (tie : Tie) (m : ℕ) (some : 0 < M) (em : m ≡ pick tie (M / 2 ^ (n - p)) (compare (M % 2 ^ (n - p) * 2) (2 ^ (n - p)))) where
    all_digits : digits M ≡ p + (n - p)
    all_digits = omega arith

    full : 2 ^ p ≤ 2 * m
    full = rw em (omega (arith, (quotient_full p M (n - p) all_digits hp).1, (pick_near tie (M / 2 ^ (n - p)) (compare (M % 2 ^ (n - p) * 2) (2 ^ (n - p)))).0))

    most : m ≤ 2 ^ p
    most = rw em (omega (arith, (quotient_full p M (n - p) all_digits hp).0, (pick_near tie (M / 2 ^ (n - p)) (compare (M % 2 ^ (n - p) * 2) (2 ^ (n - p)))).1))

    taken : round_whole tie p M ≡ m * 2 ^ (n - p)
    taken = round_is tie p M (n - p) all_digits ∙ ap (λ (z : ℕ). z * 2 ^ (n - p)) (sym em)

    module _ (b : Bool) (e top : ℤ) (et : top ≡ e +ℤ pos n -ℤ pos 1) where
      -- m has p digits
      no_carry : m < 2 ^ p → parts b m top ≡ nearest_by tie p (scaled (signed_by b M) e)
      no_carry l = ap (parts b m) (et ∙ ap (λ (z : ℕ). e +ℤ pos z -ℤ pos 1) (back n p gt)) ∙ sym (answer_cut tie p b M e m (n - p) hp some taken l full)
        where
          back : (n p : ℕ) → p < n → n ≡ p + (n - p)
          back n p h = omega arith

      -- m is the power of two above
      carry : m ≡ 2 ^ p → parts b (m / 2) (top +ℤ pos 1) ≡ nearest_by tie p (scaled (signed_by b M) e)
      carry q =
          ap (parts b (m / 2)) (higher top e n p gt et)
          ∙ sym (answer_cut tie p b M e (m / 2) (suc (n - p)) hp some (taken ∙ halves) (omega (arith, q, twice, pow_pos p)) (omega (arith, q, twice)))
        where
          even : (p : ℕ) → 0 < p → 2 ^ p ≡ 2 ^ p / 2 * 2
          even zero h = absurd (omega arith)
          even (suc i) h = rw (pow-suc 2 i) (omega arith)

          twice : m ≡ m / 2 * 2
          twice = rw q (even p hp)

          halves : m * 2 ^ (n - p) ≡ m / 2 * 2 ^ suc (n - p)
          halves = ap (λ (z : ℕ). z * 2 ^ (n - p)) twice ∙ rw (pow-suc 2 (n - p)) (omega arith)

          higher : (top e : ℤ) (n p : ℕ) → p < n → top ≡ e +ℤ pos n -ℤ pos 1 → top +ℤ pos 1 ≡ e +ℤ pos (p + suc (n - p)) -ℤ pos 1
          higher top e n p h t = omega (arith, ints)

      pub at_many : (r : ℕ) (s : ℤ) → (m / 2 ^ p ≡ 0 → (r ≡ m) × (s ≡ top)) → (0 < m / 2 ^ p → (r ≡ m / 2) × (s ≡ top +ℤ pos 1)) → parts b r s ≡ nearest_by tie p (scaled (signed_by b M) e)
      at_many r s kept halved = go (dec_lt m (2 ^ p))
        where
          go : Dec (m < 2 ^ p) → parts b r s ≡ nearest_by tie p (scaled (signed_by b M) e)
          go (yes l) = let (q, t) = kept (div-eq_of_lt l) in ap₂ (parts b) q t ∙ no_carry l
          go (no g) =
              let c : m ≡ 2 ^ p = omega (arith, most) in
              let (q, t) = halved ((le-div_iff_mul-le (pow_pos p)).1 (rw c (omega arith))) in
              ap₂ (parts b) q t ∙ carry c
