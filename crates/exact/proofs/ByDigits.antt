-- What `nearest_by` answers for plus or minus M · 2 ^ e, by the digits of M: this is how code is tied to it.
use Rattle.std.proofs.Common.{◌≡◌, ℕ, zero, suc, ◌+◌, ◌-◌, ◌*◌, ◌/◌, ◌%◌, ◌^◌, ◌<◌, ◌≤◌, Bool, true, false, cond, ℤ, pos, negsuc, ◌+ℤ◌, ◌-ℤ◌, ◌*ℤ◌, nat_abs, sym, ap, ◌∙◌, subst, ap₂, arith}
use Prim.Native.Nat.{compare, Ordering}
use lib.Ieee.{size as digits}
use lib.Ieee.Digits.{size-lt, size-le}
use borrow.Author.Differences.{ints}
use Rattle.exact.proofs.Signs.{abs_signed, negative_signed, signed_mul}
use Rattle.exact.proofs.Scaled.{shift}
use Rattle.exact.proofs.Digits.{digits_full}
use Rattle.exact.proofs.Chosen.{Cmp}
use Rattle.exact.proofs.OneChoice.{cmp}
use Rattle.exact.proofs.OneForm.{Form, one_form, form_like, normal, lifted_form, canonical_zero}
use Rattle.exact.proofs.Rules.{rounded_scaled}
use Rattle.exact.specs.Exact.{two^, ◌≈◌, scaled, signed_by, is_negative}
use Rattle.exact.specs.Parts.{parts, zero_parts, value}
use Rattle.exact.specs.Ties.{Tie, pick, round_whole, round_exact, nearest_by}

-- the rule takes the whole number of M · 2 ^ e and leaves e
base : (tie : Tie) (p : ℕ) (b : Bool) (M : ℕ) (e : ℤ) → 0 < p → 0 < M → scaled (signed_by b (round_whole tie p M)) e ≈ round_exact tie p (scaled (signed_by b M) e)
base tie zero b M e hp hm = absurd (omega arith)
base tie (suc p) b M e hp hm =
    let z = signed_by b M in
    let q : signed_by (is_negative z) (round_whole tie (suc p) (nat_abs z)) ≡ signed_by b (round_whole tie (suc p) M) = ap₂ (λ c n. signed_by c (round_whole tie (suc p) n)) (negative_signed b M hm) (abs_signed b M) in
    sym (subst (λ (w : ℤ). round_exact tie (suc p) (scaled z e) ≈ scaled w e) q (rounded_scaled tie p z e))

-- m · 2 ^ k · 2 ^ e, where m has p digits
lowered : (b : Bool) (m k p : ℕ) (e : ℤ) → value p (parts b m (e +ℤ pos (p + k) -ℤ pos 1)) ≈ scaled (signed_by b (m * 2 ^ k)) e
lowered b m k p e =
    subst (λ (z : ℤ). value p (parts b m (e +ℤ pos (p + k) -ℤ pos 1)) ≈ scaled z e) (sym (signed_mul b m (2 ^ k)))
    (subst (λ (z : ℤ). scaled (signed_by b m) z ≈ scaled (signed_by b m *ℤ two^ k) e) (sym (back e p k)) (sym (shift (signed_by b m) e k)))
  where
    back : (e : ℤ) (p k : ℕ) → e +ℤ pos (p + k) -ℤ pos 1 +ℤ pos 1 -ℤ pos p ≡ e +ℤ pos k
    back e p k = omega (arith, ints)

pub answer_cut : (tie : Tie) (p : ℕ) (b : Bool) (M : ℕ) (e : ℤ) (m k : ℕ) → 0 < p → 0 < M → round_whole tie p M ≡ m * 2 ^ k → m < 2 ^ p → 2 ^ p ≤ 2 * m → nearest_by tie p (scaled (signed_by b M) e) ≡ parts b m (e +ℤ pos (p + k) -ℤ pos 1)
answer_cut tie p b M e m k hp hm r hi lo =
    one_form p (round_exact tie p (scaled (signed_by b M) e)) (parts b m (e +ℤ pos (p + k) -ℤ pos 1))
    (form_like p (scaled (signed_by b (round_whole tie p M)) e) (round_exact tie p (scaled (signed_by b M) e)) _ (base tie p b M e hp hm)
    (subst (λ (n : ℕ). Form p (scaled (signed_by b n) e) (parts b m (e +ℤ pos (p + k) -ℤ pos 1))) (sym r)
    (record { canonical = normal p (parts b m (e +ℤ pos (p + k) -ℤ pos 1)) hi lo; same = lowered b m k p e })))

-- few digits: nothing is cut off
round_few : (tie : Tie) (p M : ℕ) → digits M ≤ p → round_whole tie p M ≡ M
unfolding round_whole
round_few tie p M h = rw (none (digits M) p h) (cut (compare (M % 1 * 2) 1) (cmp (M % 1 * 2) 1))
  where
    none : (n p : ℕ) → n ≤ p → n - p ≡ 0
    none n p h = omega arith

    cut : (o : Ordering) → Cmp o (M % 1 * 2) 1 → pick tie (M / 1) o * 1 ≡ M
    cut Ordering.lt h = omega arith
    cut Ordering.eq h = absurd (omega arith)
    cut Ordering.gt h = absurd (omega arith)

pub answer_few : (tie : Tie) (p : ℕ) (b : Bool) (M : ℕ) (e : ℤ) → 0 < p → 0 < M → digits M ≤ p → nearest_by tie p (scaled (signed_by b M) e) ≡ parts b (M * 2 ^ (p - digits M)) (e +ℤ pos (digits M) -ℤ pos 1)
answer_few tie p b M e hp hm h =
    let f = lifted_form p b M (p - digits M) (digits M) e (omega arith) (size-lt M) (digits_full M hm) in
    one_form p (round_exact tie p (scaled (signed_by b M) e)) _
    (form_like p (scaled (signed_by b (round_whole tie p M)) e) (round_exact tie p (scaled (signed_by b M) e)) _ (base tie p b M e hp hm)
    (subst (λ (n : ℕ). Form p (scaled (signed_by b n) e) (parts b (M * 2 ^ (p - digits M)) (e +ℤ pos (digits M) -ℤ pos 1))) (sym (round_few tie p M h)) f))

-- zero
pub answer_zero : (tie : Tie) (p : ℕ) (e : ℤ) → 0 < p → nearest_by tie p (scaled (pos 0) e) ≡ zero_parts
answer_zero tie p e hp = go e
  where
    none : round_whole tie p 0 ≡ 0
    none = round_few tie p 0 (omega (arith, size-le 0 0 (omega arith)))

    go : (e : ℤ) → nearest_by tie p (scaled (pos 0) e) ≡ zero_parts
    go (negsuc e) = canonical_zero p (round_exact tie p (scaled (pos 0) (negsuc e))) none
    go (pos e) = canonical_zero p (round_exact tie p (scaled (pos 0) (pos e))) (ap (λ (n : ℕ). round_whole tie p n) (nil (2 ^ e)) ∙ none)
      where
        nil : (n : ℕ) → 0 * n ≡ 0
        nil n = omega arith

-- q or the next
pub pick_near : (tie : Tie) (q : ℕ) (o : Ordering) → (q ≤ pick tie q o) × (pick tie q o ≤ suc q)
pick_near tie q Ordering.lt = (omega arith, omega arith)
pick_near tie q Ordering.eq = go (tie q)
  where
    go : (b : Bool) → (q ≤ cond b (suc q) q) × (cond b (suc q) q ≤ suc q)
    go true = (omega arith, omega arith)
    go false = (omega arith, omega arith)
pick_near tie q Ordering.gt = (omega arith, omega arith)

-- what is taken, as a whole number of 2 ^ k
pub round_is : (tie : Tie) (p M k : ℕ) → digits M ≡ p + k → round_whole tie p M ≡ pick tie (M / 2 ^ k) (compare (M % 2 ^ k * 2) (2 ^ k)) * 2 ^ k
unfolding round_whole
round_is tie p M k e = ap (λ (j : ℕ). pick tie (M / 2 ^ j) (compare (M % 2 ^ j * 2) (2 ^ j)) * 2 ^ j) (less (digits M) p k e)
  where
    less : (n p k : ℕ) → n ≡ p + k → n - p ≡ k
    less n p k e = omega arith
