-- A whole number that does not lie midway between two neighbours of precision p has one nearest number of that precision.
use Rattle.std.proofs.Common.{◌≡◌, ℕ, suc, ◌+◌, ◌*◌, ◌^◌, ◌<◌, ◌≤◌, Bool, true, false, ◌⊎◌, ℤ, pos, ◌-ℤ◌, ◌*ℤ◌, neg_ℤ, nat_abs, sym, refl, ap, ◌∙◌, subst, inl, inr, mul-le-mul_right, zero-lt-suc, arith}
use borrow.Author.Differences.{ints}
use Rattle.exact.proofs.Order.{◌≼◌}
use Rattle.exact.proofs.Signs.{abs_mul}
use Rattle.exact.proofs.Precision.{WholePrecision, zero_precise, multiple_precise}
use Rattle.exact.proofs.Nearness.{NearestWhole, not_below, mirror}
use Rattle.exact.proofs.Chosen.{gap}
use Rattle.exact.specs.Exact.{two^, signed_by}

-- R no more than q W or no less than (q + 1) W, and no further from M = q W + s than the end on s's side of the half
lower : (q W s M R : ℕ) (r : ℤ) → r ≡ pos R → M ≡ q * W + s → 2 * s < W → (R ≤ q * W) ⊎ (suc q * W ≤ R) → nat_abs (r -ℤ pos M) ≤ nat_abs (pos (q * W) -ℤ pos M) → r ≡ pos (q * W)
lower q W s M R r e m h (inl a) n = omega (arith, ints)
lower q W s M R r e m h (inr a) n = absurd (omega (arith, ints))

upper : (q W s M R : ℕ) (r : ℤ) → r ≡ pos R → M ≡ q * W + s → s < W → W < 2 * s → (R ≤ q * W) ⊎ (suc q * W ≤ R) → nat_abs (r -ℤ pos M) ≤ nat_abs (pos (suc q * W) -ℤ pos M) → r ≡ pos (suc q * W)
upper q W s M R r e m l h (inl a) n = absurd (omega (arith, ints))
upper q W s M R r e m l h (inr a) n = omega (arith, ints)

positive : (r : ℤ) → pos 0 ≼ r → r ≡ pos (nat_abs r)
positive r h = omega (arith, ints)

module _ (p : ℕ) (q k s M : ℕ) (lo : 2 ^ p ≤ q) (hi : q < 2 ^ suc p) (e : M ≡ q * 2 ^ k + s) {r : ℤ} (n : NearestWhole (suc p) (pos M) r) where
  r_is : r ≡ pos (nat_abs r)
  r_is = positive r (not_below (suc p) (pos 0) (zero_precise (suc p)) n (omega (arith, ints)))

  sides : (nat_abs r ≤ q * 2 ^ k) ⊎ (suc q * 2 ^ k ≤ nat_abs r)
  sides = let (m, j, lt, f) = n.precise in go m j lt f
    where
      go : (m : ℤ) (j : ℕ) → nat_abs m < 2 ^ suc p → r ≡ m *ℤ two^ j → (nat_abs r ≤ q * 2 ^ k) ⊎ (suc q * 2 ^ k ≤ nat_abs r)
      go m j lt f = rw (ap nat_abs f ∙ abs_mul m (two^ j)) (gap p q k (nat_abs m) j lo lt)

  end : (c : ℕ) → c ≤ 2 ^ suc p → WholePrecision (suc p) (pos (c * 2 ^ k))
  end c h = multiple_precise (suc p) k (zero-lt-suc p) (pos c, refl) (mul-le-mul_right (2 ^ k) h)

  to_lower : 2 * s < 2 ^ k → r ≡ pos (q * 2 ^ k)
  to_lower h = lower q (2 ^ k) s M (nat_abs r) r r_is e h sides (n.near (pos (q * 2 ^ k)) (end q (omega arith)))

  to_upper : s < 2 ^ k → 2 ^ k < 2 * s → r ≡ pos (suc q * 2 ^ k)
  to_upper l h = upper q (2 ^ k) s M (nat_abs r) r r_is e l h sides (n.near (pos (suc q * 2 ^ k)) (end (suc q) hi))

  -- midway it is one of both ends
  to_either : 2 * s ≡ 2 ^ k → (r ≡ pos (q * 2 ^ k)) ⊎ (r ≡ pos (suc q * 2 ^ k))
  to_either h = go sides
    where
      at_lower : (q W s M R : ℕ) (r : ℤ) → r ≡ pos R → M ≡ q * W + s → 2 * s ≡ W → R ≤ q * W → nat_abs (r -ℤ pos M) ≤ nat_abs (pos (q * W) -ℤ pos M) → r ≡ pos (q * W)
      at_lower q W s M R r e m h a n = omega (arith, ints)

      at_upper : (q W s M R : ℕ) (r : ℤ) → r ≡ pos R → M ≡ q * W + s → 2 * s ≡ W → suc q * W ≤ R → nat_abs (r -ℤ pos M) ≤ nat_abs (pos (suc q * W) -ℤ pos M) → r ≡ pos (suc q * W)
      at_upper q W s M R r e m h a n = omega (arith, ints)

      go : (nat_abs r ≤ q * 2 ^ k) ⊎ (suc q * 2 ^ k ≤ nat_abs r) → (r ≡ pos (q * 2 ^ k)) ⊎ (r ≡ pos (suc q * 2 ^ k))
      go (inl a) = inl (at_lower q (2 ^ k) s M (nat_abs r) r r_is e h a (n.near (pos (q * 2 ^ k)) (end q (omega arith))))
      go (inr a) = inr (at_upper q (2 ^ k) s M (nat_abs r) r r_is e h a (n.near (pos (suc q * 2 ^ k)) (end (suc q) hi)))

-- the same below zero
turned : (p M : ℕ) (r : ℤ) → NearestWhole p (signed_by true M) r → NearestWhole p (pos M) (neg_ℤ r)
turned p M r n = subst (λ (z : ℤ). NearestWhole p z (neg_ℤ r)) (twice (pos M)) (mirror p n)
  where
    twice : (z : ℤ) → neg_ℤ (neg_ℤ z) ≡ z
    twice z = omega (arith, ints)

pub one_of_both : (p q k s : ℕ) → 2 ^ p ≤ q → q < 2 ^ suc p → 2 * s ≡ 2 ^ k → (b : Bool) (r : ℤ) → NearestWhole (suc p) (signed_by b (q * 2 ^ k + s)) r → (r ≡ signed_by b (q * 2 ^ k)) ⊎ (r ≡ signed_by b (suc q * 2 ^ k))
one_of_both p q k s lo hi h false r n = to_either p q k s _ lo hi refl n h
one_of_both p q k s lo hi h true r n = go (to_either p q k s _ lo hi refl (turned (suc p) _ r n) h)
  where
    back : (r : ℤ) (m : ℕ) → neg_ℤ r ≡ pos m → r ≡ neg_ℤ (pos m)
    back r m e = omega (arith, ints)

    go : (neg_ℤ r ≡ pos (q * 2 ^ k)) ⊎ (neg_ℤ r ≡ pos (suc q * 2 ^ k)) → (r ≡ neg_ℤ (pos (q * 2 ^ k))) ⊎ (r ≡ neg_ℤ (pos (suc q * 2 ^ k)))
    go (inl e) = inl (back r (q * 2 ^ k) e)
    go (inr e) = inr (back r (suc q * 2 ^ k) e)

-- ---- two numbers between the same two neighbours, both nearer to the lower one or both nearer to the upper one
abbrev pub NearerLower : ℕ → ℕ → Type 0
NearerLower k s = 2 * s < 2 ^ k

abbrev pub NearerUpper : ℕ → ℕ → Type 0
NearerUpper k s = (s < 2 ^ k) × (2 ^ k < 2 * s)

module _ (p q k s s' : ℕ) (lo : 2 ^ p ≤ q) (hi : q < 2 ^ suc p) (sides : (NearerLower k s × NearerLower k s') ⊎ (NearerUpper k s × NearerUpper k s')) where
  same_positive : {r r' : ℤ} → NearestWhole (suc p) (pos (q * 2 ^ k + s)) r → NearestWhole (suc p) (pos (q * 2 ^ k + s')) r' → r ≡ r'
  same_positive {r} {r'} n n' = go sides
    where
      go : (NearerLower k s × NearerLower k s') ⊎ (NearerUpper k s × NearerUpper k s') → r ≡ r'
      go (inl (h, h')) = to_lower p q k s _ lo hi refl n h ∙ sym (to_lower p q k s' _ lo hi refl n' h')
      go (inr (h, h')) = to_upper p q k s _ lo hi refl n h.0 h.1 ∙ sym (to_upper p q k s' _ lo hi refl n' h'.0 h'.1)

  pub same_nearest : (b : Bool) {r r' : ℤ} → NearestWhole (suc p) (signed_by b (q * 2 ^ k + s)) r → NearestWhole (suc p) (signed_by b (q * 2 ^ k + s')) r' → r ≡ r'
  same_nearest false n n' = same_positive n n'
  same_nearest true {r} {r'} n n' = back r r' (same_positive (turned (suc p) _ r n) (turned (suc p) _ r' n'))
    where
      back : (r r' : ℤ) → neg_ℤ r ≡ neg_ℤ r' → r ≡ r'
      back r r' e = omega (arith, ints)
