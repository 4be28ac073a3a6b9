-- The order of the whole numbers, with products.
use Rattle.std.proofs.Common.{◌≡◌, zero, suc, Bool, true, false, T, ◌⊎◌, [], ◌∷◌, ℤ, pos, negsuc, ◌-ℤ◌, ◌*ℤ◌, ◌≤ℤ◌, ◌<ℤ◌, sym, refl, subst, inl, inr, arith}
use lib.Signed.{lt_z, lt_z_yes}
use borrow.Author.Differences.{ints}
use Rattle.exact.proofs.Ring.{ring, v, ◌⊖◌, ◌⊗◌}

-- lib.Signed's orders, with a fixity below that of the operations
infix 4 ◌≼◌ ◌≺◌
abbrev pub ◌≼◌ : ℤ → ℤ → Type 0
a ≼ b = ◌≤ℤ◌ a b

abbrev pub ◌≺◌ : ℤ → ℤ → Type 0
a ≺ b = ◌<ℤ◌ a b

pub le_or_lt : (a b : ℤ) → (a ≼ b) ⊎ (b ≺ a)
le_or_lt a b = go (lt_z b a) refl
  where
    go : (t : Bool) → lt_z b a ≡ t → (a ≼ b) ⊎ (b ≺ a)
    go true e = inr (lt_z_yes (subst T (sym e) tt))
    go false e = inl (omega (arith, ints))

mul_nonnegative : (a b : ℤ) → pos 0 ≼ a → pos 0 ≼ b → pos 0 ≼ a *ℤ b
mul_nonnegative (pos a) (pos b) h l = omega (arith, ints)
mul_nonnegative (pos a) (negsuc b) h l = absurd l.le
mul_nonnegative (negsuc a) b h l = absurd h.le

pub mul_positive : (a b : ℤ) → pos 0 ≺ a → pos 0 ≺ b → pos 0 ≺ a *ℤ b
mul_positive (pos zero) b h l = absurd (omega (arith, ints))
mul_positive (pos (suc a)) (pos zero) h l = absurd (omega (arith, ints))
mul_positive (pos (suc a)) (pos (suc b)) h l = omega (arith, ints)
mul_positive (pos (suc a)) (negsuc b) h l = absurd l.lt
mul_positive (negsuc a) b h l = absurd h.lt

out : (a b c : ℤ) → (b -ℤ a) *ℤ c ≡ b *ℤ c -ℤ a *ℤ c
out a b c = ring (a ∷ b ∷ c ∷ []) ((v 1 ⊖ v 0) ⊗ v 2) (v 1 ⊗ v 2 ⊖ v 0 ⊗ v 2) tt

-- a positive factor on both sides is put there or taken away
pub mul_le : (a b c : ℤ) → pos 0 ≺ c → a ≼ b → a *ℤ c ≼ b *ℤ c
mul_le a b c h l = omega (arith, ints, out a b c, mul_nonnegative (b -ℤ a) c (omega (arith, ints)) (omega (arith, ints)))

pub cancel_le : (a b c : ℤ) → pos 0 ≺ c → a *ℤ c ≼ b *ℤ c → a ≼ b
cancel_le a b c h l = go (le_or_lt a b)
  where
    go : (a ≼ b) ⊎ (b ≺ a) → a ≼ b
    go (inl x) = x
    go (inr x) = absurd (omega (arith, ints, out b a c, mul_positive (a -ℤ b) c (omega (arith, ints)) h))

pub cancel : (a b c : ℤ) → pos 0 ≺ c → a *ℤ c ≡ b *ℤ c → a ≡ b
cancel a b c h e = omega (arith, ints, cancel_le a b c h (omega (arith, ints)), cancel_le b a c h (omega (arith, ints)))
