-- A natural number is cut into quotient and rest; what is chosen by the rest has precision p, and none is nearer.
use Rattle.std.proofs.Common.{◌≡◌, ℕ, suc, ◌+◌, ◌-◌, ◌*◌, ◌^◌, ◌<◌, ◌≤◌, Bool, true, false, cond, ◌⊎◌, refl, ap, ◌∙◌, subst, inl, inr, mul-le-mul_right, mul-le-mul_left, mul-lt-mul_of_pos_right, pow-suc, arith, pow_pos, pow_mono, pow-add}
use Prim.Native.Nat.{Ordering}
use native.Mathlib.Decide.{dec_le, dec_lt}
use Rattle.exact.specs.Ties.{Tie, pick}
use Rattle.exact.proofs.Signs.{dist}

-- a natural number of precision p
abbrev pub NaturalPrecision : ℕ → ℕ → Type 0
NaturalPrecision p n = (m : ℕ) × (k : ℕ) × (m < 2 ^ p) × (n ≡ m * 2 ^ k)

-- what a comparison says
abbrev pub Cmp : Ordering → ℕ → ℕ → Type 0
Cmp Ordering.lt a b = a < b
Cmp Ordering.eq a b = a ≡ b
Cmp Ordering.gt a b = b < a

-- a number of precision p + 1 is no more than q · 2^k or no less than (q + 1) · 2^k, where q has p + 1 digits
pub gap : (p q k m j : ℕ) → 2 ^ p ≤ q → m < 2 ^ suc p → (m * 2 ^ j ≤ q * 2 ^ k) ⊎ (suc q * 2 ^ k ≤ m * 2 ^ j)
gap p q k m j h l = go (dec_le k j)
  where
    coarse : (i : ℕ) → k + i ≡ j → Dec (m * 2 ^ i ≤ q) → (m * 2 ^ j ≤ q * 2 ^ k) ⊎ (suc q * 2 ^ k ≤ m * 2 ^ j)
    coarse i e (yes a) = inl (rw (← e, pow-add 2 k i) (omega (arith, mul-le-mul_right (2 ^ k) a)))
    coarse i e (no n) = let a : suc q ≤ m * 2 ^ i = omega arith in inr (rw (← e, pow-add 2 k i) (omega (arith, mul-le-mul_right (2 ^ k) a)))

    go : Dec (k ≤ j) → (m * 2 ^ j ≤ q * 2 ^ k) ⊎ (suc q * 2 ^ k ≤ m * 2 ^ j)
    go (yes a) = coarse (j - k) (omega arith) (dec_le (m * 2 ^ (j - k)) q)
    go (no n) =
        let a : 2 ^ suc j ≤ 2 ^ k = pow_mono (omega arith) in
        let b : m * 2 ^ j ≤ 2 ^ suc p * 2 ^ j = mul-le-mul_right (2 ^ j) (omega arith) in
        let c : 2 ^ p * 2 ^ suc j ≤ 2 ^ p * 2 ^ k = mul-le-mul_left (2 ^ p) a in
        let d : 2 ^ p * 2 ^ k ≤ q * 2 ^ k = mul-le-mul_right (2 ^ k) h in
        let e : 2 ^ suc p ≡ 2 ^ p * 2 = pow-suc 2 p in
        let f : 2 ^ suc j ≡ 2 ^ j * 2 = pow-suc 2 j in
        inl (omega (arith, rw e at b, rw f at c))

-- q and the rest r of M at the spacing 2^k, o the place of r beside the half; R is what the rule takes
pub record Chosen (tie : Tie) (p M R : ℕ) : Type 0 where
  pub q : ℕ
  pub k : ℕ
  pub r : ℕ
  pub o : Ordering
  pub whole : M ≡ q * 2 ^ k + r
  pub rest : r < 2 ^ k
  pub side : Cmp o (r * 2) (2 ^ k)
  pub short : q < 2 ^ p
  pub full : (2 ^ p ≤ 2 * q) ⊎ (r ≡ 0)
  pub result : R ≡ pick tie q o * 2 ^ k

-- down or up, and then not past the half
half : (tie : Tie) (q r W : ℕ) (o : Ordering) → Cmp o (r * 2) W → ((pick tie q o ≡ q) × (r * 2 ≤ W)) ⊎ ((pick tie q o ≡ suc q) × (W ≤ r * 2))
half tie q r W Ordering.lt h = inl (refl, omega arith)
half tie q r W Ordering.eq h = go (tie q)
  where
    go : (b : Bool) → ((cond b (suc q) q ≡ q) × (r * 2 ≤ W)) ⊎ ((cond b (suc q) q ≡ suc q) × (W ≤ r * 2))
    go true = inr (refl, omega arith)
    go false = inl (refl, omega arith)
half tie q r W Ordering.gt h = inr (refl, omega arith)

-- nearest
near : (q W r x R M : ℕ) → M ≡ q * W + r → r < W → (x ≤ q * W) ⊎ (suc q * W ≤ x) → ((R ≡ q * W) × (r * 2 ≤ W)) ⊎ ((R ≡ suc q * W) × (W ≤ r * 2)) → dist R M ≤ dist x M
near q W r x R M e l (inl a) (inl (b, c)) = omega arith
near q W r x R M e l (inl a) (inr (b, c)) = omega arith
near q W r x R M e l (inr a) (inl (b, c)) = omega arith
near q W r x R M e l (inr a) (inr (b, c)) = omega arith

exact : (q W r x R M : ℕ) → M ≡ q * W + r → r ≡ 0 → 0 < W → ((R ≡ q * W) × (r * 2 ≤ W)) ⊎ ((R ≡ suc q * W) × (W ≤ r * 2)) → dist R M ≤ dist x M
exact q W r x R M e z l (inl (b, c)) = omega arith
exact q W r x R M e z l (inr (b, c)) = omega arith

module _ (tie : Tie) (p M R : ℕ) (c : Chosen tie p M R) where
  taken : ((R ≡ c.q * 2 ^ c.k) × (c.r * 2 ≤ 2 ^ c.k)) ⊎ ((R ≡ suc c.q * 2 ^ c.k) × (2 ^ c.k ≤ c.r * 2))
  taken = go (half tie c.q c.r (2 ^ c.k) c.o c.side)
    where
      go : ((pick tie c.q c.o ≡ c.q) × (c.r * 2 ≤ 2 ^ c.k)) ⊎ ((pick tie c.q c.o ≡ suc c.q) × (2 ^ c.k ≤ c.r * 2)) → ((R ≡ c.q * 2 ^ c.k) × (c.r * 2 ≤ 2 ^ c.k)) ⊎ ((R ≡ suc c.q * 2 ^ c.k) × (2 ^ c.k ≤ c.r * 2))
      go (inl (a, b)) = inl (c.result ∙ ap (λ (z : ℕ). z * 2 ^ c.k) a, b)
      go (inr (a, b)) = inr (c.result ∙ ap (λ (z : ℕ). z * 2 ^ c.k) a, b)

pub chosen_near : (tie : Tie) (p M R : ℕ) → Chosen tie (suc p) M R → (x : ℕ) → NaturalPrecision (suc p) x → dist R M ≤ dist x M
chosen_near tie p M R c x (m, j, lt, e) = go c.full
  where
    go : (2 ^ suc p ≤ 2 * c.q) ⊎ (c.r ≡ 0) → dist R M ≤ dist x M
    go (inl f) = near c.q (2 ^ c.k) c.r x R M c.whole c.rest (rw e (gap p c.q c.k m j (omega (arith, pow-suc 2 p)) lt)) (taken tie (suc p) M R c)
    go (inr z) = exact c.q (2 ^ c.k) c.r x R M c.whole z (pow_pos c.k) (taken tie (suc p) M R c)

-- of precision p
pub chosen_prec : (tie : Tie) (p M R : ℕ) → Chosen tie (suc p) M R → NaturalPrecision (suc p) R
chosen_prec tie p M R c = go (taken tie (suc p) M R c) (dec_lt (suc c.q) (2 ^ suc p))
  where
    go : ((R ≡ c.q * 2 ^ c.k) × (c.r * 2 ≤ 2 ^ c.k)) ⊎ ((R ≡ suc c.q * 2 ^ c.k) × (2 ^ c.k ≤ c.r * 2)) → Dec (suc c.q < 2 ^ suc p) → NaturalPrecision (suc p) R
    go (inl a) d = (c.q, c.k, c.short, a.0)
    go (inr a) (yes l) = (suc c.q, c.k, l, a.0)
    go (inr a) (no n) =
        let e : suc c.q ≡ 2 ^ suc p = omega (arith, c.short) in
        (2 ^ p, suc c.k, rw (pow-suc 2 p) (omega (arith, pow_pos p)), a.0 ∙ rw (e, pow-suc 2 p, pow-suc 2 c.k) (omega arith))

-- on a finer scale
cmp_mul : (o : Ordering) (a b W : ℕ) → 0 < W → Cmp o a b → Cmp o (a * W) (b * W)
cmp_mul Ordering.lt a b W l h = mul-lt-mul_of_pos_right h l
cmp_mul Ordering.eq a b W l h = ap (λ (z : ℕ). z * W) h
cmp_mul Ordering.gt a b W l h = mul-lt-mul_of_pos_right h l

pub chosen_finer : (tie : Tie) (p M R j : ℕ) → Chosen tie p M R → Chosen tie p (M * 2 ^ j) (R * 2 ^ j)
chosen_finer tie p M R j c = record {
  q = c.q;
  k = c.k + j;
  r = c.r * 2 ^ j;
  o = c.o;
  whole = rw (c.whole, pow-add 2 c.k j) (omega arith);
  rest = rw (pow-add 2 c.k j) (mul-lt-mul_of_pos_right c.rest (pow_pos j));
  side = rw (pow-add 2 c.k j) (subst (λ (z : ℕ). Cmp c.o z (2 ^ c.k * 2 ^ j)) (swap c.r (2 ^ j)) (cmp_mul c.o (c.r * 2) (2 ^ c.k) (2 ^ j) (pow_pos j) c.side));
  short = c.short;
  full = go c.full;
  result = rw (c.result, pow-add 2 c.k j) (native.Mathlib.Nat.mul_assoc (pick tie c.q c.o) (2 ^ c.k) (2 ^ j));
}
  where
    swap : (a b : ℕ) → a * 2 * b ≡ a * b * 2
    swap a b = omega arith

    go : (2 ^ p ≤ 2 * c.q) ⊎ (c.r ≡ 0) → (2 ^ p ≤ 2 * c.q) ⊎ (c.r * 2 ^ j ≡ 0)
    go (inl a) = inl a
    go (inr a) = inr (rw a (omega arith))
