-- By quotient and rest only one number can be chosen, and it is the one that `round_whole` takes; so a finer scale changes nothing.
use Rattle.std.proofs.Common.{◌≡◌, ℕ, suc, ◌+◌, ◌-◌, ◌*◌, ◌/◌, ◌%◌, ◌^◌, ◌<◌, ◌≤◌, not, T, eqb, ◌⊎◌, sym, refl, ap, ◌∙◌, subst, inl, inr, lt_of_lt_of_le, mul-le-mul_right, mod-lt, div-lt_iff_lt-mul, mul-le-mul_left, pow-suc, div-add-mod', le-div_iff_mul-le, arith, eqb→eq, leb→le, pow_pos, pow_mono, pow-add}
use Prim.Native.Nat.{compare, Ordering}
use native.Mathlib.Decide.{dec_le, dec_lt}
use lib.Arith.{digits_div, digits_mod, lt_of_le-ne}
use lib.Dec.{is_le, compare_is_eq, nleb→lt, eqb_refl}
use lib.Ieee.{size as digits}
use lib.Ieee.Digits.{size-lt, size_reaches}
use Rattle.exact.specs.Ties.{Tie, round_whole}
use Rattle.exact.proofs.Signs.{dist}
use Rattle.exact.proofs.Chosen.{NaturalPrecision, Cmp, Chosen, chosen_near, chosen_finer}

to_zero : (M R : ℕ) → dist R M ≤ dist M M → R ≡ M
to_zero M R h = omega arith

is_M : (tie : Tie) (p M R : ℕ) → Chosen tie (suc p) M R → NaturalPrecision (suc p) M → R ≡ M
is_M tie p M R c h = to_zero M R (chosen_near tie p M R c M h)

prec_M : (tie : Tie) (p M R : ℕ) (c : Chosen tie (suc p) M R) → c.r ≡ 0 → NaturalPrecision (suc p) M
prec_M tie p M R c z = (c.q, c.k, c.short, c.whole ∙ rw z (omega arith))

cmp_same : (o o' : Ordering) (a b : ℕ) → Cmp o a b → Cmp o' a b → o ≡ o'
cmp_same Ordering.lt Ordering.lt a b h k = refl
cmp_same Ordering.lt Ordering.eq a b h k = absurd (omega arith)
cmp_same Ordering.lt Ordering.gt a b h k = absurd (omega arith)
cmp_same Ordering.eq Ordering.lt a b h k = absurd (omega arith)
cmp_same Ordering.eq Ordering.eq a b h k = refl
cmp_same Ordering.eq Ordering.gt a b h k = absurd (omega arith)
cmp_same Ordering.gt Ordering.lt a b h k = absurd (omega arith)
cmp_same Ordering.gt Ordering.eq a b h k = absurd (omega arith)
cmp_same Ordering.gt Ordering.gt a b h k = refl

-- two full quotients cut off equally many digits
clash : (M q r q' r' P W V : ℕ) → M ≡ q * W + r → r < W → q < P → M ≡ q' * V + r' → P ≤ 2 * q' → W * 2 ≤ V → ⊥
clash M q r q' r' P W V e l s e' f h = omega (arith, mul-le-mul_left q' h, mul-le-mul_right W f, mul-le-mul_right W s)

no_less : (p M q k r q' k' r' : ℕ) → M ≡ q * 2 ^ k + r → r < 2 ^ k → q < 2 ^ p → M ≡ q' * 2 ^ k' + r' → 2 ^ p ≤ 2 * q' → k < k' → ⊥
no_less p M q k r q' k' r' e l s e' f h =
    let a : 2 ^ suc k ≤ 2 ^ k' = pow_mono h in
    clash M q r q' r' (2 ^ p) (2 ^ k) (2 ^ k') e l s e' f (rw (pow-suc 2 k) at a)

one_full : (tie : Tie) (p M R R' : ℕ) (c : Chosen tie p M R) (c' : Chosen tie p M R') → 2 ^ p ≤ 2 * c.q → 2 ^ p ≤ 2 * c'.q → R ≡ R'
one_full tie p M R R' c c' f f' =
    let k : c.k ≡ c'.k = both (dec_lt c.k c'.k) (dec_lt c'.k c.k) in
    let m : c.q * 2 ^ c.k + c.r ≡ c'.q * 2 ^ c.k + c'.r = sym c.whole ∙ c'.whole ∙ ap (λ z. c'.q * 2 ^ z + c'.r) (sym k) in
    let l : c'.r < 2 ^ c.k = rw k c'.rest in
    let q : c.q ≡ c'.q = sym (digits_div c.q c.rest) ∙ ap (λ z. z / 2 ^ c.k) m ∙ digits_div c'.q l in
    let r : c.r ≡ c'.r = sym (digits_mod c.q c.rest) ∙ ap (λ z. z % 2 ^ c.k) m ∙ digits_mod c'.q l in
    let o : c.o ≡ c'.o = cmp_same c.o c'.o (c.r * 2) (2 ^ c.k) c.side (rw (r, k) c'.side) in
    c.result ∙ rw (q, k, o) (sym c'.result)
  where
    both : Dec (c.k < c'.k) → Dec (c'.k < c.k) → c.k ≡ c'.k
    both (yes h) d = absurd (no_less p M c.q c.k c.r c'.q c'.k c'.r c.whole c.rest c.short c'.whole f' h)
    both (no n) (yes h) = absurd (no_less p M c'.q c'.k c'.r c.q c.k c.r c'.whole c'.rest c'.short c.whole f h)
    both (no n) (no n') = omega arith

chosen_one : (tie : Tie) (p M R R' : ℕ) → Chosen tie (suc p) M R → Chosen tie (suc p) M R' → R ≡ R'
chosen_one tie p M R R' c c' = go c.full c'.full
  where
    go : (2 ^ suc p ≤ 2 * c.q) ⊎ (c.r ≡ 0) → (2 ^ suc p ≤ 2 * c'.q) ⊎ (c'.r ≡ 0) → R ≡ R'
    go (inl f) (inl f') = one_full tie (suc p) M R R' c c' f f'
    go (inl f) (inr z) = let h = prec_M tie p M R' c' z in is_M tie p M R c h ∙ sym (is_M tie p M R' c' h)
    go (inr z) f = let h = prec_M tie p M R c z in is_M tie p M R c h ∙ sym (is_M tie p M R' c' h)

-- ---- `round_whole` takes it
pub cmp : (a b : ℕ) → Cmp (compare a b) a b
cmp a b = go (compare a b) (leb→le a b) (nleb→lt a b) (eqb→eq a b) (λ (e : a ≡ b). subst (λ (x : ℕ). T (eqb a x)) e (eqb_refl a))
  where
    go : (o : Ordering) → (T (is_le o) → a ≤ b) → (T (not (is_le o)) → b < a) → (T (compare_is_eq o) → a ≡ b) → (a ≡ b → T (compare_is_eq o)) → Cmp o a b
    go Ordering.lt h k e n = lt_of_le-ne (h tt) n
    go Ordering.eq h k e n = e tt
    go Ordering.gt h k e n = k tt

pub round_chosen : (tie : Tie) (p M : ℕ) → Chosen tie (suc p) M (round_whole tie (suc p) M)
unfolding round_whole
round_chosen tie p M = record {
  q = M / 2 ^ (digits M - suc p);
  k = digits M - suc p;
  r = M % 2 ^ (digits M - suc p);
  o = compare (M % 2 ^ (digits M - suc p) * 2) (2 ^ (digits M - suc p));
  whole = sym (div-add-mod' M (2 ^ (digits M - suc p)));
  rest = mod-lt M (pow_pos (digits M - suc p));
  side = cmp (M % 2 ^ (digits M - suc p) * 2) (2 ^ (digits M - suc p));
  short = (div-lt_iff_lt-mul (pow_pos (digits M - suc p))).1 below;
  full = go (dec_le (digits M) (suc p));
  result = refl;
}
  where
    below : M < 2 ^ suc p * 2 ^ (digits M - suc p)
    below = rw (← pow-add 2 (suc p) (digits M - suc p)) (lt_of_lt_of_le (size-lt M) (pow_mono (omega arith)))

    go : Dec (digits M ≤ suc p) → (2 ^ suc p ≤ 2 * (M / 2 ^ (digits M - suc p))) ⊎ (M % 2 ^ (digits M - suc p) ≡ 0)
    go (yes l) = let z : digits M - suc p ≡ 0 = omega arith in inr (rw z (omega arith))
    go (no n) =
        let h : 2 ^ (p + (digits M - suc p)) ≤ M = size_reaches M (p + (digits M - suc p)) (omega arith) in
        let q : 2 ^ p ≤ M / 2 ^ (digits M - suc p) = (le-div_iff_mul-le (pow_pos (digits M - suc p))).1 (rw (pow-add 2 p (digits M - suc p)) at h) in
        inl (rw (pow-suc 2 p) (omega arith))

-- a number taken by quotient and rest is the rule's: how code is tied to it
chosen_is : (tie : Tie) (p M R : ℕ) → Chosen tie (suc p) M R → R ≡ round_whole tie (suc p) M
chosen_is tie p M R c = chosen_one tie p M R (round_whole tie (suc p) M) c (round_chosen tie p M)

pub round_finer : (tie : Tie) (p M j : ℕ) → round_whole tie (suc p) M * 2 ^ j ≡ round_whole tie (suc p) (M * 2 ^ j)
round_finer tie p M j = chosen_is tie p (M * 2 ^ j) (round_whole tie (suc p) M * 2 ^ j) (chosen_finer tie (suc p) M (round_whole tie (suc p) M) j (round_chosen tie p M))
