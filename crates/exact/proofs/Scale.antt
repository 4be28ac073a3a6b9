-- Exact values on one scale: a value whose denominator divides 2 ^ S is a whole number of units 2 ^ −S.
use Rattle.std.proofs.Common.{◌≡◌, ℕ, ◌+◌, ◌-◌, ◌*◌, ◌^◌, ◌≤◌, [], ◌∷◌, ℤ, pos, ◌+ℤ◌, ◌-ℤ◌, ◌*ℤ◌, neg_ℤ, nat_abs, sym, ap, ◌∙◌, ap₂, mul-le-mul_right, zero-add, le_of_mul-le-mul_right, arith, pow_pos, pow-add}
use borrow.Author.Differences.{ints}
use Rattle.exact.proofs.Ring.{ring, v, ◌⊕◌, ◌⊖◌, ◌⊗◌, mul_assoc, neg_mul}
use Rattle.exact.proofs.Order.{◌≼◌, ◌≺◌, mul_positive, mul_le, cancel_le, cancel}
use Rattle.exact.proofs.Signs.{abs_mul}
use Rattle.exact.specs.Exact.{Exact, two^, ◌≈◌, ◌⊑◌, ◌⊞◌, ◌⊟◌, ◌⊠◌, size, negated, whole}

-- how many units x is
unfoldable pub at : ℕ → Exact → ℤ
at S x = x.num *ℤ two^ (S - x.low)

pub two_add : (i j : ℕ) → two^ (i + j) ≡ two^ i *ℤ two^ j
two_add i j = ap pos (pow-add 2 i j)

pub two_positive : (i : ℕ) → pos 0 ≺ two^ i
two_positive i = omega (arith, ints, pow_pos i)

at_is : (S : ℕ) (x : Exact) → x.low ≤ S → at S x *ℤ two^ x.low ≡ x.num *ℤ two^ S
unfolding at
at_is S x h = mul_assoc x.num (two^ (S - x.low)) (two^ x.low) ∙ ap (λ z. x.num *ℤ z) (sym (two_add (S - x.low) x.low) ∙ ap two^ (back S x.low h))
  where
    back : (S l : ℕ) → l ≤ S → (S - l) + l ≡ S
    back S l h = omega arith

-- ---- X l = n s and Y m = k s: X and Y stand as n m and k l do
module _ (X Y n k l m s : ℤ) (hl : pos 0 ≺ l) (hm : pos 0 ≺ m) (hs : pos 0 ≺ s) (ex : X *ℤ l ≡ n *ℤ s) (ey : Y *ℤ m ≡ k *ℤ s) where
  left : X *ℤ (l *ℤ m) ≡ n *ℤ m *ℤ s
  left =
      ring (X ∷ l ∷ m ∷ []) (v 0 ⊗ (v 1 ⊗ v 2)) (v 0 ⊗ v 1 ⊗ v 2) tt ∙ ap (λ z. z *ℤ m) ex
      ∙ ring (n ∷ s ∷ m ∷ []) (v 0 ⊗ v 1 ⊗ v 2) (v 0 ⊗ v 2 ⊗ v 1) tt

  right : Y *ℤ (l *ℤ m) ≡ k *ℤ l *ℤ s
  right =
      ring (Y ∷ l ∷ m ∷ []) (v 0 ⊗ (v 1 ⊗ v 2)) (v 0 ⊗ v 2 ⊗ v 1) tt ∙ ap (λ z. z *ℤ l) ey
      ∙ ring (k ∷ s ∷ l ∷ []) (v 0 ⊗ v 1 ⊗ v 2) (v 0 ⊗ v 2 ⊗ v 1) tt

  both : pos 0 ≺ l *ℤ m
  both = mul_positive l m hl hm

  down_le : X ≼ Y → n *ℤ m ≼ k *ℤ l
  down_le h = cancel_le (n *ℤ m) (k *ℤ l) s hs (rw (← left, ← right) (mul_le X Y (l *ℤ m) both h))

  up_le : n *ℤ m ≼ k *ℤ l → X ≼ Y
  up_le h = cancel_le X Y (l *ℤ m) both (rw (left, right) (mul_le (n *ℤ m) (k *ℤ l) s hs h))

  down_eq : X ≡ Y → n *ℤ m ≡ k *ℤ l
  down_eq h = cancel (n *ℤ m) (k *ℤ l) s hs (sym left ∙ ap (λ z. z *ℤ (l *ℤ m)) h ∙ right)

  up_eq : n *ℤ m ≡ k *ℤ l → X ≡ Y
  up_eq h = cancel X Y (l *ℤ m) both (left ∙ ap (λ z. z *ℤ s) h ∙ sym right)

  sum : (Z : ℤ) → Z *ℤ (l *ℤ m) ≡ (n *ℤ m +ℤ k *ℤ l) *ℤ s → Z ≡ X +ℤ Y
  sum Z e =
      cancel Z (X +ℤ Y) (l *ℤ m) both
      (e ∙ ring (n ∷ m ∷ k ∷ l ∷ s ∷ []) ((v 0 ⊗ v 1 ⊕ v 2 ⊗ v 3) ⊗ v 4) (v 0 ⊗ v 1 ⊗ v 4 ⊕ v 2 ⊗ v 3 ⊗ v 4) tt
      ∙ ap₂ ◌+ℤ◌ (sym left) (sym right) ∙ ring (X ∷ Y ∷ l ∷ m ∷ []) (v 0 ⊗ (v 2 ⊗ v 3) ⊕ v 1 ⊗ (v 2 ⊗ v 3)) ((v 0 ⊕ v 1) ⊗ (v 2 ⊗ v 3)) tt)

-- ---- order, equality, sums and differences on one scale
module _ (S : ℕ) (x y : Exact) (hx : x.low ≤ S) (hy : y.low ≤ S) where
  pub le_at : x ⊑ y → at S x ≼ at S y
  le_at = up_le (at S x) (at S y) x.num y.num (two^ x.low) (two^ y.low) (two^ S) (two_positive x.low) (two_positive y.low) (two_positive S) (at_is S x hx) (at_is S y hy)

  pub at_le : at S x ≼ at S y → x ⊑ y
  at_le = down_le (at S x) (at S y) x.num y.num (two^ x.low) (two^ y.low) (two^ S) (two_positive x.low) (two_positive y.low) (two_positive S) (at_is S x hx) (at_is S y hy)

  pub same_at : x ≈ y → at S x ≡ at S y
  same_at = up_eq (at S x) (at S y) x.num y.num (two^ x.low) (two^ y.low) (two^ S) (two_positive x.low) (two_positive y.low) (two_positive S) (at_is S x hx) (at_is S y hy)

  pub at_same : at S x ≡ at S y → x ≈ y
  at_same = down_eq (at S x) (at S y) x.num y.num (two^ x.low) (two^ y.low) (two^ S) (two_positive x.low) (two_positive y.low) (two_positive S) (at_is S x hx) (at_is S y hy)

  pub at_plus : x.low + y.low ≤ S → at S (x ⊞ y) ≡ at S x +ℤ at S y
  at_plus h = sum (at S x) (at S y) x.num y.num (two^ x.low) (two^ y.low) (two^ S) (two_positive x.low) (two_positive y.low) (two_positive S) (at_is S x hx) (at_is S y hy) (at S (x ⊞ y)) (rw (← two_add x.low y.low) (at_is S (x ⊞ y) h))

at_negated : (S : ℕ) (x : Exact) → at S (negated x) ≡ neg_ℤ (at S x)
unfolding at
at_negated S x = neg_mul x.num (two^ (S - x.low))

pub at_minus : (S : ℕ) (x y : Exact) → x.low ≤ S → y.low ≤ S → x.low + y.low ≤ S → at S (x ⊟ y) ≡ at S x -ℤ at S y
at_minus S x y hx hy h = at_plus S x (negated y) hx hy h ∙ ap (λ z. at S x +ℤ z) (at_negated S y)

pub at_times : (S R : ℕ) (x y : Exact) → x.low ≤ S → y.low ≤ R → at (S + R) (x ⊠ y) ≡ at S x *ℤ at R y
unfolding at
at_times S R x y h l =
    ap (λ z. x.num *ℤ y.num *ℤ z) (ap two^ (apart S R x.low y.low h l) ∙ two_add (S - x.low) (R - y.low))
    ∙ ring (x.num ∷ y.num ∷ two^ (S - x.low) ∷ two^ (R - y.low) ∷ []) (v 0 ⊗ v 1 ⊗ (v 2 ⊗ v 3)) (v 0 ⊗ v 2 ⊗ (v 1 ⊗ v 3)) tt
  where
    apart : (S R a b : ℕ) → a ≤ S → b ≤ R → S + R - (a + b) ≡ (S - a) + (R - b)
    apart S R a b h l = omega arith

pub at_whole : (S : ℕ) (n : ℤ) (x : Exact) → at S (whole n ⊠ x) ≡ n *ℤ at S x
unfolding at
at_whole S n x = ap (λ z. n *ℤ x.num *ℤ two^ (S - z)) (zero-add x.low) ∙ mul_assoc n x.num (two^ (S - x.low))

pub at_size : (S : ℕ) (x : Exact) → at S (size x) ≡ pos (nat_abs (at S x))
unfolding at
at_size S x = ap pos (sym (abs_mul x.num (two^ (S - x.low))))

-- a finer scale
pub at_more : (S R : ℕ) (x : Exact) → x.low ≤ S → at (S + R) x ≡ at S x *ℤ two^ R
unfolding at
at_more S R x h = ap (λ z. x.num *ℤ z) (ap two^ (out S R x.low h) ∙ two_add (S - x.low) R) ∙ sym (mul_assoc x.num (two^ (S - x.low)) (two^ R))
  where
    out : (S R l : ℕ) → l ≤ S → S + R - l ≡ (S - l) + R
    out S R l h = omega arith

-- a whole number of units
abbrev pub on : ℕ → ℤ → Exact
on S n = record { num = n; low = S }

pub at_on : (S : ℕ) (n : ℤ) → at S (on S n) ≡ n
unfolding at
at_on S n = ap (λ z. n *ℤ two^ z) (none S) ∙ one n
  where
    one : (n : ℤ) → n *ℤ pos 1 ≡ n
    one n = omega (arith, ints)

    none : (S : ℕ) → S - S ≡ 0
    none S = omega arith

-- ---- equal values: sums, and the other sign
pub plus_like : (x y a b : Exact) → x ≈ a → y ≈ b → x ⊞ y ≈ a ⊞ b
plus_like x y a b h k =
    let S = x.low + y.low + a.low + b.low in
    at_same S (x ⊞ y) (a ⊞ b) (omega arith) (omega arith)
    (at_plus S x y (omega arith) (omega arith) (omega arith) ∙ ap₂ ◌+ℤ◌ (same_at S x a (omega arith) (omega arith) h) (same_at S y b (omega arith) (omega arith) k) ∙ sym (at_plus S a b (omega arith) (omega arith) (omega arith)))

pub plus_comm : (x y : Exact) → x ⊞ y ≈ y ⊞ x
plus_comm x y =
    let S = x.low + y.low in
    at_same S (x ⊞ y) (y ⊞ x) (omega arith) (omega arith)
    (at_plus S x y (omega arith) (omega arith) (omega arith) ∙ swap (at S x) (at S y) ∙ sym (at_plus S y x (omega arith) (omega arith) (omega arith)))
  where
    swap : (a b : ℤ) → a +ℤ b ≡ b +ℤ a
    swap a b = omega (arith, ints)

pub negated_like : (x a : Exact) → x ≈ a → negated x ≈ negated a
negated_like x a h = neg_mul x.num (two^ a.low) ∙ ap neg_ℤ h ∙ sym (neg_mul a.num (two^ x.low))

pub same_trans : (x y z : Exact) → x ≈ y → y ≈ z → x ≈ z
same_trans x y z h l =
    let S = x.low + y.low + z.low in
    at_same S x z (omega arith) (omega arith) (same_at S x y (omega arith) (omega arith) h ∙ same_at S y z (omega arith) (omega arith) l)

-- ---- distances: that of x from t, in units of 2 ^ −S, on twice the scale
gap : (S : ℕ) (x t : Exact) → x.low ≤ S → t.low ≤ S → at (S + S) (size (x ⊟ t)) ≡ pos (nat_abs (at S x -ℤ at S t) * 2 ^ S)
gap S x t hx ht =
    at_size (S + S) (x ⊟ t)
    ∙ ap (λ z. pos (nat_abs z)) (at_minus (S + S) x t (omega arith) (omega arith) (omega arith) ∙ ap₂ ◌-ℤ◌ (at_more S S x hx) (at_more S S t ht) ∙ ring (at S x ∷ at S t ∷ two^ S ∷ []) (v 0 ⊗ v 2 ⊖ v 1 ⊗ v 2) ((v 0 ⊖ v 1) ⊗ v 2) tt)
    ∙ ap pos (abs_mul (at S x -ℤ at S t) (two^ S))

module _ (S : ℕ) (x y t : Exact) (hx : x.low ≤ S) (hy : y.low ≤ S) (ht : t.low ≤ S) where
  pub nearer_at : size (y ⊟ t) ⊑ size (x ⊟ t) → nat_abs (at S y -ℤ at S t) ≤ nat_abs (at S x -ℤ at S t)
  nearer_at h =
      let g : at (S + S) (size (y ⊟ t)) ≼ at (S + S) (size (x ⊟ t)) = le_at (S + S) (size (y ⊟ t)) (size (x ⊟ t)) (omega arith) (omega arith) h in
      let g' : pos (nat_abs (at S y -ℤ at S t) * 2 ^ S) ≼ pos (nat_abs (at S x -ℤ at S t) * 2 ^ S) = rw (← gap S y t hy ht, ← gap S x t hx ht) g in
      le_of_mul-le-mul_right (omega (arith, ints)) (pow_pos S)

  pub at_nearer : nat_abs (at S y -ℤ at S t) ≤ nat_abs (at S x -ℤ at S t) → size (y ⊟ t) ⊑ size (x ⊟ t)
  at_nearer h = at_le (S + S) (size (y ⊟ t)) (size (x ⊟ t)) (omega arith) (omega arith) (rw (gap S y t hy ht, gap S x t hx ht) (omega (arith, ints, mul-le-mul_right (2 ^ S) h)))
