-- What follows from nearness alone, among the whole numbers of one scale. Midway either neighbour may have been taken.
use Rattle.std.proofs.Common.{◌≡◌, ℕ, suc, ◌+◌, ◌*◌, ◌/◌, ◌%◌, ◌^◌, ◌<◌, ◌≤◌, ℤ, ◌-ℤ◌, neg_ℤ, nat_abs, le_refl, mul-le-mul_right, mod-lt, mul-le-mul_left, pow-suc, div-add-mod', arith, pow_pos}
use native.Mathlib.Decide.{dec_le}
use borrow.Author.Differences.{ints}
use Rattle.exact.proofs.Order.{◌≼◌}
use Rattle.exact.proofs.Signs.{dist, abs_signed, signed_dist, signed_mul}
use Rattle.exact.proofs.Digits.{binade}
use Rattle.exact.proofs.Precision.{WholePrecision, multiple_precise, neg_precise}
use Rattle.exact.specs.Exact.{signed_by, is_negative}

-- r has precision p, and none is nearer to t
pub record NearestWhole (p : ℕ) (t r : ℤ) : Type 0 where
  pub precise : WholePrecision p r
  pub near : (x : ℤ) → WholePrecision p x → nat_abs (r -ℤ t) ≤ nat_abs (x -ℤ t)

-- a number of precision p is answered as itself
pub kept : (p : ℕ) {t r : ℤ} → WholePrecision p t → NearestWhole p t r → r ≡ t
kept p {t} {r} h n = let l = n.near t h in omega (arith, ints)

-- what is not below a number of precision p is not rounded below it
pub not_below : (p : ℕ) (a : ℤ) {t r : ℤ} → WholePrecision p a → NearestWhole p t r → a ≼ t → a ≼ r
not_below p a {t} {r} h n l = let d = n.near a h in omega (arith, ints)

-- the mirror image
pub mirror : (p : ℕ) {t r : ℤ} → NearestWhole p t r → NearestWhole p (neg_ℤ t) (neg_ℤ r)
mirror p {t} {r} n = record { precise = neg_precise p n.precise; near = λ x h. let l = n.near (neg_ℤ x) (neg_precise p h) in omega (arith, ints) }

-- c · 2 ^ i with the sign of t, for c at most 2 ^ p, is no nearer
pub candidate : (p i c : ℕ) {t r : ℤ} → 0 < p → NearestWhole p t r → c ≤ 2 ^ p → nat_abs (r -ℤ t) ≤ dist (c * 2 ^ i) (nat_abs t)
candidate p i c {t} {r} hp n l =
    let s = is_negative t in
    rw (← signed_dist t (c * 2 ^ i)) (n.near (signed_by s (c * 2 ^ i)) (multiple_precise p i hp (signed_by s c, signed_mul s c (2 ^ i)) (rw (abs_signed s (c * 2 ^ i)) (mul-le-mul_right (2 ^ i) l))))

-- so what is at least, or at most, of that size stays so
pub reaches : (p i c : ℕ) {t r : ℤ} → 0 < p → NearestWhole p t r → c ≤ 2 ^ p → c * 2 ^ i ≤ nat_abs t → c * 2 ^ i ≤ nat_abs r
reaches p i c {t} {r} hp n l h = let d = candidate p i c hp n l in omega (arith, ints)

pub stays : (p i c : ℕ) {t r : ℤ} → 0 < p → NearestWhole p t r → c ≤ 2 ^ p → nat_abs t ≤ c * 2 ^ i → nat_abs r ≤ c * 2 ^ i
stays p i c {t} {r} hp n l h = let d = candidate p i c hp n l in omega (arith, ints)

-- half of the spacing: t of size at most 2 ^ p · 2 ^ i
pub half_spacing : (p i : ℕ) {t r : ℤ} → 0 < p → NearestWhole p t r → nat_abs t ≤ 2 ^ p * 2 ^ i → 2 * nat_abs (r -ℤ t) ≤ 2 ^ i
half_spacing p i {t} {r} hp n h = go (dec_le (suc (nat_abs t / 2 ^ i)) (2 ^ p))
  where
    split : nat_abs t / 2 ^ i * 2 ^ i + nat_abs t % 2 ^ i ≡ nat_abs t
    split = div-add-mod' (nat_abs t) (2 ^ i)

    rest : nat_abs t % 2 ^ i < 2 ^ i
    rest = mod-lt (nat_abs t) (pow_pos i)

    go : Dec (suc (nat_abs t / 2 ^ i) ≤ 2 ^ p) → 2 * nat_abs (r -ℤ t) ≤ 2 ^ i
    go (yes l) = omega (arith, candidate p i (nat_abs t / 2 ^ i) hp n (omega arith), candidate p i (suc (nat_abs t / 2 ^ i)) hp n l, split, rest)
    go (no b) =
        let u : 2 ^ p ≤ nat_abs t / 2 ^ i = omega arith in
        omega (arith, candidate p i (2 ^ p) hp n (le_refl (2 ^ p)), split, mul-le-mul_right (2 ^ i) u)

-- the refined bound: the error is at most one part in 2 ^ p + 1 of t
pub refined : (p : ℕ) {t r : ℤ} → 0 < p → NearestWhole p t r → (2 ^ p + 1) * nat_abs (r -ℤ t) ≤ nat_abs t
refined p {t} {r} hp n = go (dec_le (2 ^ p) (nat_abs t))
  where
    within : (P W e T : ℕ) → P * W ≤ T → 2 * e ≤ W * 2 → e ≤ dist (P * W) T → (P + 1) * e ≤ T
    within P W e T lo half bottom = let m : P * e ≤ P * W = mul-le-mul_left P (omega arith) in omega arith

    go : Dec (2 ^ p ≤ nat_abs t) → (2 ^ p + 1) * nat_abs (r -ℤ t) ≤ nat_abs t
    go (yes h) =
        let (j, lo, hi) = binade p (nat_abs t) h in
        let half : 2 * nat_abs (r -ℤ t) ≤ 2 ^ suc j = half_spacing p (suc j) hp n (rw (pow-suc 2 j) (omega arith)) in
        within (2 ^ p) (2 ^ j) (nat_abs (r -ℤ t)) (nat_abs t) lo (rw (pow-suc 2 j) at half) (candidate p j (2 ^ p) hp n (le_refl (2 ^ p)))
    go (no b) =
        let e : r ≡ t = kept p (t, 0, omega arith, omega (arith, ints)) n in
        let z : nat_abs (r -ℤ t) ≡ 0 = omega (arith, ints) in
        rw z (omega arith)
