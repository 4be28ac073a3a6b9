-- A number by three digits: the lowest is below a, the middle one below b, and the highest counts the products h = b · a.
use Rattle.std.proofs.Common.{◌≡◌, ℕ, ◌+◌, ◌*◌, ◌/◌, ◌%◌, ◌<◌, sym, ap, ◌∙◌, subst, div-add-mod', arith}
use lib.Arith.{mod-mul, digits_lt, digits_div, digits_mod}

-- the digits of n make up n
pub from_digits : {a b h : ℕ} (n : ℕ) → h ≡ b * a → 0 < a → 0 < b → n / h * h + (n / a % b * a + n % a) ≡ n
from_digits {a} {b} {h} n product ha hb = ap (λ k. n / h * h + k) (sym (ap (λ k. n % k) product ∙ mod-mul n hb ha)) ∙ div-add-mod' n h

-- the digits of a number that is made up of s, q and t
module _ {a b h q t : ℕ} (product : h ≡ b * a) (hq : q < b) (ht : t < a) where
  pub two_lower : q * a + t < h
  two_lower = subst (λ k. q * a + t < k) (sym product) (digits_lt hq ht)

  pub highest : (s : ℕ) → (s * h + (q * a + t)) / h ≡ s
  highest s = digits_div s two_lower

  two_upper : (s : ℕ) → s * h + (q * a + t) ≡ (s * b + q) * a + t
  two_upper s = ap (λ k. s * k + (q * a + t)) product ∙ grouped s q t a b
    where
      grouped : (s q t a b : ℕ) → s * (b * a) + (q * a + t) ≡ (s * b + q) * a + t
      grouped s q t a b = omega arith

  pub middle : (s : ℕ) → (s * h + (q * a + t)) / a % b ≡ q
  middle s = ap (λ k. k % b) (ap (λ k. k / a) (two_upper s) ∙ digits_div (s * b + q) ht) ∙ digits_mod s hq

  pub lowest : (s : ℕ) → (s * h + (q * a + t)) % a ≡ t
  lowest s = ap (λ k. k % a) (two_upper s) ∙ digits_mod (s * b + q) ht
