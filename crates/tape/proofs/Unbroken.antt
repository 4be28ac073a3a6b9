-- Texts that no byte breaks: numbers, and the text of a note.
use Rattle.std.proofs.Common.{◌≡◌, ℕ, zero, suc, ◌/◌, ◌%◌, ◌≤◌, Bool, true, false, List, [], ◌∷◌, ◌++◌, decimal, refl, arith}
use Rattle.std.specs.Fmt.{digits, digits_onto, digit_glyph}
use Rattle.std.proofs.lemmas.List.Folds.{list_all-append}
use Rattle.records.specs.Bytes.{printable}
use Rattle.run.specs.Text.{hexadecimal}
use Rattle.tape.specs.Reading.{unbroken}

pub unbroken_append : (xs ys : List ℕ) → unbroken xs ≡ true → unbroken ys ≡ true → unbroken (xs ++ ys) ≡ true
unbroken_append xs ys p q = grind (arith, list_all-append)

pub unbroken_printable : (bs : List ℕ) → printable bs ≡ true → unbroken bs ≡ true
unbroken_printable [] e = refl
unbroken_printable (b ∷ bs) e = grind (arith, unbroken_printable bs)

-- a digit, with letters of either case
glyph_high : (upper : Bool) (d : ℕ) → 32 ≤ digit_glyph upper d
glyph_high upper d = grind arith

unbroken_spelled : (k n : ℕ) (acc : List ℕ) → unbroken acc ≡ true → unbroken (digits_onto k 10 false n acc) ≡ true
unbroken_spelled zero n acc p = p
unbroken_spelled (suc k) n acc p =
    grind (arith, glyph_high false (n % 10), unbroken_spelled k (n / 10) (digit_glyph false (n % 10) ∷ acc))

pub unbroken_decimal : (n : ℕ) → unbroken (decimal n) ≡ true
unfolding digits
unbroken_decimal n = unbroken_spelled 64 n [] refl

pub unbroken_hexadecimal : (w n : ℕ) → unbroken (hexadecimal w n) ≡ true
unbroken_hexadecimal zero n = refl
unbroken_hexadecimal (suc w) n = grind (arith, unbroken_append, glyph_high true (n % 16), unbroken_hexadecimal w (n / 16))
