-- What stands behind the records that are read makes no difference.
use Rattle.std.proofs.Common.{◌≡◌, ℕ, zero, suc, ◌+◌, ◌<◌, ◌≤◌, Bool, true, cond, ◌⊎◌, List, [], ◌∷◌, ◌++◌, length, drop, is_err, Ok, Err, sym, refl, ap, ◌∙◌, subst, le_of_eq, le_of_suc-le-suc, not-suc-le-zero, arith, length-append, length-drop}
use native.Mathlib.Nat.{le_intro}
use Rattle.std.proofs.lemmas.List.{drop-append-le, nil_from_length}
use Rattle.std.proofs.lemmas.List.Sums.{sum_by-cons}
use Rattle.arith.specs.Sequence.{and_then}
use Rattle.records.specs.Asked.{opening}
use Rattle.records.specs.Frames.{Framed, front}
use Rattle.records.specs.declared.fault.RecordFault.{RecordFault}
use Rattle.records.specs.declared.fault.RecordFault.TheVariants.{MissingPart}
use Rattle.run.specs.Turns.{bytes_of}
use Rattle.tape.specs.Printed.{printed}
use Rattle.tape.specs.Reading.{Read, is_last, records_of, read_of, bytes_in, all_whole}
use Rattle.tape.proofs.Fronts.{only_missing, drop_shorter, front_kept}
use Rattle.tape.proofs.Told.{told_whole, printed_told}

-- the bytes a are those of the records, and y may stand behind a
record Passed (a y : List ℕ) (rs : List Read) : Type 0 where
  bytes : length a ≡ bytes_in rs
  ends : (all_whole rs ≡ true) ⊎ (front y ≡ Err MissingPart)

passed_on : (a y : List ℕ) (r : Framed) (rs : List Read) → Passed a y (Ok r ∷ rs) → Passed (drop (4 + length r.payload) a) y rs
passed_on a y r rs p = record {
  bytes = omega (arith, length-drop (4 + length r.payload) a, p.bytes, sum_by-cons bytes_of (Ok r) rs);
  ends = p.ends;
}

-- the records of bs from r on, which is at the front: r alone if it is the last, or else at most i more
abbrev records_from : (Read → Bool) → ℕ → List ℕ → Read → List Read
records_from last i bs r = r ∷ cond (last r) [] (records_of i (drop (bytes_of r) bs))

-- behind a, which is passed over, y stands in place of x
module _ (x y : List ℕ) where
  -- with at most i and j records in the two cases
  abbrev Same : ℕ → ℕ → Type 0
  Same i j =
      (a : List ℕ) → length a + length x < i → length a + length y < j
      → Passed a y (records_of i (a ++ x)) → records_of j (a ++ y) ≡ records_of i (a ++ x)

  module _ (i j : ℕ) (same : Same i j) (a : List ℕ) (hx : length a + length x ≤ i) (hy : length a + length y ≤ j) where
    rest_same : (last : Bool) (s : ℕ) → 4 + s ≤ length a
        → Passed (drop (4 + s) a) y (cond last [] (records_of i (drop (4 + s) (a ++ x))))
        → cond last [] (records_of j (drop (4 + s) (a ++ y))) ≡ cond last [] (records_of i (drop (4 + s) (a ++ x)))
    rest_same last s h p =
        grind (arith, drop-append-le (4 + s) a x h, drop-append-le (4 + s) a y h, drop_shorter s a h, same (drop (4 + s) a))

    -- where a part is missing, the record is the last by any test
    module _ (last : Read → Bool) (missing-last : (e : RecordFault) → last (Err e) ≡ true) where
      from_same : (r : Read) → front (a ++ x) ≡ r → Passed a y (records_from last i (a ++ x) r)
          → records_from last j (a ++ y) (front (a ++ y)) ≡ records_from last i (a ++ x) r
      from_same (Ok r) q p =
          let h = le_intro (4 + length r.payload) _ (sym (p.bytes ∙ sum_by-cons bytes_of (Ok r) (cond (last (Ok r)) [] (records_of i (drop (4 + length r.payload) (a ++ x)))))) in
          ap (records_from last j (a ++ y)) (front_kept a x y r q h)
          ∙ ap (λ rs. Ok r ∷ rs) (rest_same (last (Ok r)) (length r.payload) h (passed_on a y r _ p))
      from_same (Err e) q p =
          let bytes = p.bytes ∙ ap (λ b. bytes_in (Err e ∷ cond b [] (records_of i (a ++ x)))) (missing-last e) in
          let none : a ≡ [] = nil_from_length a bytes in
          let only = only_missing (a ++ x) e q in
          let missing : front (a ++ y) ≡ Err e = grind arith in
          ap (records_from last j (a ++ y)) missing ∙ rw (missing-last e)

  records_same : (i j : ℕ) → Same i j
  records_same zero j a hx hy p = absurd (not-suc-le-zero hx)
  records_same (suc i) zero a hx hy p = absurd (not-suc-le-zero hy)
  records_same (suc i) (suc j) a hx hy p =
      from_same i j (records_same i j) a (le_of_suc-le-suc hx) (le_of_suc-le-suc hy) is_last (λ e. refl) (front (a ++ x)) refl p

-- a run whose first record does not open it has no other
abbrev not_opening : Read → Bool
not_opening r = is_err (and_then r opening)

read_from : (t : List ℕ) → read_of t ≡ records_from not_opening (length t) t (front t)
read_from t = grind arith

read_same : (a x y : List ℕ) → Passed a y (read_of (a ++ x)) → read_of (a ++ y) ≡ read_of (a ++ x)
read_same a x y p =
    let i = length (a ++ x) in
    let j = length (a ++ y) in
    let hx = le_of_eq (sym (length-append a x)) in
    let hy = le_of_eq (sym (length-append a y)) in
    let q = subst (Passed a y) (read_from (a ++ x)) p in
    read_from (a ++ y)
    ∙ from_same x y i j (records_same x y i j) a hx hy not_opening (λ e. refl) (front (a ++ x)) refl q
    ∙ sym (read_from (a ++ x))

pub nothing_behind : (t a x y : List ℕ) → t ≡ a ++ x → length a ≡ bytes_in (read_of t)
    → length t ≤ 65536 → length (a ++ y) ≤ 65536
    → (all_whole (read_of t) ≡ true) ⊎ (front y ≡ Err MissingPart)
    → printed (a ++ y) ≡ printed t
nothing_behind t a x y is bytes h g ends =
    let p = subst (λ z. Passed a y (read_of z)) is (record { bytes = bytes; ends = ends }) in
    printed_told (a ++ y) g ∙ ap told_whole (read_same a x y p ∙ sym (ap read_of is)) ∙ sym (printed_told t h)
