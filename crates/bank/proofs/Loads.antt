-- What a load leaves in its place is shown again.
use Rattle.std.proofs.Common.{◌≡◌, ℕ, ◌<◌, Bool, true, false, cond, ltb, List, length, get_or, set, IfOk, Ok, Err, Result, sym, refl, ap, ◌∙◌, subst, ap₂, get_or-set_same}
use Rattle.std.specs.Result.{result_map_both}
use Rattle.exact.specs.Parts.{Parts}
use Rattle.arith.specs.Pattern.{decoded, encoded, plain_zero}
use Rattle.arith.specs.Sequence.{and_then}
use Rattle.arith.specs.Format.{Sound}
use Rattle.arith.specs.declared.format.Format.{Format}
use Rattle.arith.specs.declared.pattern.PatternFault.{PatternFault}
use Rattle.arith.proofs.Accepted.{accepted}
use Rattle.arith.proofs.Patterns as numbers
use Rattle.bank.specs.Slots.{Slot, empty, filled}
use Rattle.arith.specs.Complex.{complex}
use Rattle.bank.specs.Calls.{loaded, told, written, shown_of, shown, patterns}
use Rattle.bank.specs.declared.fault.Fault.{Fault}
use Rattle.bank.specs.declared.fault.Fault.TheVariants.{NoSuchPlace, Pattern}
use Rattle.bank.specs.declared.store.Shown.{Shown}

module _ (f : Format) (s : Sound f) where
  encoded_again : (n : ℕ) (x : Parts) → decoded f n ≡ Ok x → encoded f x ≡ plain_zero f n
  encoded_again n x e = numbers.shown f s n x (accepted f n x e)

  -- an accepted load is one of a place that is there, and puts a slot into it that shows the two patterns
  pub loaded_shows : (d m n : ℕ) → IfOk (loaded f d m n) (λ t. (ltb 15 d ≡ false) × (shown_of f t ≡ Ok (patterns (plain_zero f m) (plain_zero f n) 0)))
  loaded_shows d m n = by_answers (ltb 15 d) (decoded f m) (decoded f n) refl refl
    where
      by_answers : (b : Bool) (x y : Result Parts PatternFault) → decoded f m ≡ x → decoded f n ≡ y → IfOk (cond b (Err NoSuchPlace) (and_then (result_map_both (λ v. v) Pattern x) (λ re. and_then (result_map_both (λ v. v) Pattern y) (λ im. Ok (filled (complex re im) 0))))) (λ t. (b ≡ false) × (shown_of f t ≡ Ok (patterns (plain_zero f m) (plain_zero f n) 0)))
      by_answers true x y ex ey = tt
      by_answers false (Err e) y ex ey = tt
      by_answers false (Ok re) (Err e) ex ey = tt
      by_answers false (Ok re) (Ok im) ex ey = (refl, ap₂ (λ a b. Ok (patterns a b 0)) (encoded_again m re ex) (encoded_again n im ey))

  -- a slot that is written into a place is shown there
  written_shown : (ps : List Slot) (d : ℕ) (r : Result Slot Fault) (v : Shown) → IfOk (told r) (λ _. d < length ps) → IfOk r (λ t. (ltb 15 d ≡ false) × (shown_of f t ≡ Ok v)) → IfOk (told r) (λ _. shown f (written ps d r) d ≡ Ok v)
  written_shown ps d (Ok t) v there k =
      let held : get_or (set ps d t) d empty ≡ t = rw get_or-set_same in
      ap (λ b. cond b (Err NoSuchPlace) (shown_of f (get_or (set ps d t) d empty))) k.0 ∙ ap (shown_of f) held ∙ k.1
  written_shown ps d (Err e) v there k = tt

  pub shown_again : (ps qs : List Slot) (d m n : ℕ) (a : Result (Unit {0}) Fault) → a ≡ told (loaded f d m n) → qs ≡ written ps d (loaded f d m n) → IfOk a (λ _. d < length ps) → IfOk a (λ _. shown f qs d ≡ Ok (patterns (plain_zero f m) (plain_zero f n) 0))
  shown_again ps qs d m n a ea eq there =
      let v = patterns (plain_zero f m) (plain_zero f n) 0 in
      subst (λ (l : List Slot). IfOk a (λ _. shown f l d ≡ Ok v)) (sym eq)
      (subst (λ (b : Result (Unit {0}) Fault). IfOk b (λ _. shown f (written ps d (loaded f d m n)) d ≡ Ok v)) (sym ea)
      (written_shown ps d (loaded f d m n) v (subst (λ (b : Result (Unit {0}) Fault). IfOk b (λ _. d < length ps)) ea there) (loaded_shows d m n)))
