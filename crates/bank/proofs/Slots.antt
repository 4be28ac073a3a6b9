-- The contents of a list of places under a write and a read.
use Rattle.std.proofs.Common.{◌≡◌, ℕ, zero, suc, ◌<◌, List, [], ◌∷◌, length, Option, get_or, set, refl, ap, arith}
use Rattle.bank.specs.Slots.{empty}
use Rattle.bank.specs.Views.{slot, slots}
use Rattle.arith.specs.declared.format.NamedFormat.{Ghosts}
use Rattle.bank.specs.declared.place.Held.{Held}

pub slots_set : {F : Type 0} {g : Ghosts F} (ps : List (Option (Held F g))) (d : ℕ) (p : Option (Held F g)) → slots (set ps d p) ≡ set (slots ps) d (slot p)
slots_set [] d p = refl
slots_set (q ∷ ps) zero p = refl
slots_set (q ∷ ps) (suc d) p = ap (λ xs. slot q ∷ xs) (slots_set ps d p)

-- a read within the list, at any default
pub slots_get : {F : Type 0} {g : Ghosts F} (ps : List (Option (Held F g))) (i : ℕ) (d : Option (Held F g)) → i < length ps → slot (get_or ps i d) ≡ get_or (slots ps) i empty
slots_get [] i d h = absurd (omega arith)
slots_get (q ∷ ps) zero d h = refl
slots_get (q ∷ ps) (suc i) d h = slots_get ps i d (omega arith)

pub slots_length : {F : Type 0} {g : Ghosts F} (ps : List (Option (Held F g))) → length (slots ps) ≡ length ps
slots_length [] = refl
slots_length (q ∷ ps) = ap suc (slots_length ps)
