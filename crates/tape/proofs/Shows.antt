-- What a show answers after some records, on a bank that was new before them: the patterns that its place was last loaded with.
use Rattle.std.proofs.Common.{◌≡◌, ℕ, ◌<◌, cond, ◌&&◌, eqb, List, [], ◌∷◌, length, get_or, is_ok, IfOk, Some, None, Ok, Err, Option, Result, ap, arith, get_or-set_other, get_or-set_same, lt-length-set}
use lib.ListN.{get_or-replicate}
use Rattle.std.proofs.lemmas.Bool.Decides.{nat_tests}
use Rattle.std.proofs.lemmas.Result.{IfOk-weaker}
use Rattle.arith.specs.Sequence.{and_then}
use Rattle.arith.specs.Format.{Sound}
use Rattle.arith.specs.declared.format.Format.{Format}
use Rattle.bank.proofs.Loads.{loaded_shows}
use Rattle.bank.specs.Calls.{loaded, written, shown_of, shown}
use Rattle.bank.specs.Slots.{Slot, empty, fresh}
use Rattle.bank.specs.declared.fault.Fault.{Fault}
use Rattle.records.specs.Asked.{Asked, load, show, note, end, asked}
use Rattle.records.specs.declared.fault.RecordFault.{RecordFault}
use Rattle.run.specs.Turns.{places_if}
use Rattle.tape.specs.Reading.{Read, PatternPair, load_asked, later, last_load, loaded_shown, shown_last}
use Rattle.tape.proofs.After.{places_after}

module _ (f : Format) (s : Sound f) where
  -- a slot that shows the patterns m and n, as they are shown after a load
  abbrev Shows : ℕ → ℕ → Slot → Type 0
  Shows m n t = shown_of f t ≡ loaded_shown f (Some (record { re = m; im = n }))

  shows : (p m n : ℕ) → IfOk (loaded f p m n) (Shows m n)
  shows p m n = IfOk-weaker (loaded f p m n) _ _ (λ t h. h.1) (loaded_shows f s p m n)

  module _ (d : ℕ) where
    -- ---- the place d is there, and what it holds is shown as the last load of it, if there is one
    record Agrees (ps : List Slot) (l : Option PatternPair) : Type 0 where
      there : d < length ps
      same : shown_of f (get_or ps d empty) ≡ loaded_shown f l

    at_first : d < 16 → Agrees fresh None
    at_first h = record { there = h; same = ap (shown_of f) (get_or-replicate 16 d empty empty h) }

    -- a load of the place p, with what comes of it
    after_load : {ps : List Slot} {l : Option PatternPair} (p m n : ℕ) (r : Result Slot Fault) → IfOk r (Shows m n) → Agrees ps l → Agrees (written ps p r) (later l (cond (eqb p d && is_ok r) (Some (record { re = m; im = n })) None))
    after_load {ps} p m n (Ok t) k h = record { there = lt-length-set ps p t h.there; same = grind (arith, get_or-set_same, get_or-set_other) }
    after_load p m n (Err e) k h = record { there = h.there; same = grind arith }

    after_record : {ps : List Slot} {l : Option PatternPair} (a : Result Asked RecordFault) → Agrees ps l → Agrees (places_if f ps a) (later l (load_asked f d a))
    after_record (Ok (load p m n)) h = after_load p m n (loaded f p m n) (shows p m n) h
    after_record (Ok (show p)) h = h
    after_record (Ok (note t)) h = h
    after_record (Ok end) h = h
    after_record (Err e) h = h

    after_records : (rs : List Read) {ps : List Slot} {l : Option PatternPair} → Agrees ps l → Agrees (places_after f ps rs) (last_load f d l rs)
    after_records [] h = h
    after_records (r ∷ rs) h = after_records rs (after_record (and_then r (asked f)) h)

pub shown_last_lem : (f : Format) → Sound f → (rs : List Read) (d : ℕ) → shown f (places_after f fresh rs) d ≡ shown_last f d (last_load f d None rs)
shown_last_lem f s rs d =
    let known = λ (h : d < 16). (after_records f s d rs (at_first f s d h)).same in
    grind (arith, nat_tests, known)
