-- An opened run is read to its last record.
use Rattle.std.proofs.Common.{◌≡◌, ℕ, zero, suc, ◌<◌, Bool, true, false, cond, List, [], ◌∷◌, length, is_ok, Result, refl, not-suc-le-zero, arith}
use Rattle.records.specs.Frames.{front}
use Rattle.records.specs.declared.codes.Codes.{Codes}
use Rattle.records.specs.declared.fault.RecordFault.{RecordFault}
use Rattle.run.specs.States.{first}
use Rattle.tape.specs.Reading.{Read, is_last, records_of, Finished, ReadOut}
use Rattle.tape.proofs.Fronts.{whole_shorter, whole_if_opening}

-- a record that is not the last is whole
whole_if_not_last : (r : Read) → is_last r ≡ false → is_ok r ≡ true
whole_if_not_last r e = grind arith

finished_more : (r : Read) (rs : List Read) → Finished rs → Finished (r ∷ rs)
finished_more r rs h = grind arith

finished_if : (r : Read) (last : Bool) (rs : List Read) → is_last r ≡ last → (last ≡ false → Finished rs) → Finished (r ∷ cond last [] rs)
finished_if r last rs e h = grind (arith, finished_more)

records_finished : (i : ℕ) (bs : List ℕ) → length bs < i → Finished (records_of i bs)
records_finished zero bs h = absurd (not-suc-le-zero h)
records_finished (suc i) bs h =
    finished_if (front bs) (is_last (front bs)) _ refl
    (λ e. records_finished i _ (grind (arith, whole_shorter bs (front bs) refl, whole_if_not_last (front bs) e)))

pub read_out : (t : List ℕ) (r : Result Codes RecordFault) → first t ≡ r → ReadOut t r
read_out t r e = grind (arith, records_finished, whole_shorter, whole_if_opening)
