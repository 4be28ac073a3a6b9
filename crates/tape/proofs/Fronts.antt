-- The record at the front of some bytes, whatever stands behind it.
use Rattle.std.proofs.Common.{◌≡◌, ℕ, ◌+◌, ◌<◌, ◌≤◌, true, List, ◌++◌, length, drop, is_ok, Ok, Err, arith, length-drop}
use Rattle.std.proofs.lemmas.Bool.Decides.{nat_tests}
use Rattle.std.proofs.lemmas.Grind.{common_steps}
use Rattle.arith.specs.Sequence.{and_then}
use Rattle.records.specs.Asked.{opening}
use Rattle.records.specs.Frames.{Framed, front}
use Rattle.records.specs.declared.codes.Codes.{Codes}
use Rattle.records.specs.declared.fault.RecordFault.{RecordFault}
use Rattle.records.specs.declared.fault.RecordFault.TheVariants.{MissingPart}
use Rattle.run.specs.Turns.{bytes_of}
use Rattle.tape.specs.Reading.{Read}

-- a record that is not whole has only one refusal
pub only_missing : (bs : List ℕ) (e : RecordFault) → front bs ≡ Err e → e ≡ MissingPart
only_missing bs e q = grind arith

-- a whole record is the same, whatever stands behind its bytes
pub front_kept : (a x y : List ℕ) (r : Framed) → front (a ++ x) ≡ Ok r → 4 + length r.payload ≤ length a → front (a ++ y) ≡ Ok r
front_kept a x y r q h = grind (arith, nat_tests, common_steps)

-- fewer bytes are left behind a record
pub drop_shorter : (s : ℕ) (bs : List ℕ) → 4 + s ≤ length bs → length (drop (4 + s) bs) < length bs
drop_shorter s bs h = omega (arith, length-drop (4 + s) bs)

pub whole_shorter : (bs : List ℕ) (r : Read) → front bs ≡ r → is_ok r ≡ true → length (drop (bytes_of r) bs) < length bs
whole_shorter bs r q e = grind (arith, nat_tests, common_steps)

-- a record that opens a run is whole
pub whole_if_opening : (r : Read) (c : Codes) → and_then r opening ≡ Ok c → is_ok r ≡ true
whole_if_opening r c e = grind arith
