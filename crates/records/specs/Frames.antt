-- A record as it lies on the tape: four leading bytes, and then its payload.
use Rattle.std.specs.Prelude.{◌≡◌, ℕ, ◌+◌, ◌*◌, cond, List, length, take, drop, Ok, Err, Result, nat_lt, slice_index}
use Rattle.std.specs.Borrow.{Bor}
use Rattle.records.specs.declared.fault.RecordFault.{RecordFault}
use Rattle.records.specs.declared.fault.RecordFault.TheVariants.{MissingPart}
use Rattle.records.specs.declared.frame.Frame.{Frame}

-- the code of the kind, and the payload's bytes
pub record Framed : Type 0 where
  pub kind : ℕ
  pub payload : List ℕ

abbrev pub frame : ℕ → List ℕ → Framed
frame k p = record { kind = k; payload = p }

-- the 16-bit number at a place, its low byte first
abbrev pub word16 : List ℕ → ℕ → ℕ
word16 bs i = slice_index bs i + 256 * slice_index bs (i + 1)

-- a part of some bytes that were lent, and no copy: so many of them, from a place on
pub record Part (whole part : Bor (List ℕ)) (from size : ℕ) : Type 0 where
  pub bytes : part.now ≡ take size (drop from whole.now)
  pub block : part.ref_ptr.0 ≡ whole.ref_ptr.0
  pub offset : part.ref_ptr.1 ≡ whole.ref_ptr.1 + from

-- The record at the front of some bytes: the payload's length and the kind, 16 bits each, and then the payload.
-- Where not all of these bytes are there, it is refused.
abbrev pub front : List ℕ → Result Framed RecordFault
front bs = cond (nat_lt (length bs) (4 + word16 bs 0)) (Err MissingPart) (Ok (frame (word16 bs 2) (take (word16 bs 0) (drop 4 bs))))

-- what the code's frame stands for
abbrev pub contents : Frame → Framed
contents f = frame f.kind f.payload.now

-- the same for an answer that may be a refusal
abbrev pub framed : Result Frame RecordFault → Result Framed RecordFault
framed (Ok f) = Ok (contents f)
framed (Err e) = Err e
