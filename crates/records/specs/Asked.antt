-- What a whole record asks for, or why it is refused: its kind is judged first, then its order, its length, and its payload.
use Rattle.std.specs.Prelude.{◌≡◌, ℕ, ◌+◌, ◌≤◌, Bool, true, cond, List, length, take, drop, Ok, Err, Result, ◌==◌, slice_index}
use Rattle.std.specs.Borrow.{Bor}
use Rattle.arith.specs.Sequence.{and_then}
use Rattle.arith.specs.declared.format.Format.{Format}
use Rattle.records.specs.Bytes.{little_endian, printable}
use Rattle.records.specs.Codes.{format_by, method_by}
use Rattle.records.specs.Frames.{Framed, Part}
use Rattle.records.specs.Kinds.{kind_of, pattern_bytes, open_bytes, right_length}
use Rattle.records.specs.declared.codes.Codes.{Codes}
use Rattle.records.specs.declared.codes.FormatCode.{FormatCode}
use Rattle.records.specs.declared.codes.MethodCode.{MethodCode}
use Rattle.records.specs.declared.fault.RecordFault.{RecordFault}
use Rattle.records.specs.declared.fault.RecordFault.TheVariants.{WrongLength, OutOfOrder, NotText}
use Rattle.records.specs.declared.kind.Kind.{Kind}
use Rattle.records.specs.declared.kind.Kind.TheVariants.{Open, Load, Show, Note, End}
use Rattle.records.specs.declared.record.Record.{Record}
use Rattle.records.specs.declared.record.Record.TheVariants as records

-- what a record behind the opening one asks for: two patterns into a place, to show a place, a note, or the end
pub data Asked : Type 0 where
  load : ℕ → ℕ → ℕ → Asked
  show : ℕ → Asked
  note : List ℕ → Asked
  end : Asked

-- an answer about a payload, if its length is right
abbrev pub sized : {X : Type 0} → Bool → Result X RecordFault → Result X RecordFault
sized right r = cond right r (Err WrongLength)

-- a record of a known kind, behind the opening record
abbrev pub asked_by : Format → List ℕ → Kind → Result Asked RecordFault
asked_by f p Open = Err OutOfOrder
asked_by f p Load =
    sized (right_length f Load (length p))
    (Ok (load (slice_index p 0) (little_endian (take (pattern_bytes f) (drop 1 p))) (little_endian (drop (1 + pattern_bytes f) p))))
asked_by f p Show = sized (right_length f Show (length p)) (Ok (show (slice_index p 0)))
asked_by f p Note = sized (right_length f Note (length p)) (cond (printable p) (Ok (note p)) (Err NotText))
asked_by f p End = sized (right_length f End (length p)) (Ok end)

-- any record behind the opening record
abbrev pub asked : Format → Framed → Result Asked RecordFault
asked f r = and_then (kind_of r.kind) (asked_by f r.payload)

abbrev pub codes : FormatCode → MethodCode → Codes
codes f m = record { format = f; method = m }

-- the codes of a format and of a method
abbrev pub codes_by : List ℕ → Result Codes RecordFault
codes_by p = sized (length p == open_bytes) (and_then (format_by (slice_index p 0)) (λ f. and_then (method_by (slice_index p 1)) (λ m. Ok (codes f m))))

-- a first record of a known kind
abbrev pub opening_by : List ℕ → Kind → Result Codes RecordFault
opening_by p Open = codes_by p
opening_by p Load = Err OutOfOrder
opening_by p Show = Err OutOfOrder
opening_by p Note = Err OutOfOrder
opening_by p End = Err OutOfOrder

-- any first record
abbrev pub opening : Framed → Result Codes RecordFault
opening r = and_then (kind_of r.kind) (opening_by r.payload)

-- what the code's records stand for
abbrev pub asked_for : Record → Asked
asked_for (records.Load d re im) = load d (little_endian re.bytes.now) (little_endian im.bytes.now)
asked_for (records.Show d) = show d
asked_for (records.Note t) = note t.bytes.now
asked_for records.End = end

-- the same for an answer that may be a refusal
abbrev pub asking : Result Record RecordFault → Result Asked RecordFault
asking (Ok r) = Ok (asked_for r)
asking (Err e) = Err e

-- a record's patterns and texts are parts of the payload: the patterns one behind the other, and the text the whole of it
abbrev pub PartOf : Format → Bor (List ℕ) → Record → Type 0
PartOf f p (records.Load d re im) = Part p re.bytes 1 (pattern_bytes f) × Part p im.bytes (1 + pattern_bytes f) (pattern_bytes f)
PartOf f p (records.Show d) = Unit {0}
PartOf f p (records.Note t) = t.bytes ≡ p
PartOf f p records.End = Unit {0}

-- a pattern has at most four bytes, and a text at most 64
abbrev pub Fits : Record → Type 0
Fits (records.Load d re im) = (length re.bytes.now ≤ 4) × (length im.bytes.now ≤ 4)
Fits (records.Show d) = Unit {0}
Fits (records.Note t) = length t.bytes.now ≤ 64
Fits records.End = Unit {0}

-- a text is printable
abbrev pub IsText : Record → Type 0
IsText (records.Load d re im) = Unit {0}
IsText (records.Show d) = Unit {0}
IsText (records.Note t) = printable t.bytes.now ≡ true
IsText records.End = Unit {0}
