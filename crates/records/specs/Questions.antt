-- The questions that a whole record is asked, in turn. The refusal is that of the first one that is answered with no.
use Rattle.std.specs.Prelude.{ℕ, Bool, true, false, cond, not, ◌&&◌, List, [], ◌∷◌, length, is_ok, Some, None, Ok, Err, Option, Result, ◌==◌, slice_index}
use Rattle.arith.specs.declared.format.Format.{Format}
use Rattle.records.specs.Bytes.{printable}
use Rattle.records.specs.Codes.{format_by, method_by}
use Rattle.records.specs.Frames.{Framed}
use Rattle.records.specs.Kinds.{kind_of, open_bytes, right_length}
use Rattle.records.specs.declared.fault.RecordFault.{RecordFault}
use Rattle.records.specs.declared.fault.RecordFault.TheVariants.{UnknownKind, WrongLength, UnknownCode, OutOfOrder, NotText}
use Rattle.records.specs.declared.kind.Kind.{Kind}
use Rattle.records.specs.declared.kind.Kind.TheVariants.{Open, Load, Show, Note, End}

-- the answer, where true is yes, and the refusal that a no gives
pub data Question : Type 0 where
  question : Bool → RecordFault → Question

-- the refusal of the first question that is answered with no, or none if there is no such question
abbrev pub first_no : List Question → Option RecordFault
first_no [] = None
first_no (question answer refusal ∷ others) = cond answer (first_no others) (Some refusal)

-- whether the kind is known, and passes a test
abbrev pub known_and : Result Kind RecordFault → (Kind → Bool) → Bool
known_and (Ok k) test = test k
known_and (Err e) test = false

abbrev pub opens : Kind → Bool
opens Open = true
opens Load = false
opens Show = false
opens Note = false
opens End = false

-- whether every byte is printable, which only a note is asked
abbrev pub text_if_note : List ℕ → Kind → Bool
text_if_note p Open = true
text_if_note p Load = true
text_if_note p Show = true
text_if_note p Note = printable p
text_if_note p End = true

-- Of a first record: is the kind known? Is it that of an opening record? Is the payload's length right? Are both codes in their tables?
abbrev pub opening_questions : Framed → List Question
opening_questions r =
    let kind = kind_of r.kind in
    let p = r.payload in
    question (is_ok kind) UnknownKind
    ∷ question (known_and kind opens) OutOfOrder
    ∷ question (length p == open_bytes) WrongLength
    ∷ question (is_ok (format_by (slice_index p 0)) && is_ok (method_by (slice_index p 1))) UnknownCode
    ∷ []

-- Of a record behind it: is the kind known? Is it not that of an opening record? Is the payload's length right? If it is a note, is it text?
abbrev pub later_questions : Format → Framed → List Question
later_questions f r =
    let kind = kind_of r.kind in
    let p = r.payload in
    question (is_ok kind) UnknownKind
    ∷ question (known_and kind (λ k. not (opens k))) OutOfOrder
    ∷ question (known_and kind (λ k. right_length f k (length p))) WrongLength
    ∷ question (known_and kind (text_if_note p)) NotText
    ∷ []
