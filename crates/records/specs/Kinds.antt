-- The table of kinds: the code, the word and the length of the payload of each.
use Rattle.std.specs.Prelude.{ℕ, ◌+◌, ◌*◌, ◌/◌, Bool, cond, List, Ok, Err, codes, Result, ◌==◌, nat_le}
use Rattle.arith.specs.declared.format.Format.{Format}
use Rattle.records.specs.declared.fault.RecordFault.{RecordFault}
use Rattle.records.specs.declared.fault.RecordFault.TheVariants.{UnknownKind}
use Rattle.records.specs.declared.kind.Kind.{Kind}
use Rattle.records.specs.declared.kind.Kind.TheVariants.{Open, Load, Show, Note, End}

-- the kind of a code; a code that has none is refused
abbrev pub kind_of : ℕ → Result Kind RecordFault
kind_of n =
    cond (n == 1) (Ok Open)
    (cond (n == 2) (Ok Load)
    (cond (n == 6) (Ok Show)
    (cond (n == 7) (Ok Note)
    (cond (n == 8) (Ok End)
    (Err UnknownKind)))))

-- the word in the line of such a record
abbrev pub word_of : Kind → List ℕ
word_of Open = codes "open"
word_of Load = codes "load"
word_of Show = codes "show"
word_of Note = codes "note"
word_of End = codes "end"

-- how many bytes a pattern of the format has
abbrev pub pattern_bytes : Format → ℕ
pattern_bytes f = f.width / 8

-- an opening record has two codes
abbrev pub open_bytes : ℕ
open_bytes = 2

-- whether n bytes are the right length of the payload
abbrev pub right_length : Format → Kind → ℕ → Bool
right_length f Open n = n == open_bytes
right_length f Load n = n == 1 + 2 * pattern_bytes f
right_length f Show n = n == 1
right_length f Note n = nat_le n 64
right_length f End n = n == 0
