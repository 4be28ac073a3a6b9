-- The line of each record: its number, a word, and fields with single spaces between them, ended by byte 10.
use Rattle.std.specs.Prelude.{ℕ, ◌/◌, ◌≤◌, List, [], ◌∷◌, ◌++◌, length, codes, decimal}
use Rattle.arith.specs.declared.format.Format.{Format}
use Rattle.bank.specs.declared.store.Shown.{Shown}
use Rattle.records.specs.Codes.{format_number, method_number}
use Rattle.records.specs.Kinds.{word_of}
use Rattle.records.specs.declared.codes.Codes.{Codes}
use Rattle.records.specs.declared.kind.Kind.TheVariants.{Open, Load, Show, Note, End}
use Rattle.run.specs.Refusals.{number_of}
use Rattle.run.specs.Text.{hexadecimal}
use Rattle.run.specs.declared.refusal.Refusal.{Refusal}
use Rattle.run.specs.declared.reply.Reply.{Reply}
use Rattle.run.specs.declared.reply.Reply.TheVariants as replies

-- what an accepted record has done
pub data Done : Type 0 where
  loaded_at : ℕ → Done
  shown_at : ℕ → Shown → Done
  noted : List ℕ → Done
  ended : Done

-- the number of the record and a word
abbrev pub start : ℕ → List ℕ → List ℕ
start n word = decimal n ++ (32 ∷ word)

-- a field with a space in front
abbrev pub field : List ℕ → List ℕ
field x = 32 ∷ x

abbrev pub newline : List ℕ
newline = 10 ∷ []

-- a note's text; an empty one adds nothing, not even a space
abbrev pub text_field : List ℕ → List ℕ
text_field [] = []
text_field (b ∷ bs) = field (b ∷ bs)

-- a pattern has one hexadecimal digit for four bits
abbrev pub pattern_digits : Format → ℕ
pattern_digits f = f.width / 4

-- the line of the opening record
abbrev pub open_line : ℕ → Codes → List ℕ
open_line n c = start n (word_of Open) ++ (field (decimal (format_number c.format)) ++ (field (decimal (method_number c.method)) ++ newline))

-- the word in the line of a record behind it
abbrev pub done_word : Done → List ℕ
done_word (loaded_at d) = word_of Load
done_word (shown_at d s) = word_of Show
done_word (noted t) = word_of Note
done_word ended = word_of End

-- and the fields behind the word, in a format
abbrev pub done_fields : Format → Done → List ℕ
done_fields f (loaded_at d) = field (decimal d)
done_fields f (shown_at d s) =
    field (decimal d) ++ (field (hexadecimal (pattern_digits f) s.re) ++ (field (hexadecimal (pattern_digits f) s.im) ++ field (decimal s.depth)))
done_fields f (noted t) = text_field t
done_fields f ended = []

-- the line of a record behind it, in a format
abbrev pub done_line : Format → ℕ → Done → List ℕ
done_line f n d = start n (done_word d) ++ (done_fields f d ++ newline)

-- the line of a refused record: the word no, the refusal's number, and the step that refused, 0 where no step did
abbrev pub refusal_line : ℕ → Refusal → List ℕ
refusal_line n e = start n (codes "no") ++ (field (decimal (number_of e)) ++ (field (decimal 0) ++ newline))

-- what the code's replies stand for
abbrev pub done_by : Reply → Done
done_by (replies.Loaded d) = loaded_at d
done_by (replies.Shown d s) = shown_at d s
done_by (replies.Noted t) = noted t.bytes.now
done_by replies.Ended = ended

-- a note has at most 64 bytes, so that its line fits
abbrev pub ShortText : Reply → Type 0
ShortText (replies.Loaded d) = Unit {0}
ShortText (replies.Shown d s) = Unit {0}
ShortText (replies.Noted t) = length t.bytes.now ≤ 64
ShortText replies.Ended = Unit {0}
