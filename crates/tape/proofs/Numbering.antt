-- The line of each record has its number and is one line.
use Rattle.std.proofs.Common.{◌≡◌, ℕ, true, List, [], ◌∷◌, ◌++◌, Ok, Err, codes, decimal, Result, sym, refl, ap, ◌∙◌, append_assoc, arith}
use Rattle.arith.specs.Sequence.{and_then}
use Rattle.arith.specs.declared.format.Format.{Format}
use Rattle.bank.specs.Slots.{Slot}
use Rattle.records.specs.Asked.{asked_by}
use Rattle.records.specs.Codes.{format_number, method_number}
use Rattle.records.specs.Kinds.{kind_of, word_of}
use Rattle.records.specs.declared.codes.Codes.{Codes}
use Rattle.records.specs.declared.fault.RecordFault.{RecordFault}
use Rattle.records.specs.declared.kind.Kind.{Kind}
use Rattle.records.specs.declared.kind.Kind.TheVariants.{Open, Load, Show, Note, End}
use Rattle.run.specs.Lines.{Done, loaded_at, shown_at, noted, ended, start, field, newline, text_field, done_word, done_fields, refusal_line}
use Rattle.run.specs.Refusals.{number_of}
use Rattle.run.specs.States.{first_line}
use Rattle.run.specs.Turns.{answered, outcome, line_by, line_of}
use Rattle.run.specs.declared.refusal.Refusal.{Refusal}
use Rattle.run.specs.declared.refusal.Refusal.TheVariants.{Record}
use Rattle.tape.specs.Reading.{Read, unbroken, Line}
use Rattle.tape.proofs.Unbroken.{unbroken_append, unbroken_printable, unbroken_decimal, unbroken_hexadecimal}

-- the end of a line: a text that is not broken, and the byte that ends the line
record Closed (l : List ℕ) : Type 0 where
  body : List ℕ
  is : l ≡ body ++ newline
  whole : unbroken body ≡ true

closed_newline : Closed newline
closed_newline = record { body = []; is = refl; whole = refl }

closed_more : {l : List ℕ} (x : List ℕ) → unbroken x ≡ true → Closed l → Closed (x ++ l)
closed_more x p c =
    let is = ap (λ r. x ++ r) c.is ∙ sym (append_assoc x c.body newline) in
    record { body = x ++ c.body; is = is; whole = unbroken_append x c.body p c.whole }

closed_number : {l : List ℕ} (n : ℕ) → Closed l → Closed (field (decimal n) ++ l)
closed_number n c = closed_more (field (decimal n)) (unbroken_decimal n) c

unbroken_text : (t : List ℕ) → unbroken t ≡ true → unbroken (text_field t) ≡ true
unbroken_text t p = grind arith

line_started : {l : List ℕ} (n : ℕ) (word : List ℕ) → unbroken word ≡ true → Closed l → Line n (start n word ++ l)
line_started n word p c =
    let w = closed_more word p c in
    let is = append_assoc (decimal n) (32 ∷ word) _ ∙ ap (λ r. decimal n ++ (32 ∷ r)) w.is in
    record { body = w.body; is = is; whole = w.whole }

line_refused : (n : ℕ) (e : Refusal) → Line n (refusal_line n e)
line_refused n e = line_started n (codes "no") refl (closed_number (number_of e) (closed_number 0 closed_newline))

pub line_first : (r : Result Codes RecordFault) → Line 1 (first_line r)
line_first (Ok c) =
    line_started 1 (word_of Open) refl
    (closed_number (format_number c.format) (closed_number (method_number c.method) closed_newline))
line_first (Err e) = line_refused 1 (Record e)

-- the text that a line repeats
abbrev repeated : Result Done Refusal → List ℕ
repeated (Ok (loaded_at d)) = []
repeated (Ok (shown_at d s)) = []
repeated (Ok (noted t)) = t
repeated (Ok ended) = []
repeated (Err e) = []

unbroken_word : (d : Done) → unbroken (done_word d) ≡ true
unbroken_word d = grind arith

unbroken_fields : (f : Format) (d : Done) → unbroken (repeated (Ok d)) ≡ true → unbroken (done_fields f d) ≡ true
unbroken_fields f d p = grind (arith, unbroken_append, unbroken_decimal, unbroken_hexadecimal, unbroken_text)

line_by_lem : (f : Format) (n : ℕ) (r : Result Done Refusal) → unbroken (repeated r) ≡ true → Line n (line_by f n r)
line_by_lem f n r p = grind (arith, line_refused, line_started, unbroken_word, closed_more, unbroken_fields, closed_newline)

unbroken_by_kind : (f : Format) (ps : List Slot) (p : List ℕ) (k : Result Kind RecordFault)
    → unbroken (repeated (answered f ps (and_then k (asked_by f p)))) ≡ true
unbroken_by_kind f ps p (Ok Open) = refl
unbroken_by_kind f ps p (Ok Load) = grind arith
unbroken_by_kind f ps p (Ok Show) = grind arith
unbroken_by_kind f ps p (Ok Note) = let text = unbroken_printable p in grind arith
unbroken_by_kind f ps p (Ok End) = grind arith
unbroken_by_kind f ps p (Err e) = refl

unbroken_repeated : (f : Format) (ps : List Slot) (r : Read) → unbroken (repeated (outcome f ps r)) ≡ true
unbroken_repeated f ps (Ok r) = unbroken_by_kind f ps r.payload (kind_of r.kind)
unbroken_repeated f ps (Err e) = refl

pub line_of_lem : (f : Format) (ps : List Slot) (n : ℕ) (r : Read) → Line n (line_of f ps n r)
line_of_lem f ps n r = line_by_lem f n (outcome f ps r) (unbroken_repeated f ps r)
