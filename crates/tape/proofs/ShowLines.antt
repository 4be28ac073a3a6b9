-- The line of a show has what its place was last loaded with.
use Rattle.std.proofs.Common.{◌≡◌, ℕ, ◌+◌, List, ◌++◌, length, None, Ok, ap, ◌∙◌}
use Rattle.std.specs.Result.{result_map_both}
use Rattle.arith.specs.Sequence.{and_then}
use Rattle.arith.specs.Format.{Sound}
use Rattle.arith.specs.declared.format.Format.{Format}
use Rattle.bank.specs.Slots.{fresh}
use Rattle.records.specs.Asked.{show, asked}
use Rattle.run.specs.Lines.{shown_at}
use Rattle.run.specs.Turns.{answered, line_by, line_of}
use Rattle.run.specs.declared.refusal.Refusal.TheVariants.{Bank}
use Rattle.tape.specs.Printed.{format_in, printed}
use Rattle.tape.specs.Reading.{Read, last_load, shown_last, ShowsLastLoad}
use Rattle.arith.proofs.Formats.{sound_of}
use Rattle.records.specs.Codes.{format_number}
use Rattle.tape.proofs.After.{places_after}
use Rattle.tape.proofs.Shows.{shown_last_lem}
use Rattle.tape.proofs.Told.{line_among}

show_line : (f : Format) → Sound f → (n d : ℕ) (before : List Read) (r : Read) → and_then r (asked f) ≡ Ok (show d) → line_of f (places_after f fresh before) n r ≡ line_by f n (result_map_both (shown_at d) Bank (shown_last f d (last_load f d None before)))
show_line f s n d before r e =
    ap (λ a. line_by f n (answered f (places_after f fresh before) a)) e ∙ ap (λ s. line_by f n (result_map_both (shown_at d) Bank s)) (shown_last_lem f s before d)

pub shows_last_load : (t : List ℕ) → ShowsLastLoad t (printed t)
shows_last_load t short c opened before r after d split e =
    let (a, b, is, in-front, behind) = line_among t short c opened before r after split in
    (a, b, is ∙ ap (λ l. a ++ (l ++ b)) (show_line (format_in c) (sound_of (format_number c.format)) (length before + 2) d before r e), in-front, behind)
