-- What each call of a bank answers, and what the places hold after it. The first question that is answered with no gives the refusal.
use Rattle.std.specs.Prelude.{ℕ, cond, List, Ok, Err, Result, nat_lt, slice_index_or, slice_set}
use Rattle.std.specs.Result.{result_map_both}
use Rattle.exact.specs.Parts.{Parts}
use Rattle.arith.specs.Complex.{complex}
use Rattle.arith.specs.Pattern.{decoded, encoded}
use Rattle.arith.specs.Sequence.{and_then}
use Rattle.arith.specs.declared.format.Format.{Format}
use Rattle.bank.specs.Slots.{Slot, empty, filled}
use Rattle.bank.specs.declared.fault.Fault.{Fault}
use Rattle.bank.specs.declared.fault.Fault.TheVariants.{NoSuchPlace, EmptyPlace, Pattern}
use Rattle.bank.specs.declared.store.Shown.{Shown}

-- a pattern's number; the bank passes on why there is none
abbrev pub number_by : Format → ℕ → Result Parts Fault
number_by f n = result_map_both (λ x. x) Pattern (decoded f n)

-- what a load puts into its place: the place has to be there, and then the real pattern is judged wholly before the imaginary
abbrev pub loaded : Format → ℕ → ℕ → ℕ → Result Slot Fault
loaded f d m n =
    cond (nat_lt 15 d) (Err NoSuchPlace)
    (and_then (number_by f m) (λ re. and_then (number_by f n) (λ im. Ok (filled (complex re im) 0))))

-- a load answers only that it was accepted, or its refusal
abbrev pub told : Result Slot Fault → Result (Unit {0}) Fault
told (Ok s) = Ok tt
told (Err e) = Err e

-- it changes its place only, and a refused one changes none
abbrev pub written : List Slot → ℕ → Result Slot Fault → List Slot
written ps d (Ok s) = slice_set ps d s
written ps d (Err e) = ps

-- two patterns and a depth
abbrev pub patterns : ℕ → ℕ → ℕ → Shown
patterns a b n = record { re = a; im = b; depth = n }

-- what is shown of a place, which has to be filled
abbrev pub shown_of : Format → Slot → Result Shown Fault
shown_of f empty = Err EmptyPlace
shown_of f (filled z n) = Ok (patterns (encoded f z.re) (encoded f z.im) n)

abbrev pub shown : Format → List Slot → ℕ → Result Shown Fault
shown f ps x = cond (nat_lt 15 x) (Err NoSuchPlace) (shown_of f (slice_index_or ps x empty))
