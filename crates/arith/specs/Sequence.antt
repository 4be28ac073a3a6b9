-- One question after another: what follows an answer; a refusal passes.
use Rattle.std.specs.Prelude.{Ok, Err, Result}

abbrev pub and_then : {X Y E : Type 0} → Result X E → (X → Result Y E) → Result Y E
and_then (Ok x) f = f x
and_then (Err e) f = Err e
