-- What the places of a bank hold.
use Rattle.std.specs.Prelude.{ℕ, List, replicate}
use Rattle.exact.specs.Parts.{Parts}
use Rattle.arith.specs.declared.complex.Complex.{Complex}

-- a place is empty, or holds a complex number and a depth
pub data Slot : Type 0 where
  empty : Slot
  filled : Complex Parts → ℕ → Slot

-- the places of a new bank
abbrev pub fresh : List Slot
fresh = replicate 16 empty
