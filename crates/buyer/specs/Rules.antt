-- What the rules of this crate take midway.
use Rattle.std.specs.Prelude.{ℕ, ◌%◌, cond, ◌==◌}
use Rattle.exact.specs.Exact.{Exact, is_negative}
use Rattle.exact.specs.Parts.{Parts}
use Rattle.exact.specs.Ties.{Tie, nearest_by, away_from_zero, toward_zero}

-- the odd one of two neighbouring significands
abbrev pub to_odd : Tie
to_odd q = q % 2 == 0

-- the larger one of two neighbours: below zero it is the smaller in size
abbrev pub upward : ℕ → Exact → Parts
upward p t = cond (is_negative t.num) (nearest_by toward_zero p t) (nearest_by away_from_zero p t)
