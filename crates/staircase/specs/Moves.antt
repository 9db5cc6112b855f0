-- What a list of taps comes to, told without the machine.
use Rattle.std.specs.Prelude.{ℕ, ◌+◌, List, [], ◌∷◌, Some, None, Option}
use Rattle.staircase.specs.declared.directions.Direction.{Direction}
use Rattle.staircase.specs.declared.directions.Direction.TheVariants.{ToSmaller, ToLarger}
use Rattle.staircase.specs.declared.taps.Tap.{Tap}
use Rattle.staircase.specs.declared.taps.Tap.TheVariants.{Seen, NotSeen}
use Rattle.staircase.specs.Progress.{next_line, reversal}

-- two lines seen in a row are a move to smaller letters; a line not seen is a move to larger ones
abbrev pub moves : List Tap → List Direction
moves [] = []
moves (NotSeen ∷ taps) = ToLarger ∷ moves taps
moves (Seen ∷ []) = []
moves (Seen ∷ Seen ∷ taps) = ToSmaller ∷ moves taps
moves (Seen ∷ NotSeen ∷ taps) = ToLarger ∷ moves taps

-- the line that moves lead to
abbrev pub line_after : ℕ → List Direction → ℕ
line_after line [] = line
line_after line (d ∷ ds) = line_after (next_line d line) ds

-- how many moves go the other way than the move before them, if there is one
abbrev pub reversals_from : Option Direction → List Direction → ℕ
reversals_from last [] = 0
reversals_from last (d ∷ ds) = reversal last d + reversals_from (Some d) ds

abbrev pub reversals_in : List Direction → ℕ
reversals_in ds = reversals_from None ds
