-- The four work numbers of a staircase's thread, and what a tap makes of them.
use Rattle.std.specs.Prelude.{ℕ, zero, suc, ◌+◌, ◌-◌, ◌≤◌, min, if◌then◌else◌, List, [], ◌∷◌, ℤ, pos, negsuc, Some, None, Ok, Err, Option, Result, ◌==◌, nat_le, slice_index_or}
use Rattle.model.specs.declared.faults.Fault.{Fault}
use Rattle.model.specs.declared.faults.Cause.TheVariants.{NumbersOutOfRange}
use Rattle.model.specs.declared.faults.Layer.TheVariants.{Machine}
use Rattle.model.specs.Faults.{fault}
use Rattle.model.specs.declared.threads.CellWrite.{CellWrite}
use Rattle.staircase.specs.declared.directions.Direction.{Direction}
use Rattle.staircase.specs.declared.directions.Direction.TheVariants.{ToSmaller, ToLarger}
use Rattle.staircase.specs.declared.taps.Tap.{Tap}
use Rattle.staircase.specs.declared.taps.Tap.TheVariants.{Seen, NotSeen}

-- How far a measurement has come. The code's `Progress` is seen as this, and keeps the ranges of `Bounded`.
pub record Course : Type 0 where
  pub line : ℕ
  pub run : ℕ
  pub reversals : ℕ
  pub last_move : Option Direction

abbrev pub progress : ℕ → ℕ → ℕ → Option Direction → Course
progress line run reversals last = record { line = line; run = run; reversals = reversals; last_move = last }

-- the ranges, with the most reversals that there may be
pub record Bounded (most : ℕ) (p : Course) : Type 0 where
  pub line_exists : p.line ≤ 13
  pub short_run : p.run ≤ 1
  pub few : p.reversals ≤ most

abbrev pub out_of_range : Fault
out_of_range = fault NumbersOutOfRange Machine 0

-- a number from 0 to the most that is allowed
abbrev pub up_to : ℕ → ℤ → Result ℕ Fault
up_to most (pos n) = if nat_le n most then Ok n else Err out_of_range
up_to most (negsuc n) = Err out_of_range

-- the last move as a number: 1 to smaller letters, −1 to larger ones, 0 before the first move
abbrev pub last_number : Option Direction → ℤ
last_number None = pos 0
last_number (Some ToSmaller) = pos 1
last_number (Some ToLarger) = negsuc 0

abbrev pub last_move_in : ℤ → Result (Option Direction) Fault
last_move_in (pos zero) = Ok None
last_move_in (pos (suc zero)) = Ok (Some ToSmaller)
last_move_in (pos (suc (suc n))) = Err out_of_range
last_move_in (negsuc zero) = Ok (Some ToLarger)
last_move_in (negsuc (suc n)) = Err out_of_range

-- the direction of a last move, where there is one
abbrev direction_of : Result (Option Direction) Fault → Result Direction Fault
direction_of (Ok (Some d)) = Ok d
direction_of (Ok None) = Err out_of_range
direction_of (Err f) = Err f

abbrev pub direction_in : ℤ → Result Direction Fault
direction_in z = direction_of (last_move_in z)

abbrev and_then : {X Y : Type 0} → Result X Fault → (X → Result Y Fault) → Result Y Fault
and_then (Ok x) f = f x
and_then (Err e) f = Err e

-- the numbers in the order in which a thread keeps them
abbrev pub progress_in : List ℤ → Result Course Fault
progress_in w =
    and_then (up_to 13 (slice_index_or w 0 (pos 0))) (λ line.
    and_then (up_to 1 (slice_index_or w 1 (pos 0))) (λ run.
    and_then (up_to 15 (slice_index_or w 2 (pos 0))) (λ reversals.
    and_then (last_move_in (slice_index_or w 3 (pos 0))) (λ last.
    Ok (progress line run reversals last)))))

abbrev pub work_of : Course → List ℤ
work_of p = pos p.line ∷ pos p.run ∷ pos p.reversals ∷ last_number p.last_move ∷ []

-- a line, written to a cell
abbrev pub line_write : ℕ → ℕ → CellWrite
line_write cell line = record { cell = cell; value = pos line }

-- the next line that way, or the same one where the lines end (`-` stops at 0)
abbrev pub next_line : Direction → ℕ → ℕ
next_line ToSmaller line = min (line + 1) 13
next_line ToLarger line = line - 1

-- a reversal is a move the other way than the move before it
abbrev pub reversal : Option Direction → Direction → ℕ
reversal (Some ToSmaller) ToLarger = 1
reversal (Some ToLarger) ToSmaller = 1
reversal (Some ToSmaller) ToSmaller = 0
reversal (Some ToLarger) ToLarger = 0
reversal None d = 0

abbrev pub moved : Direction → Course → Course
moved d p = progress (next_line d p.line) 0 (p.reversals + reversal p.last_move d) (Some d)

-- not seen: a move to larger letters. Seen twice in a row: a move to smaller ones
abbrev pub judged : Tap → Course → Course
judged NotSeen p = moved ToLarger p
judged Seen p =
    if p.run + 1 == 2 then moved ToSmaller p else progress p.line (p.run + 1) p.reversals p.last_move
