-- What a measurement comes to, told by its taps.
use Rattle.std.specs.Prelude.{◌≡◌, ℕ, ◌+◌, ◌<◌, ◌≤◌, List, map, length, take, ℤ, pos, Some, None, Ok, Err, vec_items, Option, Result}
use Rattle.std.specs.List.{range_with_len}
use Rattle.std.specs.Option.{option_map}
use Rattle.model.specs.declared.refusals.Refusal.TheVariants.{StaircaseOutOfRange}
use Rattle.staircase.specs.declared.Staircase.{Staircase}
use Rattle.staircase.specs.declared.taps.Tap.{Tap}
use Rattle.staircase.specs.Making.{Made}
use Rattle.staircase.specs.Moves.{moves, line_after, reversals_in}
use Rattle.lines.specs.declared.readings.Reading.{Reading}
use Rattle.measurement.specs.declared.reports.Report.{Report}
use Rattle.measurement.specs.declared.complaints.Argument.{Argument}
use Rattle.measurement.specs.declared.complaints.Argument.TheVariants.{StartLine, WantedReversals, Label}
use Rattle.measurement.specs.declared.complaints.Complaint.{Complaint}
use Rattle.measurement.specs.declared.complaints.Complaint.TheVariants.{ArgumentCount, NotANumber, Refused, NoTap, Memory}
use Rattle.measurement.specs.declared.settings.Settings.{Settings}

-- the line and the reversals after the first k taps
abbrev pub line_at : ℕ → List Tap → ℕ → ℤ
line_at start taps k = pos (line_after start (moves (take k taps)))

abbrev pub reversals_at : List Tap → ℕ → ℕ
reversals_at taps k = reversals_in (moves (take k taps))

-- the wanted reversals are not reached before n taps
abbrev pub OpenUntil : ℕ → List Tap → ℕ → Type 0
OpenUntil wanted taps n = (n ≤ length taps) × ((k : ℕ) → k < n → reversals_at taps k < wanted)

-- the lines at the beginning and after each of the first n taps but the last
abbrev pub lines_before : ℕ → List Tap → ℕ → List ℤ
lines_before start taps n = map (line_at start taps) (range_with_len 0 n)

-- Finished: the taps reach the wanted reversals for the first time after n of them. The lines shown are those before each of the n, and the value is the line after them.
-- Not finished: all taps are spent, and the lines shown are those before each and after the last.
abbrev pub Measured : Staircase → List Tap → List ℤ → Option ℤ → Type 0
Measured s taps shown (Some value) =
    (n : ℕ) × OpenUntil s.wanted_reversals taps n × (reversals_at taps n ≡ s.wanted_reversals)
    × (shown ≡ lines_before s.start_line taps n) × (value ≡ line_at s.start_line taps n)
Measured s taps shown None =
    OpenUntil s.wanted_reversals taps (length taps) × (reversals_at taps (length taps) < s.wanted_reversals)
    × (shown ≡ lines_before s.start_line taps (length taps + 1))

-- the reading has the label and the value
abbrev reading : ℕ → ℤ → Reading
reading label value = record { label = label; value = value }

abbrev pub Reported : Staircase → ℕ → List Tap → Report → Type 0
Reported s label taps r =
    (value : Option ℤ) × Measured s taps (vec_items r.shown) value × (r.reading ≡ option_map (reading label) value)

-- which argument puts a staircase out of its ranges: the line, or else the reversals
abbrev pub AtFault : Settings → Argument → Type 0
AtFault s StartLine = 13 < s.start_line
AtFault s WantedReversals = (s.start_line ≤ 13) × ((1 ≤ s.wanted_reversals) × (s.wanted_reversals ≤ 15) → ⊥)
AtFault s Label = ⊥

-- the staircase that the settings ask for, with the show cell 0 and the result cell 1
abbrev pub Prepares : Settings → Result Staircase Complaint → Type 0
Prepares s (Ok stairs) = Made s.start_line s.wanted_reversals 0 1 (Ok stairs)
Prepares s (Err (Refused a e)) = (e ≡ StaircaseOutOfRange) × AtFault s a
Prepares s (Err ArgumentCount) = ⊥
Prepares s (Err (NotANumber a)) = ⊥
Prepares s (Err (NoTap n)) = ⊥
Prepares s (Err Memory) = ⊥
