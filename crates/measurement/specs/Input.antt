-- Taps from lines of text.
use Rattle.std.specs.Prelude.{◌≡◌, ℕ, ◌+◌, List, [], ◌∷◌, ◌++◌, length, Some, None, Ok, Err, codes, Option, Result, ◌≢◌}
use Rattle.staircase.specs.declared.taps.Tap.{Tap}
use Rattle.staircase.specs.declared.taps.Tap.TheVariants.{Seen, NotSeen}
use Rattle.measurement.specs.declared.complaints.Complaint.{Complaint}
use Rattle.measurement.specs.declared.complaints.Complaint.TheVariants.{ArgumentCount, NotANumber, Refused, NoTap, Memory}

abbrev pub text_of : Tap → List ℕ
text_of Seen = codes "1"
text_of NotSeen = codes "0"

-- a line is a tap's text and nothing else
abbrev pub WrittenOn : List ℕ → Option Tap → Type 0
WrittenOn line (Some tap) = line ≡ text_of tap
WrittenOn line None = (tap : Tap) → line ≢ text_of tap

-- the taps with the one that the line writes; or they are as they were, and the line's number, counted from 1, is told
abbrev pub Adds : List Tap → List ℕ → List Tap → Result (Unit {0}) Complaint → Type 0
Adds before line after (Ok u) = (tap : Tap) × WrittenOn line (Some tap) × (after ≡ before ++ tap ∷ [])
Adds before line after (Err (NoTap n)) = WrittenOn line None × (n ≡ length before + 1) × (after ≡ before)
Adds before line after (Err Memory) = after ≡ before
Adds before line after (Err ArgumentCount) = ⊥
Adds before line after (Err (NotANumber a)) = ⊥
Adds before line after (Err (Refused a e)) = ⊥
