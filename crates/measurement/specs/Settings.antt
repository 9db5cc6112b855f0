-- Settings from text.
use Rattle.std.specs.Prelude.{◌≡◌, ℕ, ◌^◌, ◌<◌, List, Ok, Err, Result}
use Rattle.std.specs.Str.Parse.{IsNumeral, digits_value, without_leading_plus}
use Rattle.measurement.specs.declared.complaints.Argument.{Argument}
use Rattle.measurement.specs.declared.complaints.Argument.TheVariants.{StartLine, WantedReversals, Label}
use Rattle.measurement.specs.declared.complaints.Complaint.{Complaint}
use Rattle.measurement.specs.declared.complaints.Complaint.TheVariants.{ArgumentCount, NotANumber, Refused, NoTap, Memory}
use Rattle.measurement.specs.declared.settings.Settings.{Settings}

-- the number that decimal digits write, a plus sign in front of them or not
abbrev pub number_in : List ℕ → ℕ
number_in text = digits_value 10 (without_leading_plus text)

-- the text is such digits, and the number fits so many bits
abbrev pub Number : ℕ → List ℕ → Type 0
Number bits text = IsNumeral 10 (without_leading_plus text) × (number_in text < 2 ^ bits)

-- what a parse of the text gives; where it gives none, the complaint names the argument
abbrev pub ReadsAs : {N E : Type 0} → (List ℕ → Result N E → Type 0) → List ℕ → Argument → Result N Complaint → Type 0
ReadsAs Parses text argument (Ok n) = Parses text (Ok n)
ReadsAs {N} {E} Parses text argument (Err c) = (c ≡ NotANumber argument) × (e : E) × Parses text (Err e)

-- start line, wanted reversals and label, or which of them is the first that is no number
abbrev pub Reads : List ℕ → List ℕ → List ℕ → Result Settings Complaint → Type 0
Reads start wanted label (Ok s) =
    Number 32 start × Number 32 wanted × Number 16 label × (s.start_line ≡ number_in start)
    × (s.wanted_reversals ≡ number_in wanted) × (s.label ≡ number_in label)
Reads start wanted label (Err (NotANumber StartLine)) = Number 32 start → ⊥
Reads start wanted label (Err (NotANumber WantedReversals)) = Number 32 start × (Number 32 wanted → ⊥)
Reads start wanted label (Err (NotANumber Label)) = Number 32 start × Number 32 wanted × (Number 16 label → ⊥)
Reads start wanted label (Err ArgumentCount) = ⊥
Reads start wanted label (Err (Refused a e)) = ⊥
Reads start wanted label (Err (NoTap n)) = ⊥
Reads start wanted label (Err Memory) = ⊥
