-- What each place of a staircase's thread is for.
use Rattle.std.specs.Prelude.{ℕ, if◌then◌else◌, List, ℤ, Ok, Err, Result, ◌==◌}
use Rattle.model.specs.declared.faults.Fault.{Fault}
use Rattle.model.specs.declared.faults.Cause.TheVariants.{NoSuchPlace}
use Rattle.model.specs.declared.faults.Layer.TheVariants.{Machine}
use Rattle.model.specs.Faults.{fault}
use Rattle.staircase.specs.declared.places.Place.{Place}
use Rattle.staircase.specs.declared.places.Place.TheVariants as at
use Rattle.staircase.specs.declared.phases.Phase.{Phase}
use Rattle.staircase.specs.declared.phases.Phase.TheVariants.{Begin, Show, Judge, Report, End}
use Rattle.staircase.specs.Progress.{Course, progress_in}

-- the places are numbered from 0; there is none above 4
abbrev pub place_in : ℕ → Result Place Fault
place_in n =
    if n == 0 then Ok at.Begin
    else if n == 1 then Ok at.Show
    else if n == 2 then Ok at.Judge
    else if n == 3 then Ok at.Report
    else if n == 4 then Ok at.End
    else Err (fault NoSuchPlace Machine 0)

abbrev with : (Course → Phase) → Result Course Fault → Result Phase Fault
with phase (Ok p) = Ok (phase p)
with phase (Err f) = Err f

-- places 1 to 3 look at the numbers first
abbrev phase_in : List ℤ → Result Place Fault → Result Phase Fault
phase_in w (Ok at.Begin) = Ok Begin
phase_in w (Ok at.Show) = with Show (progress_in w)
phase_in w (Ok at.Judge) = with Judge (progress_in w)
phase_in w (Ok at.Report) = with Report (progress_in w)
phase_in w (Ok at.End) = Ok End
phase_in w (Err f) = Err f

abbrev pub phase_at : ℕ → List ℤ → Result Phase Fault
phase_at place w = phase_in w (place_in place)
