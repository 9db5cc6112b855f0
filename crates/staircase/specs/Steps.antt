-- The staircase as a machine: what its thread does in each phase.
use Rattle.std.specs.Prelude.{ℕ, if◌then◌else◌, List, ℤ, pos, Some, None, Ok, Err, Option, Result, nat_le}
use Rattle.model.specs.declared.faults.Fault.{Fault}
use Rattle.model.specs.declared.threads.Answer.{Answer}
use Rattle.model.specs.declared.threads.Answer.TheVariants.{Done, Got, Fork}
use Rattle.model.specs.declared.threads.CellWrite.{CellWrite}
use Rattle.model.specs.declared.threads.Outcome.{Outcome}
use Rattle.model.specs.declared.threads.Request.{Request}
use Rattle.model.specs.declared.threads.Request.TheVariants.{GoOn, Receive, Emit, Stop}
use Rattle.model.specs.Machines.{Meaning}
use Rattle.staircase.specs.declared.Staircase.{Staircase}
use Rattle.staircase.specs.declared.phases.Phase.{Phase}
use Rattle.staircase.specs.declared.phases.Phase.TheVariants.{Begin, Show, Judge, Report, End}
use Rattle.staircase.specs.declared.taps.Tap.{Tap}
use Rattle.staircase.specs.Taps.{tap_in}
use Rattle.staircase.specs.Progress.{Course, progress, work_of, line_write, judged}
use Rattle.staircase.specs.Phases.{phase_at}

-- where the thread then stands, with which numbers, what it writes and what it asks for
abbrev outcome : ℕ → List ℤ → Option CellWrite → Request → Outcome
outcome place w write request = record { place = place; work = w; write = write; request = request }

abbrev writes : ℕ → ℕ → Option CellWrite
writes cell line = Some (line_write cell line)

-- a measurement begins at the start line
abbrev pub start : Staircase → Course
start s = progress s.start_line 0 0 None

abbrev pub begun : Staircase → Outcome
begun s = outcome 1 (work_of (start s)) None GoOn

abbrev pub shown : Staircase → Course → List ℤ → Outcome
shown s p w = outcome 2 w (writes s.show_cell p.line) Receive

-- enough reversals: to the report; else the next line is shown
abbrev pub answered : Staircase → Course → Tap → Outcome
answered s p tap =
    let q = judged tap p in outcome (if nat_le s.wanted_reversals q.reversals then 3 else 1) (work_of q) None GoOn

abbrev pub reported : Staircase → Course → List ℤ → Outcome
reported s p w = outcome 4 w (writes s.result_cell p.line) (Emit (pos p.line))

abbrev heard : Staircase → Course → Result Tap Fault → Result Outcome Fault
heard s p (Ok tap) = Ok (answered s p tap)
heard s p (Err f) = Err f

-- by the phase and the answer together
abbrev pub does : Staircase → List ℤ → Phase → Answer → Result Outcome Fault
does s w Begin a = Ok (begun s)
does s w (Show p) a = Ok (shown s p w)
does s w (Judge p) (Got v) = heard s p (tap_in v)
does s w (Judge p) Done = Ok (outcome 2 w None Receive)
does s w (Judge p) (Fork f) = Ok (outcome 2 w None Receive)
does s w (Report p) a = Ok (reported s p w)
does s w End a = Ok (outcome 4 w None Stop)

abbrev in_phase : Staircase → List ℤ → Result Phase Fault → Answer → Result Outcome Fault
in_phase s w (Ok phase) a = does s w phase a
in_phase s w (Err f) a = Err f

-- the cells are not looked at
abbrev pub means : Staircase → Meaning
means s place w cells a = in_phase s w (phase_at place w) a
