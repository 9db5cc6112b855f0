-- A staircase's thread, alone with the cells that it writes.
use Rattle.std.specs.Prelude.{◌≡◌, ◌<◌, List, replicate, ℤ, pos, Some, None, Ok, Err, Option, Result, slice_set}
use Rattle.model.specs.declared.faults.Fault.{Fault}
use Rattle.model.specs.declared.threads.Answer.{Answer}
use Rattle.model.specs.declared.threads.CellWrite.{CellWrite}
use Rattle.model.specs.declared.threads.Outcome.{Outcome}
use Rattle.model.specs.declared.threads.Request.{Request}
use Rattle.model.specs.declared.threads.Request.TheVariants.{GoOn, Send, Receive, Fork, Emit, Stop}
use Rattle.staircase.specs.declared.Staircase.{Staircase}
use Rattle.staircase.specs.Progress.{Course, Bounded, work_of}
use Rattle.staircase.specs.Steps.{means}
use Rattle.measurement.specs.declared.threads.Thread.{Thread}

abbrev no_cells : List ℤ
no_cells = replicate 64 (pos 0)

abbrev pub started : Thread
started = record { place = 0; work = replicate 4 (pos 0); cells = no_cells }

abbrev pub written : Option CellWrite → List ℤ → List ℤ
written None cells = cells
written (Some w) cells = slice_set cells w.cell w.value

abbrev left_by : Result Outcome Fault → Thread → Thread
left_by (Ok o) t = record { place = o.place; work = o.work; cells = written o.write t.cells }
left_by (Err f) t = t

abbrev request_of : Result Outcome Fault → Result Request Fault
request_of (Ok o) = Ok o.request
request_of (Err f) = Err f

-- where a step leaves the thread, and what it then asks for
abbrev pub stepped : Staircase → Answer → Thread → Thread
stepped s a t = left_by (means s t.place t.work t.cells a) t

abbrev pub asked : Staircase → Answer → Thread → Result Request Fault
asked s a t = request_of (means s t.place t.work t.cells a)

-- the value that a request gives out, if it gives one
abbrev pub emitted : Result Request Fault → Option ℤ
emitted (Ok GoOn) = None
emitted (Ok (Send v)) = None
emitted (Ok Receive) = None
emitted (Ok Fork) = None
emitted (Ok (Emit v)) = Some v
emitted (Ok Stop) = None
emitted (Err f) = None

-- the thread has shown the line of a progress, and waits for a tap
abbrev pub waiting : Staircase → Course → Thread
waiting s p = record { place = 2; work = work_of p; cells = slice_set no_cells s.show_cell (pos p.line) }

pub record Waits (s : Staircase) (t : Thread) : Type 0 where
  pub p : Course
  pub is : t ≡ waiting s p
  pub fits : Bounded 15 p
  pub less : p.reversals < s.wanted_reversals
