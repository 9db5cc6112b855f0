-- The laws of a staircase, over every run of a thread that starts at place 0, whatever cells and answers it is handed.
use Rattle.std.specs.Prelude.{◌≡◌, Bool, true, false, if◌then◌else◌, not, ◌&&◌, ◌⊎◌, List, [], ◌∷◌, ◌++◌, ℤ, pos, ◌+ℤ◌, ◌≤ℤ◌, ◌<ℤ◌, Some, None, Ok, Err, Result, ◌==◌, int_le, slice_index_or}
use Rattle.std.specs.List.{All}
use Rattle.model.specs.declared.faults.Fault.{Fault}
use Rattle.model.specs.declared.threads.Answer.{Answer}
use Rattle.model.specs.declared.threads.Answer.TheVariants.{Done, Got, Fork}
use Rattle.model.specs.declared.threads.Request.{Request}
use Rattle.model.specs.declared.threads.Request.TheVariants.{GoOn, Send, Receive, Fork as ForkRequest, Emit, Stop}
use Rattle.model.specs.Runs.{Moment, Run, place_after, work_after}
use Rattle.staircase.specs.declared.Staircase.{Staircase}
use Rattle.staircase.specs.declared.taps.Tap.{Tap}
use Rattle.staircase.specs.Taps.{tap_in}
use Rattle.staircase.specs.Steps.{means}
use Rattle.staircase.specs.Moves.{moves, line_after, reversals_in}

-- the line and the reversals among a thread's numbers
abbrev pub line_in : List ℤ → ℤ
line_in w = slice_index_or w 0 (pos 0)

abbrev pub reversals_of : List ℤ → ℤ
reversals_of w = slice_index_or w 2 (pos 0)

-- the taps of a run: the messages 1 and 0 that the thread was handed while it stood at place 2
abbrev pub tapped : Result Tap Fault → List Tap
tapped (Ok tap) = tap ∷ []
tapped (Err f) = []

abbrev pub tap_handed : Answer → List Tap
tap_handed Done = []
tap_handed (Got v) = tapped (tap_in v)
tap_handed (Fork f) = []

abbrev pub tap_at : Moment → List Tap
tap_at x = if x.place == 2 then tap_handed x.answer else []

abbrev pub taps_in : List Moment → List Tap
taps_in [] = []
taps_in (x ∷ xs) = tap_at x ++ taps_in xs

abbrev pub is_emit : Request → Bool
is_emit GoOn = false
is_emit (Send v) = false
is_emit Receive = false
is_emit ForkRequest = false
is_emit (Emit v) = true
is_emit Stop = false

-- a moment that gives a result
abbrev pub emits : Moment → Bool
emits x = is_emit x.outcome.request

-- a moment that leaves the thread with all the reversals that are wanted
abbrev pub reached : Staircase → Moment → Bool
reached s x = int_le (pos s.wanted_reversals) (reversals_of x.outcome.work)

-- the last of some moments has reached them, and none before it
abbrev pub just_reached : Staircase → List Moment → Bool
just_reached s [] = false
just_reached s (x ∷ []) = reached s x
just_reached s (x ∷ y ∷ ys) = not (reached s x) && just_reached s (y ∷ ys)

-- the reversals stay, or rise by one at a tap
abbrev pub Climbs : Moment → Moment → Type 0
Climbs x y =
    (reversals_of y.outcome.work ≡ reversals_of x.outcome.work)
    ⊎ ((reversals_of y.outcome.work ≡ reversals_of x.outcome.work +ℤ pos 1) × (tap : Tap) × (tap_at y ≡ tap ∷ []))

-- a moment that leaves the line on the chart
abbrev pub OnChart : Moment → Type 0
OnChart x = (pos 0 ≤ℤ line_in x.outcome.work) × (line_in x.outcome.work ≤ℤ pos 13)

-- a moment that writes nothing and stops
abbrev pub OnlyStops : Moment → Type 0
OnlyStops x = (x.outcome.write ≡ None) × (x.outcome.request ≡ Stop)

module _ (s : Staircase) where
  -- the run of a thread that starts
  abbrev pub Runs : List Moment → Type 0
  Runs xs = (w : List ℤ) × Run (means s) 0 w xs

  -- the line never leaves the chart
  abbrev pub LineStays : Type 0
  LineStays = (xs : List Moment) → Runs xs → All OnChart xs

  -- the reversals never fall, and rise by at most one for each tap
  abbrev pub ReversalsClimb : Type 0
  ReversalsClimb = (before after : List Moment) (x y : Moment) → Runs (before ++ x ∷ y ∷ after) → Climbs x y

  -- a result is given right after the wanted reversals are reached, not before and not later
  abbrev pub ResultInTime : Type 0
  ResultInTime = (before after : List Moment) (x : Moment) → Runs (before ++ x ∷ after) → emits x ≡ just_reached s before

  -- the line that is emitted is the last one reached; it goes into the result cell, and then the thread only stops
  abbrev pub ResultIsLastLine : Type 0
  ResultIsLastLine = (before after : List Moment) (x : Moment) (v : ℤ) → Runs (before ++ x ∷ after) →
      x.outcome.request ≡ Emit v →
      (v ≡ line_in x.work) × (x.outcome.write ≡ Some (record { cell = s.result_cell; value = v }))
      × All OnlyStops after

  -- line and reversals are what the taps so far come to
  abbrev pub TapsDecide : Type 0
  TapsDecide = (w : List ℤ) (x : Moment) (xs : List Moment) → Run (means s) 0 w (x ∷ xs) →
      (line_in (work_after w (x ∷ xs)) ≡ pos (line_after s.start_line (moves (taps_in (x ∷ xs)))))
      × (reversals_of (work_after w (x ∷ xs)) ≡ pos (reversals_in (moves (taps_in (x ∷ xs)))))

  -- nothing makes the thread fault but a message that is no tap, and that only until the wanted reversals are reached
  abbrev pub FaultsByMessage : Type 0
  FaultsByMessage = (w : List ℤ) (xs : List Moment) (cells : List ℤ) (a : Answer) (f : Fault) → Run (means s) 0 w xs →
      means s (place_after 0 xs) (work_after w xs) cells a ≡ Err f →
      (v : ℤ) × (a ≡ Got v) × (tap_in v ≡ Err f) × (reversals_of (work_after w xs) <ℤ pos s.wanted_reversals)

  pub record Lawful : Type 0 where
    pub line_stays : LineStays
    pub reversals_climb : ReversalsClimb
    pub result_in_time : ResultInTime
    pub result_is_last_line : ResultIsLastLine
    pub taps_decide : TapsDecide
    pub faults_by_message : FaultsByMessage
