-- The worked cases, in the rules' own values.
use Rattle.std.specs.Prelude.{◌≡◌, ℕ, List, [], ◌∷◌, replicate, ℤ, pos, Some, Ok, Err, Result}
use Rattle.model.specs.declared.faults.Fault.{Fault}
use Rattle.model.specs.declared.threads.Answer.{Answer}
use Rattle.model.specs.declared.threads.Answer.TheVariants.{Done, Got}
use Rattle.model.specs.declared.threads.Outcome.{Outcome}
use Rattle.model.specs.Machines.{Meaning}
use Rattle.staircase.specs.declared.Staircase.{Staircase}
use Rattle.staircase.specs.Making.{Allowed}
use Rattle.staircase.specs.Steps.{means}
use Rattle.staircase.specs.Laws.{reversals_of}

-- a thread that starts at place 0 and is handed some answers, one a step, and cells of 0: what its last step comes to
abbrev next : Meaning → Answer → Result Outcome Fault → Result Outcome Fault
next m a (Ok o) = m o.place o.work (replicate 64 (pos 0)) a
next m a (Err f) = Err f

abbrev then_handed : Meaning → Result Outcome Fault → List Answer → Result Outcome Fault
then_handed m r [] = r
then_handed m r (a ∷ answers) = then_handed m (next m a r) answers

abbrev handed : Meaning → Answer → List Answer → Result Outcome Fault
handed m a answers = then_handed m (m 0 (replicate 4 (pos 0)) (replicate 64 (pos 0)) a) answers

-- a staircase takes a step to begin and one to show its line; then for each tap one to judge it and one to show the next line
abbrev answers_for : List ℤ → List Answer
answers_for [] = []
answers_for (tap ∷ taps) = Got tap ∷ Done ∷ answers_for taps

abbrev staircase : (line reversals show result : ℕ) → Allowed line reversals show result → Staircase
staircase line reversals show result a =
    record {
      start_line = line;
      wanted_reversals = reversals;
      show_cell = show;
      result_cell = result;
      line_exists = a.0;
      some_wanted = a.1;
      few_wanted = a.2;
      show_exists = a.3;
      result_exists = a.4;
    }

abbrev Shows : ℕ → ℕ → ℕ → Result Outcome Fault → Type 0
Shows cell line reversals (Ok o) =
    (o.write ≡ Some (record { cell = cell; value = pos line })) × (reversals_of o.work ≡ pos reversals)
Shows cell line reversals (Err f) = ⊥

pub data Case : Type 0 where
  -- a staircase with a start line and so many reversals wanted, after some taps: the line that it shows, and its reversals so far
  staircase_shows : (start wanted : ℕ) (taps : List ℤ) (line reversals : ℕ) → Case

-- whichever its cells are
abbrev pub Holds : Case → Type 0
Holds (staircase_shows start wanted taps line reversals) =
    (show result : ℕ) (a : Allowed start wanted show result) →
    Shows show line reversals (handed (means (staircase start wanted show result a)) Done (Done ∷ answers_for taps))

abbrev pub table : List Case
table =
    staircase_shows 5 2 (pos 1 ∷ pos 1 ∷ []) 6 0
    ∷ staircase_shows 5 2 (pos 1 ∷ pos 1 ∷ pos 0 ∷ []) 5 1
    ∷ []
