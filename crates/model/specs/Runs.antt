-- The run of a thread: the steps that it takes, one after the other, whatever it is handed at each.
use Rattle.std.specs.Prelude.{◌≡◌, ℕ, List, [], ◌∷◌, ℤ, Ok}
use Rattle.model.specs.declared.threads.Answer.{Answer}
use Rattle.model.specs.declared.threads.Outcome.{Outcome}
use Rattle.model.specs.Machines.{Meaning}

-- one step: where the thread stood and with which numbers, the cells and the answer that it was handed, and what came of it
pub record Moment : Type 0 where
  pub place : ℕ
  pub work : List ℤ
  pub cells : List ℤ
  pub answer : Answer
  pub outcome : Outcome

-- each step is the machine's, and the next one starts where it left the thread
abbrev pub Run : Meaning → ℕ → List ℤ → List Moment → Type 0
Run m place work [] = Unit {0}
Run m place work (x ∷ xs) =
    (x.place ≡ place) × (x.work ≡ work) × (m place work x.cells x.answer ≡ Ok x.outcome)
    × Run m x.outcome.place x.outcome.work xs

-- the place and the numbers that a run leaves the thread with
abbrev pub place_after : ℕ → List Moment → ℕ
place_after place [] = place
place_after place (x ∷ xs) = place_after x.outcome.place xs

abbrev pub work_after : List ℤ → List Moment → List ℤ
work_after work [] = work
work_after work (x ∷ xs) = work_after x.outcome.work xs
