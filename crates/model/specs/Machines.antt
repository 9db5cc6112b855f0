-- What a machine means.
use Rattle.std.specs.Prelude.{ℕ, List, ℤ, Result}
use Rattle.model.specs.declared.threads.Answer.{Answer}
use Rattle.model.specs.declared.threads.Outcome.{Outcome}
use Rattle.model.specs.declared.faults.Fault.{Fault}

-- from place, work numbers, cells and answer to an outcome or a fault
abbrev pub Meaning : Type 0
Meaning = ℕ → List ℤ → List ℤ → Answer → Result Outcome Fault
