-- What a staircase may be made of.
use Rattle.std.specs.Prelude.{◌≡◌, ℕ, ◌≤◌, Ok, Err, Result}
use Rattle.model.specs.declared.refusals.Refusal.{Refusal}
use Rattle.model.specs.declared.refusals.Refusal.TheVariants.{StaircaseOutOfRange}
use Rattle.staircase.specs.declared.Staircase.{Staircase}

-- a line of the chart, 1 to 15 reversals, and two cells of the side
abbrev pub Allowed : ℕ → ℕ → ℕ → ℕ → Type 0
Allowed line reversals show result = (line ≤ 13) × (1 ≤ reversals) × (reversals ≤ 15) × (show ≤ 63) × (result ≤ 63)

-- a staircase of just these four where they are allowed, and else the refusal
abbrev pub Made : ℕ → ℕ → ℕ → ℕ → Result Staircase Refusal → Type 0
Made line reversals show result (Ok s) =
    Allowed line reversals show result × (s.start_line ≡ line) × (s.wanted_reversals ≡ reversals)
    × (s.show_cell ≡ show) × (s.result_cell ≡ result)
Made line reversals show result (Err e) = (Allowed line reversals show result → ⊥) × (e ≡ StaircaseOutOfRange)
