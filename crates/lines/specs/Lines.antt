-- Lines, and what writing one into a buffer does.
use Rattle.std.specs.Prelude.{◌≡◌, ℕ, ◌<◌, ◌≤◌, List, [], ◌∷◌, ◌++◌, length, take, drop, Ok, Err, Result}
use Rattle.std.specs.Str.Parse.{digits_value}
use Rattle.model.specs.declared.refusals.Refusal.{Refusal}
use Rattle.model.specs.declared.refusals.Refusal.TheVariants.{BufferTooShort}
use Rattle.lines.specs.Hex.{hex, complement}
use Rattle.lines.specs.declared.readings.Reading.{Reading}

-- the line stands at the front of the buffer and the bytes after it are kept; or there was no room, and nothing changed
abbrev pub Written : List ℕ → List ℕ → List ℕ → Result ℕ Refusal → Type 0
Written line before after (Ok n) = (n ≡ length line) × (n ≤ length before) × (after ≡ line ++ drop n before)
Written line before after (Err e) = (e ≡ BufferTooShort) × (length before < length line) × (after ≡ before)

-- label, 2 bytes; value, 4 bytes; line feed
abbrev pub reading_line : Reading → List ℕ
reading_line r = hex 4 r.label ++ hex 8 (complement r.value) ++ 10 ∷ []

-- read as hexadecimal numbers, the line's digits give label and value back
pub record ReadsBack (r : Reading) (line : List ℕ) : Type 0 where
  pub label : digits_value 16 (take 4 line) ≡ r.label
  pub value : digits_value 16 (take 8 (drop 4 line)) ≡ complement r.value
