-- The list of refusals: each one's number, and the item that it names (0: none).
use Rattle.std.specs.Prelude.{ℕ}
use Rattle.model.specs.declared.refusals.Refusal.{Refusal}
use Rattle.model.specs.declared.refusals.Refusal.TheVariants.{StaircaseOutOfRange, BufferTooShort}

abbrev pub number_of : Refusal → ℕ
number_of StaircaseOutOfRange = 6
number_of BufferTooShort = 14

abbrev pub item_of : Refusal → ℕ
item_of StaircaseOutOfRange = 0
item_of BufferTooShort = 0
