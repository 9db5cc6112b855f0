-- Taps, and the messages that stand for them.
use Rattle.std.specs.Prelude.{zero, suc, ℤ, pos, negsuc, Ok, Err, Result}
use Rattle.model.specs.declared.faults.Fault.{Fault}
use Rattle.model.specs.declared.faults.Cause.TheVariants.{NotATap}
use Rattle.model.specs.declared.faults.Layer.TheVariants.{Machine}
use Rattle.model.specs.Faults.{fault}
use Rattle.staircase.specs.declared.taps.Tap.{Tap}
use Rattle.staircase.specs.declared.taps.Tap.TheVariants.{Seen, NotSeen}

abbrev pub message_of : Tap → ℤ
message_of Seen = pos 1
message_of NotSeen = pos 0

abbrev pub tap_in : ℤ → Result Tap Fault
tap_in (pos zero) = Ok NotSeen
tap_in (pos (suc zero)) = Ok Seen
tap_in (pos (suc (suc n))) = Err (fault NotATap Machine 0)
tap_in (negsuc n) = Err (fault NotATap Machine 0)
