-- The numbers of causes and layers.
use Rattle.std.specs.Prelude.{ℕ}
use Rattle.model.specs.declared.faults.Cause.{Cause}
use Rattle.model.specs.declared.faults.Cause.TheVariants.{NoSuchPlace, NotATap, NumbersOutOfRange}
use Rattle.model.specs.declared.faults.Layer.{Layer}
use Rattle.model.specs.declared.faults.Layer.TheVariants.{Expression, Machine, Kernel}
use Rattle.model.specs.declared.faults.Fault.{Fault}

abbrev pub cause_number : Cause → ℕ
cause_number NoSuchPlace = 2
cause_number NotATap = 3
cause_number NumbersOutOfRange = 4

abbrev pub layer_number : Layer → ℕ
layer_number Expression = 1
layer_number Machine = 2
layer_number Kernel = 3

abbrev pub fault : Cause → Layer → ℕ → Fault
fault c l n = record { cause = cause_number c; layer = layer_number l; node = n }
