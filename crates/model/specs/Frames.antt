-- The fields of a frame: which number each event has, and which of the other fields it fills.
use Rattle.std.specs.Prelude.{ℕ, ℤ, pos, Some, None, Option}
use Rattle.model.specs.declared.sides.Side.{Side}
use Rattle.model.specs.declared.sides.Side.TheVariants.{Shop, Patient}
use Rattle.model.specs.declared.frames.Event.{Event}
use Rattle.model.specs.declared.frames.Event.TheVariants.{Rested, NoThread, WentOn, Sent, Waits, Received, Forked, Emitted, Stopped, Faulted}
use Rattle.model.specs.declared.frames.Frame.{Frame}
use Rattle.model.specs.declared.frames.Fields.{Fields}

abbrev pub side_number : Option Side → ℕ
side_number None = 0
side_number (Some Shop) = 1
side_number (Some Patient) = 2

-- side, event, label, value; an event that is no fault leaves the rest 0
abbrev pub plain_fields : ℕ → ℕ → ℕ → ℤ → Fields
plain_fields s e l v = record { side = s; event = e; label = l; value = v; layer = 0; node = 0; place = 0 }

abbrev fields : ℕ → ℕ → Event → Fields
fields s l Rested = plain_fields s 0 l (pos 0)
fields s l NoThread = plain_fields s 1 l (pos 0)
fields s l WentOn = plain_fields s 2 l (pos 0)
fields s l (Sent v) = plain_fields s 3 l v
fields s l Waits = plain_fields s 4 l (pos 0)
fields s l (Received v) = plain_fields s 5 l v
fields s l (Forked v) = plain_fields s 6 l v
fields s l (Emitted v) = plain_fields s 7 l v
fields s l Stopped = plain_fields s 8 l (pos 0)
fields s l (Faulted f p) =
    record { side = s; event = 9; label = l; value = pos f.cause; layer = f.layer; node = f.node; place = p }

abbrev pub fields_of : Frame → Fields
fields_of f = fields (side_number f.side) f.label f.event
