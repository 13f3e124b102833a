-- Forms of a frame of the plain program as the model has them.
use Rattle.std.specs.Prelude.{ℕ, List, Option}
use Rattle.vmx_frame.specs.Tags.{Stripped}
use Rattle.vmx_model.specs.Meta as meta
use Rattle.vmx_serial_queues.specs.declared.forms.Arrival.{Arrival}

-- a frame without its tag, and the tag's control bytes
abbrev pub stripped : List ℕ → Option ℕ → Stripped
stripped frame tci = record { frame = frame; tci = tci }

-- a frame as it is delivered
abbrev pub arrival_of : Arrival → meta.Arrival
arrival_of a = record { frame = a.frame; meta = a.meta }
