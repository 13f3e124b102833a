-- What a call of a test leaves of an end.
use Rattle.std.specs.Prelude.{◌≡◌}
use Rattle.vmx_ends.specs.Transmit.{TxDriverView, TxDeviceView}

-- the same queue, and as many notes
abbrev pub SameDriver : TxDriverView → TxDriverView → Type 0
SameDriver old new = (new.key ≡ old.key) × (new.made ≡ old.made) × (new.notes_given ≡ old.notes_given) × (new.notes_heard ≡ old.notes_heard)

abbrev pub SameDevice : TxDeviceView → TxDeviceView → Type 0
SameDevice old new = (new.key ≡ old.key) × (new.made ≡ old.made) × (new.notes_given ≡ old.notes_given) × (new.notes_heard ≡ old.notes_heard)
