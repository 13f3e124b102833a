-- A guest of the plain program as the model has it.
use Rattle.std.specs.Prelude.{map}
use Rattle.vmx_model.specs.Serial as serial
use Rattle.vmx_serial_seats.specs.declared.seat.Seat.{Seat}
use Rattle.vmx_serial_queues.specs.Queues.{tx_core, rx_core}
use Rattle.vmx_device_state.specs.SetupView.{SetupView, setup_view}

-- a guest
abbrev pub seat_of : Seat → serial.Seat
seat_of s = record {
  active = s.active;
  setup = setup_view s.setup;
  begun = s.begun;
  seen = s.seen;
  entries = s.entries;
  setups = map setup_view s.setups;
  received = s.received;
  tx = map tx_core s.tx;
  rx = map rx_core s.rx;
}

-- a guest of the model with another setup
abbrev pub with_setup : SetupView → serial.Seat → serial.Seat
with_setup v s = record s { setup = v }
