-- What a seat knows at the start, after the table's seats part and meet, and after notes are given and heard.
use Rattle.std.specs.Prelude.{suc, List, [], ◌∷◌, true, false, None}
use Rattle.vmx_ends.specs.declared.made.RxMade.{RxMade}
use Rattle.vmx_ends.specs.declared.made.Bodies.TheVariants.{Every}
use Rattle.vmx_ends.specs.declared.made.RxShape.{RxShape}
use Rattle.vmx_ends.specs.ReceiveClauses.{made_of}
use Rattle.vmx_ring_laws.specs.Lists.{longer}
use Rattle.vmx_rx_ring.specs.declared.known.DeviceKnows.{DeviceKnows}
use Rattle.vmx_rx_ring.specs.declared.known.DriverKnows.{DriverKnows}
use Rattle.vmx_rx_ring.specs.declared.known.Known.{Known}

-- nothing was done yet: the descriptors of both rings are posted
abbrev pub new_device : RxMade → DeviceKnows
new_device m = record {
  delivered = [];
  staged = [];
  opened = [];
  filling = None;
  in_data = false;
  gone1 = 0;
  gone2 = 0;
  next1 = 0;
  next2 = 0;
  seen1 = m.size1;
  seen2 = m.size2;
  head = 0;
  refused = [];
  looks = [];
  heard = [];
  notes_given = 0;
  notes_heard = 0;
  latest = [];
  latest_made = m;
}

abbrev pub new_driver : RxMade → DriverKnows
new_driver m = record { received = []; read = 0; back1 = 0; back2 = 0; reading = false; looks = []; heard = []; notes_given = 0; notes_heard = 0; latest = []; latest_made = m; latest1 = 0; latest2 = 0 }

-- a seat that has no part in the queue any more
abbrev pub no_made : RxMade
no_made = record { name = record { guest = 0; activation = 0; queue = 0 }; queues = 0; size1 = 0; size2 = 0; bodies = Every 0; with_data = false; full = true }

abbrev pub nobody : Known
nobody = record { delivers = false; receives = false; made = no_made; device = new_device no_made; driver = new_driver no_made; of_device = false; of_driver = false; frames = []; told1 = 0; told2 = 0 }

-- the seat that the table is made with, which has both ends, and each end's part of it
abbrev pub newcomer : RxShape → Known
newcomer shape = record nobody { delivers = true; receives = true; made = made_of shape; device = new_device (made_of shape); driver = new_driver (made_of shape) }

abbrev pub device_part : Known → Known
device_part v = record v { receives = false }

abbrev pub driver_part : Known → Known
driver_part v = record v { delivers = false }

abbrev pub together : Known → Known → Known
together v w = record v { delivers = true; device = record w.device { latest_made = w.made } }

-- the device after it gave a note, and the note; then the same for the driver
abbrev pub device_told : Known → Known
device_told v = record v { device = record v.device { notes_given = suc v.device.notes_given } }

abbrev pub device_note : Known → Known
device_note v = record nobody { made = v.made; of_device = true; frames = v.device.delivered; told1 = v.device.seen1; told2 = v.device.seen2 }

abbrev pub driver_told : Known → Known
driver_told v = record v { driver = record v.driver { notes_given = suc v.driver.notes_given } }

abbrev pub driver_note : Known → Known
driver_note v = record nobody { made = v.made; of_driver = true; frames = v.driver.received }

-- what the seat of a badge knows
abbrev pub known : List Known → Known
known [] = nobody
known (v ∷ vs) = v

-- the device after it heard a note of the driver, and the driver after it heard one of the device
abbrev pub hears_driver : Known → Known → Known
hears_driver v w = record v { device = record v.device { heard = longer v.device.heard w.frames; notes_heard = suc v.device.notes_heard; latest = w.frames; latest_made = w.made } }

abbrev pub hears_device : Known → Known → Known
hears_device v w = record v { driver = record v.driver { heard = longer v.driver.heard w.frames; notes_heard = suc v.driver.notes_heard; latest = w.frames; latest_made = w.made; latest1 = w.told1; latest2 = w.told2 } }
