-- The views of seats: at the start, where one is cut in two or two are joined, and where notes are given and heard.
use Rattle.std.specs.Prelude.{ℕ, suc, List, [], ◌∷◌, true, false, None}
use Rattle.vmx_ends.specs.declared.made.TxMade.{TxMade}
use Rattle.vmx_ends.specs.Frames.{longer, larger, sent_of}
use Rattle.vmx_ends.specs.Transmit.{TxDriverView, TxDeviceView}
use Rattle.vmx_ends.specs.TransmitClauses.{no_made}
use Rattle.vmx_tx_ring.specs.declared.known.TxDriverKnows.{TxDriverKnows}
use Rattle.vmx_tx_ring.specs.declared.known.TxDeviceKnows.{TxDeviceKnows}
use Rattle.vmx_tx_ring.specs.declared.known.TxNews.{TxNews}
use Rattle.vmx_tx_ring.specs.declared.known.TxKnown.{TxKnown}
use Rattle.vmx_tx_ring.specs.Pieces.{ending}

-- what an end knows that did nothing yet
abbrev pub new_driver : TxDriverKnows
new_driver = record { at = record { sent = []; staged = []; opened = false; reaped = 0; checking = false }; looks = []; heard = 0; notes_given = 0; notes_heard = 0 }

abbrev pub new_device : TxDeviceKnows
new_device = record { at = record { taken = []; read = 0; ahead = []; emptying = false; at_hand = ending false; completed = 0; closing = false }; looks = []; heard = []; notes_given = 0; notes_heard = 0 }

abbrev pub no_news : TxMade → TxNews
no_news m = record { made = m; frames = []; done = 0 }

-- a seat that has given all that it had to another
abbrev pub nobody : TxKnown
nobody = record { drives = false; serves = false; made = no_made; driver = new_driver; device = new_device; news = no_news no_made; of_driver = false; of_device = false }

abbrev pub newcomer : TxMade → TxKnown
newcomer m = record nobody { drives = true; serves = true; made = m; news = no_news m }

abbrev pub driver_part : TxKnown → TxKnown
driver_part v = record v { serves = false }

abbrev pub device_part : TxKnown → TxKnown
device_part v = record v { drives = false }

-- the driver's seat takes in the device's
abbrev pub together : TxKnown → TxKnown → TxKnown
together v w = record v { serves = true; device = w.device; news = record v.news { made = w.made } }

-- an end gives a note
abbrev pub gave_driver : TxKnown → TxKnown
gave_driver v = record v { driver = record v.driver { notes_given = suc v.driver.notes_given } }

abbrev pub driver_slip : TxKnown → TxKnown
driver_slip v = record nobody { news = record { made = v.made; frames = v.driver.at.sent; done = v.driver.at.reaped }; of_driver = true }

abbrev pub gave_device : TxKnown → TxKnown
gave_device v = record v { device = record v.device { notes_given = suc v.device.notes_given } }

abbrev pub device_slip : TxKnown → TxKnown
device_slip v = record nobody { news = record { made = v.made; frames = sent_of v.device.at.taken; done = v.device.at.completed }; of_device = true }

-- the driver hears the device's note, and the device the driver's
abbrev pub hears_device : TxKnown → TxKnown → TxKnown
hears_device v w = record v { driver = record v.driver { heard = larger v.driver.heard w.news.done; notes_heard = suc v.driver.notes_heard }; news = w.news }

abbrev pub hears_driver : TxKnown → TxKnown → TxKnown
hears_driver v w = record v { device = record v.device { heard = longer v.device.heard w.news.frames; notes_heard = suc v.device.notes_heard }; news = w.news }

-- the view of a badge
abbrev pub known : List TxKnown → TxKnown
known [] = nobody
known (v ∷ vs) = v

-- what contracts see of an end, by its table's key
abbrev pub driver_seen : List ℕ → TxKnown → TxDriverView
driver_seen key v = let d : TxDriverKnows = v.driver in record { key = key; made = v.made; sent = d.at.sent; reaped = d.at.reaped; looks = d.looks; heard = d.heard; notes_given = d.notes_given; notes_heard = d.notes_heard }

abbrev pub device_seen : List ℕ → TxKnown → TxDeviceView
device_seen key v = let e : TxDeviceKnows = v.device in record { key = key; made = v.made; taken = e.at.taken; completed = e.at.completed; looks = e.looks; heard = e.heard; given = false; bad = None; notes_given = e.notes_given; notes_heard = e.notes_heard }
