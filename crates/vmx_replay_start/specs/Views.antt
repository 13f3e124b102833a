-- The guests of a run as contracts see them.
use Rattle.std.specs.Prelude.{List, map}
use Rattle.vmx_replay_guests.specs.declared.guest.Guest.{Guest}
use Rattle.vmx_replay_worlds.specs.Guests.{GuestView}

abbrev pub guest_view : {F TxNote TxDriver TxDevice TxFacts RxNote RxDriver RxDevice RxFacts : Type 0} → Guest F TxNote TxDriver TxDevice TxFacts RxNote RxDriver RxDevice RxFacts → GuestView
guest_view g = record { driver = g.driver.driver; device = g.device }

abbrev pub guest_views : {F TxNote TxDriver TxDevice TxFacts RxNote RxDriver RxDevice RxFacts : Type 0} → List (Guest F TxNote TxDriver TxDevice TxFacts RxNote RxDriver RxDevice RxFacts) → List GuestView
guest_views gs = map guest_view gs
