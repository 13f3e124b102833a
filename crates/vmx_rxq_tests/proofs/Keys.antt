-- A delivery leaves the key of its end.
use Rattle.std.proofs.Common.{◌≡◌, ℕ, List, ap}
use Rattle.vmx_ends.specs.Receive.{RxDeviceView}
use Rattle.vmx_ends.specs.ReceiveClauses.{Delivers}
use Rattle.vmx_ends.specs.declared.answers.Deliver.{Deliver}
use Rattle.vmx_ends.specs.declared.answers.Deliver.TheVariants.{Done, NoBuffer, Bad}
use Rattle.vmx_ends.specs.declared.meta.RxMeta.{RxMeta}

pub key_stays : (old : RxDeviceView) (frame : List ℕ) (meta : RxMeta) (answer : Deliver) (new : RxDeviceView) → Delivers old frame meta answer new → new.key ≡ old.key
key_stays old frame meta (Done place) new d = ap (λ (v : RxDeviceView). v.key) d.1.is
key_stays old frame meta (NoBuffer ring position word look) new d = ap (λ (v : RxDeviceView). v.key) d.is
key_stays old frame meta (Bad words fault) new d = ap (λ (v : RxDeviceView). v.key) d.is
