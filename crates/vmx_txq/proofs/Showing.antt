-- What a look from outside finds.
use Rattle.std.proofs.Common.{◌≡◌, ℕ, List, [], true, false, sym, refl, ap, ◌∙◌}
use mathlib.Core.Option.{none}
use Rattle.atomic_table.specs.Table.{Me, step, Allows}
use Rattle.vmx_ring_laws.specs.Steps.{stays}
use Rattle.vmx_closing.specs.Standing.{Stood}
use Rattle.vmx_tx_ring.specs.declared.known.TxKnown.{TxKnown}
use Rattle.vmx_tx_ring.specs.declared.known.TxBuffer.{TxBuffer}
use Rattle.vmx_tx_ring.specs.declared.known.TxDriverKnows.{TxDriverKnows}
use Rattle.vmx_tx_ring.specs.declared.known.TxDeviceKnows.{TxDeviceKnows}
use Rattle.vmx_tx_ring.specs.Rule.{Story, Queue}
use Rattle.vmx_tx_ring.specs.Seats.{driver_seen, device_seen}
use Rattle.vmx_txq.specs.Completions.{Rows}
use Rattle.vmx_txq.specs.Tells.{Seen, seen_only}
use Rattle.vmx_txq.specs.Standing.{DriverDid, DeviceDid, IsWord, StandsIn, bytes_of}

-- a load changes nothing, and the rule says what it finds
pub shows : (n id : ℕ) (me : Me TxBuffer TxKnown) (k : ℕ) → me.0.drives ≡ true → Allows (Queue Rows) n id me k (λ x. x) (seen_only (step n k 0 0 none) me)
shows n id me k may = stays (Queue Rows) n id me k (seen_only (step n k 0 0 none) me)
    (λ s l wide at. let own = (l.kept.each id me.0 at).driver's may in (refl, record { state = s; allowed = l; made_is = sym own.1; driver_is = sym own.3; word_is = refl }))

-- what the driver knows is what its end shows
pub driver_did : (key : List ℕ) (y : Story) (v : TxKnown) → y.made ≡ v.made → y.d ≡ v.driver → v.driver.at.staged ≡ [] → v.driver.at.opened ≡ false → DriverDid y (driver_seen key v)
driver_did key y v made is none_ shut = record {
  made = made;
  sent = ap (λ (z : TxDriverKnows). z.at.sent) is;
  reaped = ap (λ (z : TxDriverKnows). z.at.reaped) is;
  rests = (ap (λ (z : TxDriverKnows). z.at.staged) is ∙ none_, ap (λ (z : TxDriverKnows). z.at.opened) is ∙ shut);
}

pub device_did : (key : List ℕ) (y : Story) (v : TxKnown) → y.e ≡ v.device → v.device.at.ahead ≡ [] → v.device.at.emptying ≡ false → DeviceDid y (device_seen key v)
device_did key y v is none_ idle = record {
  taken = ap (λ (z : TxDeviceKnows). z.at.taken) is;
  completed = ap (λ (z : TxDeviceKnows). z.at.completed) is;
  rests = (ap (λ (z : TxDeviceKnows). z.at.ahead) is ∙ none_, ap (λ (z : TxDeviceKnows). z.at.emptying) is ∙ idle);
}

pub is_word : (key : List ℕ) (v : TxKnown) (index r : ℕ) → v.driver.at.staged ≡ [] → v.driver.at.opened ≡ false → Seen v index r → IsWord (driver_seen key v) index r
is_word key v index r none_ shut seen = record { state = seen.state; allowed = seen.allowed; driver = driver_did key seen.allowed.story v seen.made_is seen.driver_is none_ shut; word_is = seen.word_is }

-- what a closed table held, where its last seat knew what both ends did
pub stands_in : (key key' : List ℕ) (seat : ℕ) (both v w : TxKnown) (words bytes : List ℕ) → Stood (Queue Rows) bytes_of seat both words bytes → both.drives ≡ true → both.serves ≡ true → both.made ≡ v.made → both.driver ≡ v.driver → both.device ≡ w.device
    → v.driver.at.staged ≡ [] → v.driver.at.opened ≡ false → w.device.at.ahead ≡ [] → w.device.at.emptying ≡ false → StandsIn (driver_seen key v) (device_seen key' w) words bytes
stands_in key key' seat both v w words bytes st drives serves made driver device none_ shut no_more idle =
    let s = st.stood.0 in let q = st.stood.1.0 in let fits = q.kept.each seat both st.stood.1.1 in let own = fits.driver's drives in let its = fits.device's serves in record {
      state = s;
      allowed = q;
      driver = driver_did key q.story v (sym own.1 ∙ made) (sym own.3 ∙ driver) none_ shut;
      device = device_did key' q.story w (sym its.3 ∙ device) no_more idle;
      words_are = sym st.stood.2;
      buffers = st.slots;
      as_many = sym st.stood.3;
      at_home = st.stood.4;
      bytes_are = st.bytes_are;
    }
