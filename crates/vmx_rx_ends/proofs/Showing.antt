-- What a look from outside finds.
use Rattle.std.proofs.Common.{◌≡◌, ℕ, List, Bool, false, true, sym, refl, ap, ◌∙◌}
use mathlib.Core.Option.{none}
use Rattle.atomic_table.specs.Table.{step, Allows}
use Rattle.vmx_ring_laws.specs.Steps.{stays}
use Rattle.vmx_ends.specs.Receive.{used, took1, took2, pieces_of}
use Rattle.vmx_rx_ring.specs.declared.known.Known.{Known}
use Rattle.vmx_rx_ring.specs.declared.known.DriverKnows.{DriverKnows}
use Rattle.vmx_rx_ring.specs.Rule.{Story, Queue}
use Rattle.vmx_rx_ring.specs.Tells.{Seated}
use Rattle.vmx_rx_ends.specs.Views.{driver_seen}
use Rattle.vmx_rx_ends.specs.Standing.{DriverDid, IsWord, Seen, seen_only}

-- a load changes nothing, and the rule says what it finds
pub shows : (counted : Bool) (n seat : ℕ) (me : Seated) (k : ℕ) → me.0.receives ≡ true → Allows (Queue counted) n seat me k (λ x. x) (seen_only counted (step n k 0 0 none) me)
shows counted n seat me k may = stays (Queue counted) n seat me k (seen_only counted (step n k 0 0 none) me)
    (λ s l wide at. let own = (l.kept.each seat me.0 at).driver's may in (refl, record { state = s; allowed = l; made_is = sym own.1; driver_is = sym own.2; word_is = refl }))

-- what the driver knows is what its end shows
pub driver_did : (key : List ℕ) (y : Story) (v : Known) → y.made ≡ v.made → y.d ≡ v.driver → v.driver.read ≡ used pieces_of v.driver.received → v.driver.back1 ≡ used took1 v.driver.received → v.driver.back2 ≡ used took2 v.driver.received → v.driver.reading ≡ false
    → DriverDid y (driver_seen key v)
driver_did key y v made is read back1 back2 idle = record {
  made = made;
  received = ap (λ (z : DriverKnows). z.received) is;
  read = ap (λ (z : DriverKnows). z.read) is ∙ read;
  back = (ap (λ (z : DriverKnows). z.back1) is ∙ back1, ap (λ (z : DriverKnows). z.back2) is ∙ back2);
  rests = ap (λ (z : DriverKnows). z.reading) is ∙ idle;
}

pub is_word : (counted : Bool) (key : List ℕ) (v : Known) (index r : ℕ) → v.driver.read ≡ used pieces_of v.driver.received → v.driver.back1 ≡ used took1 v.driver.received → v.driver.back2 ≡ used took2 v.driver.received → v.driver.reading ≡ false
    → Seen counted v index r → IsWord counted (driver_seen key v) index r
is_word counted key v index r read back1 back2 idle seen = record { state = seen.state; allowed = seen.allowed; driver = driver_did key seen.allowed.story v seen.made_is seen.driver_is read back1 back2 idle; word_is = seen.word_is }
