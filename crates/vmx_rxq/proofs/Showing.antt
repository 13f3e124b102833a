-- What a look from outside finds.
use Rattle.std.proofs.Common.{◌≡◌, ℕ, List, [], false, true, None, refl, sym, ap, ◌∙◌}
use mathlib.Core.Option.{none}
use Rattle.atomic_table.specs.Table.{step, Allows}
use Rattle.vmx_ring_laws.specs.Steps.{stays}
use Rattle.vmx_closing.specs.Standing.{Stood}
use Rattle.vmx_ends.specs.Receive.{used, took1, took2, pieces_of}
use Rattle.vmx_rx_ring.specs.declared.known.Known.{Known}
use Rattle.vmx_rx_ring.specs.declared.known.DriverKnows.{DriverKnows}
use Rattle.vmx_rx_ring.specs.declared.known.DeviceKnows.{DeviceKnows}
use Rattle.vmx_rx_ring.specs.Rule.{Queue}
use Rattle.vmx_rx_ring.specs.Tells.{Seated}
use Rattle.vmx_rx_ring.specs.Words.{count}
use Rattle.vmx_rx_ends.specs.Views.{driver_seen, device_seen}
use Rattle.vmx_rx_ends.specs.Standing.{StandsIn, bytes_of}
use Rattle.vmx_rxq.specs.Counting.{counted_slots}

-- a load changes nothing, and there are as many slots as descriptors
pub slots : (n seat : ℕ) (me : Seated) (k : ℕ) → me.0.receives ≡ true → Allows (Queue false) n seat me k (λ x. x) (counted_slots (step n k 0 0 none) me)
slots n seat me k may = stays (Queue false) n seat me k (counted_slots (step n k 0 0 none) me)
    (λ s l wide at. let own = (l.kept.each seat me.0 at).driver's may in (refl, sym wide ∙ l.kept.homes.as_many_slots ∙ ap count (sym own.1)))

-- between two calls the driver has posted back what it received
pub record DriverRests (g : DriverKnows) : Type 0 where
  pub read : g.read ≡ used pieces_of g.received
  pub back1 : g.back1 ≡ used took1 g.received
  pub back2 : g.back2 ≡ used took2 g.received
  pub idle : g.reading ≡ false

-- and the device has nothing staged
pub record DeviceRests (e : DeviceKnows) : Type 0 where
  pub gone1 : e.gone1 ≡ used took1 e.delivered
  pub gone2 : e.gone2 ≡ used took2 e.delivered
  pub staged : e.staged ≡ []
  pub opened : e.opened ≡ []
  pub filling : e.filling ≡ None

-- what a closed table held, where its last seat knew what both ends did
pub stands_in : (key key' : List ℕ) (seat : ℕ) (both v w : Known) (words bytes : List ℕ) → Stood (Queue false) bytes_of seat both words bytes → both.delivers ≡ true → both.receives ≡ true → both.made ≡ v.made → both.driver ≡ v.driver
    → both.device ≡ record w.device { latest_made = w.made } → DriverRests v.driver → DeviceRests w.device → StandsIn false (driver_seen key v) (device_seen key' w) words bytes
stands_in key key' seat both v w words bytes st delivers receives made driver device rest still =
    let s = st.stood.0 in let q = st.stood.1.0 in let fits = q.kept.each seat both st.stood.1.1 in let own = fits.driver's receives in let its = fits.device's delivers in let d = sym own.2 ∙ driver in let e = sym its.2 ∙ device in record {
      state = s;
      allowed = q;
      driver = record {
        made = sym own.1 ∙ made;
        received = ap (λ (z : DriverKnows). z.received) d;
        read = ap (λ (z : DriverKnows). z.read) d ∙ rest.read;
        back = (ap (λ (z : DriverKnows). z.back1) d ∙ rest.back1, ap (λ (z : DriverKnows). z.back2) d ∙ rest.back2);
        rests = ap (λ (z : DriverKnows). z.reading) d ∙ rest.idle;
      };
      device = record {
        delivered = ap (λ (z : DeviceKnows). z.delivered) e;
        refused = ap (λ (z : DeviceKnows). z.refused) e;
        gone = (ap (λ (z : DeviceKnows). z.gone1) e ∙ still.gone1, ap (λ (z : DeviceKnows). z.gone2) e ∙ still.gone2);
        rests = (ap (λ (z : DeviceKnows). z.staged) e ∙ still.staged, ap (λ (z : DeviceKnows). z.opened) e ∙ still.opened, ap (λ (z : DeviceKnows). z.filling) e ∙ still.filling);
      };
      words_are = sym st.stood.2;
      buffers = st.slots;
      as_many = sym st.stood.3;
      at_home = st.stood.4;
      bytes_are = st.bytes_are;
    }
