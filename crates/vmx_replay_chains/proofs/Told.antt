-- What notes of links leave: each guest but for its links, and the links to a port.
use Rattle.std.proofs.Common.{◌≡◌, ◌≤◌, ℕ, zero, suc, List, [], ◌∷◌, length, map, refl, sym, ap, ap₂, ◌∙◌, subst, Some, option_map, inl, inr}
use Rattle.std.specs.List.{slice_get}
use Rattle.std.proofs.lemmas.List.{length-map}
use Rattle.vmx_regs.specs.declared.known.Calls.{Calls}
use Rattle.vmx_device_state.specs.Deals.{IsWhole}
use Rattle.vmx_machine_state.specs.Views.{MachineView, ends_of, handed_of}
use Rattle.vmx_model.specs.declared.journal.Entry.{Entry}
use Rattle.vmx_device_laws.specs.Views.{DeviceView}
use Rattle.vmx_driver_steps.specs.Driver.{DriverView}
use Rattle.vmx_replay_guests.proofs.Ends.{one_there}
use Rattle.vmx_replay_worlds.specs.Guests.{GuestView}
use Rattle.vmx_replay_settled.specs.Settled.{ArePaired}
use Rattle.vmx_replay_settled.specs.Linked.{LinkPassedOn, HasLinksIn, PassedIfOther, LinksPassedFrom}
use Rattle.vmx_replay_settled.proofs.LinkByLink.{same_or, receiver_there, links_still, links_after}
use Rattle.vmx_replay_chains.specs.Chains.{LinkOn, LinksOn, IsPairedOn, devices_of, drivers_of}

-- ------------------------------------------------------------ one guest of a list

-- what is read off of an item
pub map_at : {X Y : Type 0} (f : X → Y) (xs : List X) (i : ℕ) (x : X) → slice_get xs i ≡ Some x → slice_get (map f xs) i ≡ Some (f x)
map_at f [] i x e = absurd (cc e)
map_at f (y ∷ ys) zero x e = let same : y ≡ x = cc e in ap (λ (z : _). Some (f z)) same
map_at f (y ∷ ys) (suc i) x e = map_at f ys i x e

-- an item of two parts
module _ {X A B : Type 0} (f : X → A) (g : X → B) (make : A → B → X) (whole : (x : X) → make (f x) (g x) ≡ x) where
  made_at : (xs : List X) (i : ℕ) (a : A) (b : B) → slice_get (map f xs) i ≡ Some a → slice_get (map g xs) i ≡ Some b → slice_get xs i ≡ Some (make a b)
  made_at [] i a b p q = absurd (cc p)
  made_at (x ∷ xs) zero a b p q = let e : f x ≡ a = cc p in let h : g x ≡ b = cc q in ap Some (sym (whole x) ∙ ap₂ make e h)
  made_at (x ∷ xs) (suc i) a b p q = made_at xs i a b p q

by_parts : (rs : List GuestView) (i : ℕ) (v : DriverView) (d : DeviceView) → slice_get (drivers_of rs) i ≡ Some v → slice_get (devices_of rs) i ≡ Some d → slice_get rs i ≡ Some (record { driver = v; device = d })
by_parts rs i v d a b = made_at (λ (r : GuestView). r.driver) (λ (r : GuestView). r.device) (λ (x : DriverView) (y : DeviceView). record { driver = x; device = y }) (λ (r : GuestView). refl) rs i v d a b

driver_at : (rs : List GuestView) (i : ℕ) (r : GuestView) → slice_get rs i ≡ Some r → slice_get (drivers_of rs) i ≡ Some r.driver
driver_at rs i r e = map_at (λ (x : GuestView). x.driver) rs i r e

pub device_at : (rs : List GuestView) (i : ℕ) (r : GuestView) → slice_get rs i ≡ Some r → slice_get (devices_of rs) i ≡ Some r.device
device_at rs i r e = map_at (λ (x : GuestView). x.device) rs i r e

-- ------------------------------------------------------------ a device but for its links

pub record KeepsAllElse (d d' : DeviceView) : Type 0 where
  pub key : d'.key ≡ d.key
  pub machine : d'.machine ≡ d.machine
  pub calls : d'.calls ≡ d.calls
  pub entries : d'.entries ≡ d.entries

pub all_same : (d : DeviceView) → KeepsAllElse d d
all_same d = record { key = refl; machine = refl; calls = refl; entries = refl }

pub then_else : (d m d' : DeviceView) → KeepsAllElse d m → KeepsAllElse m d' → KeepsAllElse d d'
then_else d m d' a b = record { key = b.key ∙ a.key; machine = b.machine ∙ a.machine; calls = b.calls ∙ a.calls; entries = b.entries ∙ a.entries }

pub paired_else : (v : DriverView) (d d' : DeviceView) → KeepsAllElse d d' → ArePaired v d → ArePaired v d'
paired_else v d d' k p = record { key = p.key ∙ sym k.key; even = p.even; whole = subst (λ (m : MachineView). IsWhole (option_map handed_of (ends_of m))) (sym k.machine) p.whole }

-- ------------------------------------------------------------ notes of links

-- the device at the port that they lead to
record ToldAt (to : ℕ) (ds' : List DeviceView) (d : DeviceView) : Type 0 where
  device : DeviceView
  at : slice_get ds' to ≡ Some device
  keeps : KeepsAllElse d device

told_one : (from to : ℕ) (ds ds' : List DeviceView) → LinkPassedOn from to ds ds' → (d : DeviceView) → slice_get ds to ≡ Some d → ToldAt to ds' d
told_one from to ds ds' p d at =
    let same : p.on.receiver ≡ d = one_there ds to p.on.receiver d p.on.receiver_at at in
    let is = p.passed.receiver in
    let keeps : KeepsAllElse p.on.receiver p.receiver' = record {
      key = ap (λ (x : DeviceView). x.key) is;
      machine = ap (λ (x : DeviceView). x.machine) is;
      calls = ap (λ (x : DeviceView). x.calls) is;
      entries = ap (λ (x : DeviceView). x.entries) is;
    } in
    record { device = p.receiver'; at = receiver_there from to ds ds' p; keeps = subst (λ (x : DeviceView). KeepsAllElse x p.receiver') same keeps }

told_if : (from to : ℕ) (ds ds' : List DeviceView) → PassedIfOther from to ds ds' → (d : DeviceView) → slice_get ds to ≡ Some d → ToldAt to ds' d
told_if from to ds ds' p d at = elim (same_or from to) [
  | inl e ↦ record { device = d; at = ap (λ (xs : List DeviceView). slice_get xs to) (p.own e) ∙ at; keeps = all_same d }
  | inr ne ↦ told_one from to ds ds' (p.another ne) d at
]

told_from : (n to : ℕ) (ds ds' : List DeviceView) → LinksPassedFrom n to ds ds' → (d : DeviceView) → slice_get ds to ≡ Some d → ToldAt to ds' d
told_from zero to ds ds' p d at = record { device = d; at = ap (λ (xs : List DeviceView). slice_get xs to) p ∙ at; keeps = all_same d }
told_from (suc n) to ds ds' (mid, before, one) d at =
    let m = told_from n to ds mid before d at in let s = told_if n to mid ds' one m.device m.at in
    record { device = s.device; at = s.at; keeps = then_else d m.device s.device m.keeps s.keeps }

links_from : (n to : ℕ) (ds ds' : List DeviceView) → LinksPassedFrom n to ds ds' → HasLinksIn to ds → HasLinksIn to ds'
links_from zero to ds ds' p h = subst (HasLinksIn to) (sym p) h
links_from (suc n) to ds ds' (mid, before, one) h = links_after n to mid ds' one (links_from n to ds mid before h)

-- ------------------------------------------------------------ pairs, links and the number of guests

module _ (n m to : ℕ) (rs rs' : List GuestView) where
  paired_by : drivers_of rs' ≡ drivers_of rs → (p : IsPairedOn n m to rs) → ToldAt to (devices_of rs') p.guest.device → IsPairedOn n m to rs'
  paired_by drivers p t = record {
    guest = record { driver = p.guest.driver; device = t.device };
    at = by_parts rs' to p.guest.driver t.device (ap (λ (vs : List DriverView). slice_get vs to) drivers ∙ driver_at rs to p.guest p.at) t.at;
    paired = paired_else p.guest.driver p.guest.device t.device t.keeps p.paired;
    entries_ = subst (λ (es : List Entry). length es ≤ n) (sym t.keeps.entries) p.entries_;
    commands_ = subst (λ (c : Calls). length c.served ≤ m) (sym t.keeps.calls) p.commands_;
  }

  pub paired_told : LinksOn to rs rs' → IsPairedOn n m to rs → IsPairedOn n m to rs'
  paired_told l p = paired_by l.drivers p (told_from (length (devices_of rs)) to (devices_of rs) (devices_of rs') l.devices p.guest.device (device_at rs to p.guest p.at))

  pub paired_on : (from : ℕ) → LinkOn from to rs rs' → IsPairedOn n m to rs → IsPairedOn n m to rs'
  paired_on from l p = paired_by l.drivers p (told_one from to (devices_of rs) (devices_of rs') l.devices p.guest.device (device_at rs to p.guest p.at))

pub links_told : (to : ℕ) (rs rs' : List GuestView) → LinksOn to rs rs' → HasLinksIn to (devices_of rs) → HasLinksIn to (devices_of rs')
links_told to rs rs' l h = links_from (length (devices_of rs)) to (devices_of rs) (devices_of rs') l.devices h

pub link_told : (from to : ℕ) (rs rs' : List GuestView) → LinkOn from to rs rs' → HasLinksIn to (devices_of rs) → HasLinksIn to (devices_of rs')
link_told from to rs rs' l h = links_still from to (devices_of rs) (devices_of rs') l.devices h

long_by : (rs rs' : List GuestView) → drivers_of rs' ≡ drivers_of rs → length rs' ≡ length rs
long_by rs rs' e = sym (length-map rs' (λ (r : GuestView). r.driver)) ∙ ap length e ∙ length-map rs (λ (r : GuestView). r.driver)

pub long_told : (to : ℕ) (rs rs' : List GuestView) → LinksOn to rs rs' → length rs' ≡ length rs
long_told to rs rs' l = long_by rs rs' l.drivers

pub long_link : (from to : ℕ) (rs rs' : List GuestView) → LinkOn from to rs rs' → length rs' ≡ length rs
long_link from to rs rs' l = long_by rs rs' l.drivers
