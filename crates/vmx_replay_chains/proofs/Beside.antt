-- The devices and the drivers of guests, where notes of links changed devices alone.
use Rattle.std.proofs.Common.{◌≡◌, ℕ, List, map, sym, ap, ◌∙◌, subst}
use mathlib.Core.List.{map-map}
use Rattle.vmx_device_laws.specs.Views.{DeviceView}
use Rattle.vmx_driver.specs.Stocked.{Stocked}
use Rattle.vmx_replay_worlds.specs.Guests.{GuestView}
use Rattle.vmx_replay_settled.specs.Linked.{HasLinksIn, IsLinkOn, LinkPassedOn, LinksPassedTo}
use Rattle.vmx_replay_chains.specs.Chains.{LinkOn, LinksOn, devices_of, drivers_of}

module _ {G : Type 0} (driver : G → Stocked) (device : G → DeviceView) where
  abbrev view : G → GuestView
  view g = record { driver = (driver g).driver; device = device g }

  pub devices_are : (gs : List G) → devices_of (map view gs) ≡ map device gs
  devices_are gs = map-map (λ (r : GuestView). r.device) view gs

  drivers_are : (gs : List G) → drivers_of (map view gs) ≡ map (λ (s : Stocked). s.driver) (map driver gs)
  drivers_are gs = map-map (λ (r : GuestView). r.driver) view gs ∙ sym (map-map (λ (s : Stocked). s.driver) driver gs)

  drivers_stay : (gs gs' : List G) → map driver gs' ≡ map driver gs → drivers_of (map view gs') ≡ drivers_of (map view gs)
  drivers_stay gs gs' e = drivers_are gs' ∙ ap (map (λ (s : Stocked). s.driver)) e ∙ sym (drivers_are gs)

  pub link_here : (from to : ℕ) (gs : List G) → IsLinkOn from to (devices_of (map view gs)) → IsLinkOn from to (map device gs)
  link_here from to gs k = subst (IsLinkOn from to) (devices_are gs) k

  pub links_here : (to : ℕ) (gs : List G) → HasLinksIn to (devices_of (map view gs)) → HasLinksIn to (map device gs)
  links_here to gs k = subst (HasLinksIn to) (devices_are gs) k

  pub told_on : (from to : ℕ) (gs gs' : List G) → LinkPassedOn from to (map device gs) (map device gs') → map driver gs' ≡ map driver gs → LinkOn from to (map view gs) (map view gs')
  told_on from to gs gs' p e = record {
    devices = subst (λ (x : List DeviceView × List DeviceView). LinkPassedOn from to x.0 x.1) (λ i. (sym (devices_are gs) i, sym (devices_are gs') i)) p;
    drivers = drivers_stay gs gs' e;
  }

  pub told_all : (to : ℕ) (gs gs' : List G) → LinksPassedTo to (map device gs) (map device gs') → map driver gs' ≡ map driver gs → LinksOn to (map view gs) (map view gs')
  told_all to gs gs' p e = record {
    devices = subst (λ (x : List DeviceView × List DeviceView). LinksPassedTo to x.0 x.1) (λ i. (sym (devices_are gs) i, sym (devices_are gs') i)) p;
    drivers = drivers_stay gs gs' e;
  }
