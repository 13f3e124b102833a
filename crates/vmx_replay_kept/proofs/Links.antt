-- Notes of links leave each end with as many notes heard as given.
use Rattle.std.proofs.Common.{ℕ, zero, suc, List, set, sym, ap, ◌∙◌, subst, inl, inr}
use Rattle.std.specs.List.{AllByRecursion}
use Rattle.std.proofs.lemmas.Bool.Decides.{eqb_tells}
use Rattle.vmx_link.specs.Views.{LinkOutView, LinkInView}
use Rattle.vmx_model.proofs.Copies.{all_map}
use Rattle.vmx_model.proofs.Tags.{all_map_back}
use Rattle.vmx_device_looks.specs.Queues.{all_at, all_set}
use Rattle.vmx_device_laws.specs.Views.{DeviceView}
use Rattle.vmx_replay_settled.specs.Linked.{LinkPassedOn, LinksPassedFrom}
use Rattle.vmx_replay_worlds.specs.Guests.{GuestView}
use Rattle.vmx_replay_chains.specs.Chains.{devices_of, LinkOn, LinksOn}
use Rattle.vmx_replay_kept.specs.Sound.{IsEvenOut, IsEvenIn, IsSound, AllSound}
use Rattle.vmx_replay_kept.proofs.Turns.{sound_by}

-- ------------------------------------------------------------ the devices of guests

devices_sound : (rs : List GuestView) → AllSound rs → AllByRecursion IsSound (devices_of rs)
devices_sound rs h = all_map (λ (r : GuestView). r.device) IsSound rs h

sound_devices : (rs : List GuestView) → AllByRecursion IsSound (devices_of rs) → AllSound rs
sound_devices rs h = all_map_back (λ (r : GuestView). r.device) IsSound rs h

-- ------------------------------------------------------------ one link

module _ (from to : ℕ) (ds ds' : List DeviceView) (p : LinkPassedOn from to ds ds') (h : AllByRecursion IsSound ds) where
  sender : IsSound p.on.sender
  sender = all_at IsSound ds from p.on.sender p.on.sender_at h

  receiver : IsSound p.on.receiver
  receiver = all_at IsSound ds to p.on.receiver p.on.receiver_at h

  out_even : IsEvenOut p.passed.out'
  out_even = let e = all_at IsEvenOut p.on.sender.out p.passed.link.j p.passed.link.out p.passed.link.out_at sender.out in
      ap (λ (o : LinkOutView). o.notes_given) p.passed.passes.sender ∙ ap suc e ∙ sym (ap (λ (o : LinkOutView). o.notes_heard) p.passed.passes.sender)

  in_even : IsEvenIn p.passed.input'
  in_even = let e = all_at IsEvenIn p.on.receiver.input p.passed.link.k p.passed.link.input p.passed.link.input_at receiver.input in
      ap (λ (i : LinkInView). i.notes_given) p.passed.passes.receiver ∙ ap suc e ∙ sym (ap (λ (i : LinkInView). i.notes_heard) p.passed.passes.receiver)

  sender' : IsSound p.sender'
  sender' = sound_by p.on.sender p.sender'
      (subst (AllByRecursion IsEvenOut) (sym (ap (λ (d : DeviceView). d.out) p.passed.sender)) (all_set IsEvenOut p.on.sender.out p.passed.link.j p.passed.out' out_even sender.out))
      (subst (AllByRecursion IsEvenIn) (sym (ap (λ (d : DeviceView). d.input) p.passed.sender)) sender.input)
      (ap (λ (d : DeviceView). d.calls.served) p.passed.sender) sender

  receiver' : IsSound p.receiver'
  receiver' = sound_by p.on.receiver p.receiver'
      (subst (AllByRecursion IsEvenOut) (sym (ap (λ (d : DeviceView). d.out) p.passed.receiver)) receiver.out)
      (subst (AllByRecursion IsEvenIn) (sym (ap (λ (d : DeviceView). d.input) p.passed.receiver)) (all_set IsEvenIn p.on.receiver.input p.passed.link.k p.passed.input' in_even receiver.input))
      (ap (λ (d : DeviceView). d.calls.served) p.passed.receiver) receiver

  pub passed_sound : AllByRecursion IsSound ds'
  passed_sound = subst (AllByRecursion IsSound) (sym p.is) (all_set IsSound (set ds from p.sender') to p.receiver' receiver' (all_set IsSound ds from p.sender' sender' h))

-- ------------------------------------------------------------ all links

pub from_sound : (n to : ℕ) (ds ds' : List DeviceView) → LinksPassedFrom n to ds ds' → AllByRecursion IsSound ds → AllByRecursion IsSound ds'
from_sound zero to ds ds' e h = subst (AllByRecursion IsSound) (sym e) h
from_sound (suc n) to ds ds' (mid, more, p) h =
    let before = from_sound n to ds mid more h in elim (eqb_tells n to) [
      | inl w ↦ subst (AllByRecursion IsSound) (sym (p.own w.1)) before
      | inr w ↦ passed_sound n to mid ds' (p.another w.1) before
    ]

pub link_sound : (from to : ℕ) (rs rs' : List GuestView) → LinkOn from to rs rs' → AllSound rs → AllSound rs'
link_sound from to rs rs' l h = sound_devices rs' (passed_sound from to (devices_of rs) (devices_of rs') l.devices (devices_sound rs h))

pub links_sound : (to : ℕ) (rs rs' : List GuestView) → LinksOn to rs rs' → AllSound rs → AllSound rs'
links_sound to rs rs' l h = sound_devices rs' (from_sound _ to (devices_of rs) (devices_of rs') l.devices (devices_sound rs h))
