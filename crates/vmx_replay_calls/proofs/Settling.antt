-- Steps of a guest with the notes behind them, from the words of the calls to those of the proofs.
use Rattle.std.proofs.Common.{◌≡◌, List, set, sym, ap, ◌∙◌, subst, ℕ, length, Some, None, Option}
use Rattle.std.specs.List.{slice_get}
use Rattle.std.proofs.lemmas.List.{length-set}
use Rattle.vmx_device_state.specs.declared.turn.CommandView.{CommandView}
use Rattle.vmx_device_looks.specs.Queues.{all_set}
use Rattle.vmx_device_laws.specs.Views.{DeviceView}
use Rattle.vmx_device_laws.proofs.PairingIn.{some_same}
use Rattle.vmx_driver_steps.specs.Driver.{DriverView}
use Rattle.vmx_replay_guests.specs.Passing.{RegsPassed}
use Rattle.vmx_replay_settled.specs.Settled.{BothKeep, QueuesSettled, Settles, TurnsSettled}
use Rattle.vmx_replay_worlds.specs.Guests.{GuestView}
use Rattle.vmx_replay_worlds.proofs.Lists.{get_set}
use Rattle.vmx_replay_chains.specs.Chains.{ChangesOn, TurnsOn, LinksOn}
use Rattle.vmx_replay_calls.specs.Resting.{guest_of, AllKeep}
use Rattle.vmx_replay_calls.proofs.Steps.{GuestPassed, LinksTold, Turned}
use Rattle.vmx_replay_calls.proofs.Notes.{regs_asked}
use Rattle.vmx_replay_calls.proofs.Zipped.{all_told}

-- ------------------------------------------------------------ notes

-- while a command is outstanding, notes of the registers alone
pub settles_asked : (v : DriverView) (d : DeviceView) (v' : DriverView) (d' : DeviceView) (c : CommandView) → Settles v d v' d' → v.calls.asked ≡ Some c → RegsPassed v d v' d'
settles_asked v d v' d' c s e =
    let q = subst (λ (o : Option CommandView). QueuesSettled o s.told_v s.told_d v' d') (regs_asked v d s.told_v s.told_d s.regs ∙ e) s.queues in
    subst (λ (x : DriverView × DeviceView). RegsPassed v d x.0 x.1) (λ i. (sym q.0 i, sym q.1 i)) s.regs

-- and else of the queues behind them
pub settles_none : (v : DriverView) (d : DeviceView) (r : GuestView) → Settles v d r.driver r.device → v.calls.asked ≡ None → GuestPassed (guest_of v d) r
settles_none v d r s e = record {
  mid = guest_of s.told_v s.told_d;
  regs = s.regs;
  queues = subst (λ (o : Option CommandView). QueuesSettled o s.told_v s.told_d r.driver r.device) (regs_asked v d s.told_v s.told_d s.regs ∙ e) s.queues;
}

-- ------------------------------------------------------------ all guests

pub changes_keep : (port : ℕ) (P : GuestView → GuestView → Type 0) (rs rs' : List GuestView) → ChangesOn port P rs rs' → AllKeep rs → AllKeep rs'
changes_keep port P rs rs' c k = subst AllKeep (sym c.is) (all_set (λ (r : GuestView). BothKeep r.driver r.device) rs port c.after c.keeps k)

-- the guest that changed is there
pub changed_at : (port : ℕ) (P : GuestView → GuestView → Type 0) (rs rs' : List GuestView) (c : ChangesOn port P rs rs') → slice_get rs' port ≡ Some c.after
changed_at port P rs rs' c = ap (λ (xs : List GuestView). slice_get xs port) c.is ∙ get_set rs port c.before c.after c.at

pub changed_long : (port : ℕ) (P : GuestView → GuestView → Type 0) (rs rs' : List GuestView) → ChangesOn port P rs rs' → length rs' ≡ length rs
changed_long port P rs rs' c = ap (λ (xs : List GuestView). length xs) c.is ∙ length-set rs port c.after

-- one change behind another is of the same guest
pub same_guest : (port : ℕ) (P Q : GuestView → GuestView → Type 0) (rs ms rs' : List GuestView) (c : ChangesOn port P rs ms) (d : ChangesOn port Q ms rs') → d.before ≡ c.after
same_guest port P Q rs ms rs' c d = some_same (slice_get ms port) d.before c.after d.at (changed_at port P rs ms c)

-- ------------------------------------------------------------ a turn

-- the turn of the guest at a port, as it stands there in a list of guests
module _ (port : ℕ) (xs ys zs rs' : List GuestView) (guest : GuestView) (same_list : ys ≡ xs) (t : TurnsOn port ys zs) (same : t.before ≡ guest) (keep : BothKeep guest.driver guest.device) (none : guest.driver.calls.asked ≡ None) where
  abbrev pub does : TurnsSettled guest.driver guest.device t.after.driver t.after.device
  does = subst (λ (r : GuestView). TurnsSettled r.driver r.device t.after.driver t.after.device) same t.does

  pub here : slice_get xs port ≡ Some guest
  here = ap (λ (l : List GuestView). slice_get l port) (sym same_list) ∙ t.at ∙ ap (λ (r : GuestView). Some r) same

  pub list_is : zs ≡ set xs port t.after
  list_is = t.is ∙ ap (λ (l : List GuestView). set l port t.after) same_list

  abbrev pub turned_from : LinksOn port zs rs' → Turned port guest does.worked xs rs'
  turned_from links = record {
    at = here;
    keep = keep;
    device = does.turned;
    once = does.once;
    device_keeps = does.keeps;
    told = t.after;
    kept = t.keeps;
    passed = settles_none guest.driver does.turned t.after does.settles none;
    links = subst (λ (x : ℕ × List GuestView). LinksTold port x.0 x.1 rs') (λ i. ((ap (λ (l : List GuestView). length l) list_is ∙ length-set xs port t.after) i, list_is i)) (all_told port zs rs' links);
  }
