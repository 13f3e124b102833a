-- A turn of a device leaves notes of its links as they are, and hands back ends behind whose words a driver stands.
use Rattle.std.proofs.Common.{◌≡◌, ◌+◌, ℕ, zero, suc, Bool, true, false, ◌||◌, List, [], ◌∷◌, ◌++◌, refl, sym, ap, ◌∙◌, subst, Option, Some, None, inl, inr}
use Rattle.std.specs.Prelude.{⊤}
use Rattle.std.specs.Option.{option_map}
use Rattle.std.specs.List.{AllByRecursion}
use Rattle.vmx_ends.specs.declared.packet.Packet.{Packet}
use Rattle.vmx_ends.specs.declared.packet.Tag.{Tag}
use Rattle.vmx_ends.specs.HandedEnds.{any_of}
use Rattle.vmx_ends.specs.Transmit.{TxDeviceView}
use Rattle.vmx_ends.specs.Receive.{RxDeviceView}
use Rattle.vmx_link.specs.Views.{LinkOutView}
use Rattle.vmx_device_state.specs.Deals.{Deal, Begins, Stops, Passes, Held, deal_of, held_after}
use Rattle.vmx_device_state.specs.declared.turn.Turn.{Turn}
use Rattle.vmx_regs.specs.declared.known.Calls.{Calls}
use Rattle.vmx_machine_state.specs.Views.{EndsView, ActiveView, MachineView, handed_of, ends_of}
use Rattle.vmx_machine_state.specs.Ends.{ends_back}
use Rattle.vmx_commands.specs.Replies.{Tracks, held_in}
use Rattle.vmx_commands.specs.Serving.{asked_with, told_with}
use Rattle.vmx_model.specs.declared.journal.Entry.{Entry}
use Rattle.vmx_model.specs.declared.journal.Way.{Way}
use Rattle.vmx_model.specs.declared.journal.Way.TheVariants as way
use Rattle.vmx_model.specs.Bags.{gift, gifts}
use Rattle.vmx_model.proofs.Tags.{all_append}
use Rattle.vmx_device_looks.specs.Links.{Pushed, PutsOut, PutsFrame}
use Rattle.vmx_device_looks.specs.Queues.{all_at, all_set}
use Rattle.vmx_device_laws.specs.Views.{DeviceView}
use Rattle.vmx_device_laws.specs.Pairs.{tx_of, rx_of}
use Rattle.vmx_device_laws.specs.Steps.{CommandStep, Obeys, TxStep, TxSteps, InStep, InSteps, TurnsOnce}
use Rattle.vmx_driver_steps.specs.Sending.{gifts_snoc}
use Rattle.vmx_trusted_turns.specs.Trusted.{TrustedTx, TrustedRx}
use Rattle.vmx_replay_kept.specs.Sound.{IsEvenOut, IsEvenIn, IsTrustedBag, IsSound}

-- ------------------------------------------------------------ of a device

pub sound_by : (d d' : DeviceView) → AllByRecursion IsEvenOut d'.out → AllByRecursion IsEvenIn d'.input → d'.calls.served ≡ d.calls.served → IsSound d → IsSound d'
sound_by d d' out input served h = record { out = out; input = input; bags = subst (λ (ts : List Turn). AllByRecursion IsTrustedBag (gifts ts)) (sym served) h.bags }

pub sound_same : (d d' : DeviceView) → d'.out ≡ d.out → d'.input ≡ d.input → d'.calls.served ≡ d.calls.served → IsSound d → IsSound d'
sound_same d d' out input served h = sound_by d d' (subst (AllByRecursion IsEvenOut) (sym out) h.out) (subst (AllByRecursion IsEvenIn) (sym input) h.input) served h

-- ------------------------------------------------------------ what is put out

pushed_even : (o o' : LinkOutView) (x : Packet) (w : Way) → Pushed o x w o' → IsEvenOut o → IsEvenOut o'
pushed_even o o' x (way.Link place) p e = ap (λ (y : LinkOutView). y.notes_given) p.1 ∙ e ∙ sym (ap (λ (y : LinkOutView). y.notes_heard) p.1)
pushed_even o o' x (way.Full look) p e = ap (λ (y : LinkOutView). y.notes_given) p.1.3 ∙ e ∙ sym (ap (λ (y : LinkOutView). y.notes_heard) p.1.3)

puts_even : (port : ℕ) (t : Tag) (frame : List ℕ) (tos : List ℕ) (es : List Entry) (old new : List LinkOutView) → PutsOut port t frame tos es old new → AllByRecursion IsEvenOut old → AllByRecursion IsEvenOut new
puts_even port t frame [] es old new p h = subst (AllByRecursion IsEvenOut) (sym p.1) h
puts_even port t frame (to ∷ tos) es old new (w, (rest, (mid, is, sends, more))) h =
    let one = pushed_even sends.link sends.after sends.packet w sends.pushed (all_at IsEvenOut old sends.number sends.link sends.at h) in
    puts_even port t frame tos rest mid new more (subst (AllByRecursion IsEvenOut) (sym sends.is) (all_set IsEvenOut old sends.number sends.after one h))

frame_even : (port : ℕ) (t : Tag) (frame : List ℕ) (tos : List ℕ) (es : List Entry) (old new : List LinkOutView) → PutsFrame port t frame tos es old new → AllByRecursion IsEvenOut old → AllByRecursion IsEvenOut new
frame_even port t frame [] es old new p h = subst (AllByRecursion IsEvenOut) (sym p.1) h
frame_even port t frame (to ∷ tos) es old new p h = puts_even port t frame (to ∷ tos) es old new p h

-- ------------------------------------------------------------ the looks of a turn

tx_sound : (q : ℕ) (found : Bool) (d d' : DeviceView) → TxStep q found d d' → IsSound d → IsSound d'
tx_sound q false d d' s h = elim s [
  | inl p ↦ subst IsSound (sym p.is) h
  | inr p ↦ sound_same d d' (ap (λ (x : DeviceView). x.out) p.is) (ap (λ (x : DeviceView). x.input) p.is) (ap (λ (x : DeviceView). x.calls.served) p.is) h
]
tx_sound q true d d' s h = elim s [
  | inl p ↦ sound_by d d' (subst (AllByRecursion IsEvenOut) (sym (ap (λ (x : DeviceView). x.out) p.is)) (frame_even _ _ _ _ _ d.out p.out p.puts h.out))
      (subst (AllByRecursion IsEvenIn) (sym (ap (λ (x : DeviceView). x.input) p.is)) h.input) (ap (λ (x : DeviceView). x.calls.served) p.is) h
  | inr p ↦ sound_same d d' (ap (λ (x : DeviceView). x.out) p.is) (ap (λ (x : DeviceView). x.input) p.is) (ap (λ (x : DeviceView). x.calls.served) p.is) h
]

all_tx : (q : ℕ) (found : Bool) (d d' : DeviceView) → TxSteps q found d d' → IsSound d → IsSound d'
all_tx zero found d d' p h = subst IsSound (sym p.1) h
all_tx (suc q) found d d' (before, here, (mid, is, step, more)) h = tx_sound q here mid d' step (all_tx q before d mid more h)

in_sound : (k : ℕ) (found : Bool) (d d' : DeviceView) → InStep k found d d' → IsSound d → IsSound d'
in_sound k false d d' p h = sound_by d d' (subst (AllByRecursion IsEvenOut) (sym (ap (λ (x : DeviceView). x.out) p.is)) h.out)
    (subst (AllByRecursion IsEvenIn) (sym (ap (λ (x : DeviceView). x.input) p.is ∙ p.pulls.is)) (all_set IsEvenIn d.input k _ (all_at IsEvenIn d.input k p.pulls.link p.pulls.at h.input) h.input)) (ap (λ (x : DeviceView). x.calls.served) p.is) h
in_sound k true d d' p h = sound_by d d' (subst (AllByRecursion IsEvenOut) (sym (ap (λ (x : DeviceView). x.out) p.is)) h.out)
    (subst (AllByRecursion IsEvenIn) (sym (ap (λ (x : DeviceView). x.input) p.is ∙ p.pulls.is)) (all_set IsEvenIn d.input k _ (all_at IsEvenIn d.input k p.pulls.link p.pulls.at h.input) h.input)) (ap (λ (x : DeviceView). x.calls.served) p.is) h

all_in : (k : ℕ) (found : Bool) (d d' : DeviceView) → InSteps k found d d' → IsSound d → IsSound d'
all_in zero found d d' p h = subst IsSound (sym p.1) h
all_in (suc k) found d d' (before, here, (mid, is, step, more)) h = in_sound k here mid d' step (all_in k before d mid more h)

-- ------------------------------------------------------------ ends that are handed back

-- none of the ends that a machine holds stands over given words
pub record HoldsTrusted (m : MachineView) : Type 0 where
  pub tx : TrustedTx (tx_of m.active)
  pub rx : TrustedRx (rx_of m.active)

abbrev IsTrustedEnds : Option EndsView → Type 0
IsTrustedEnds None = ⊤
IsTrustedEnds (Some e) = (handed_of e).given ≡ false

none_given : {X : Type 0} (f : X → Bool) (xs : List X) → AllByRecursion (λ (x : X). f x ≡ false) xs → any_of f xs ≡ false
none_given f [] h = refl
none_given f (x ∷ xs) h = (λ i. h.0 i || any_of f xs) ∙ none_given f xs h.1

ends_trusted : (m : MachineView) → HoldsTrusted m → IsTrustedEnds (ends_of m)
ends_trusted m t = by_active m.active t.tx t.rx
  where
    by_active : (o : Option ActiveView) → TrustedTx (tx_of o) → TrustedRx (rx_of o) → IsTrustedEnds (option_map (λ (a : ActiveView). a.ends) o)
    by_active None tx rx = tt
    by_active (Some a) tx rx = let none_tx = none_given (λ (e : TxDeviceView). e.given) a.ends.tx tx in let none_rx = none_given (λ (e : RxDeviceView). e.given) a.ends.rx rx in
        (λ i. none_tx i || any_of (λ (e : RxDeviceView). e.given) a.ends.rx) ∙ none_rx

gift_trusted : (d : Deal) (held given : Option EndsView) → IsTrustedEnds held → AllByRecursion IsTrustedBag (gift d (held_in held) (option_map handed_of (ends_back d held given)))
gift_trusted Begins held given t = tt
gift_trusted Passes held given t = tt
gift_trusted Stops None given t = tt
gift_trusted Stops (Some e) given t = (t, tt)

obeys_bags : (d d' : DeviceView) (o : Obeys d d') → Tracks d.machine d.calls.served → HoldsTrusted d.machine → AllByRecursion IsTrustedBag (gifts d.calls.served) → AllByRecursion IsTrustedBag (gifts d'.calls.served)
obeys_bags d d' o tracks trusted h =
    let a = o.answers in
    let t : Turn = record { command = asked_with o.number a.image a.given; answer = told_with o.value a.written a.back } in
    let served : d'.calls.served ≡ d.calls.served ++ t ∷ [] = ap (λ (x : DeviceView). x.calls.served) o.is ∙ ap (λ (x : Calls). x.served) a.calls in
    let one = gift_trusted (deal_of o.number o.value) (ends_of d.machine) a.given (ends_trusted d.machine trusted) in
    let last : AllByRecursion IsTrustedBag (gift (deal_of o.number o.value) (held_after d.calls.served) (option_map handed_of a.back)) =
    subst (λ (x : Option Held × Option EndsView). AllByRecursion IsTrustedBag (gift (deal_of o.number o.value) x.0 (option_map handed_of x.1))) (λ i. (sym tracks.held i, sym a.applied.ends i)) one in
    subst (λ (ts : List Turn). AllByRecursion IsTrustedBag (gifts ts)) (sym served)
    (subst (AllByRecursion IsTrustedBag) (sym (gifts_snoc d.calls.served t)) (all_append IsTrustedBag (gifts d.calls.served) _ h last))

command_sound : (b : Bool) (d d' : DeviceView) → CommandStep b d d' → Tracks d.machine d.calls.served → HoldsTrusted d.machine → IsSound d → IsSound d'
command_sound false d d' c tracks trusted h = sound_same d d' (ap (λ (x : DeviceView). x.out) c.is) (ap (λ (x : DeviceView). x.input) c.is) (ap (λ (x : DeviceView). x.calls.served) c.is ∙ ap (λ (x : Calls). x.served) c.finds.calls) h
command_sound true d d' c tracks trusted h = record {
  out = subst (AllByRecursion IsEvenOut) (sym (ap (λ (x : DeviceView). x.out) c.is)) h.out;
  input = subst (AllByRecursion IsEvenIn) (sym (ap (λ (x : DeviceView). x.input) c.is)) h.input;
  bags = obeys_bags d d' c tracks trusted h.bags;
}

-- ------------------------------------------------------------ a turn

pub turn_sound : (worked : Bool) (d d' : DeviceView) → TurnsOnce worked d d' → Tracks d.machine d.calls.served → HoldsTrusted d.machine → IsSound d → IsSound d'
turn_sound worked d d' t tracks trusted h =
    let asked = command_sound t.answered d t.asked t.command tracks trusted h in
    let is = t.bells.2 in
    let rung = sound_same t.asked t.rung (ap (λ (x : DeviceView). x.out) is) (ap (λ (x : DeviceView). x.input) is) (ap (λ (x : DeviceView). x.calls.served) is) asked in
    all_in _ t.pulled t.sent d' t.pulls (all_tx _ t.taken t.rung t.sent t.takes rung)
