-- The ends that are held, and one of them in the place of another.
use Rattle.std.proofs.Common.{◌≡◌, ℕ, suc, Bool, true, false, true≢false, List, [], ◌∷◌, ◌++◌, length, map, set, take, refl, sym, ap, ◌∙◌, subst, Some, Option}
use Rattle.std.specs.List.{slice_get, filter_map}
use Rattle.std.specs.Prelude.{◌||◌}
use Rattle.std.proofs.lemmas.List.{length-set, length-map}
use Rattle.vmx_ends.specs.Transmit.{TxDeviceView}
use Rattle.vmx_ends.specs.Receive.{RxDeviceView}
use Rattle.vmx_ends.specs.HandedEnds.{EndsView, handed_of, any_of}
use Rattle.vmx_device_state.specs.Deals.{held_as}
use Rattle.vmx_device_state.specs.DeviceState.{state_from, Idle}
use Rattle.vmx_machine_state.specs.Views.{ActiveView, state_of}
use Rattle.vmx_model.specs.declared.journal.Entry.{Entry}
use Rattle.vmx_model.specs.declared.journal.Entry.TheVariants as entry
use Rattle.vmx_model.specs.Lists.{count}
use Rattle.vmx_model.specs.Journal.{is_setting, state_at}
use Rattle.vmx_model.specs.Account.{asked}
use Rattle.vmx_device_laws.specs.Views.{DeviceView}
use Rattle.vmx_device_laws.specs.Keeps.{Keeps, AreTrusted, spoken}
use Rattle.vmx_device_laws.proofs.Lists.{part_stays, any_stays, any_at, all_swap, all_end, take_all}

-- the device with an active machine of this setup and these ends
abbrev pub active_with : DeviceView → ActiveView → DeviceView
active_with d a = record d { machine = record d.machine { active = Some a } }

-- the same with the machine's part written out
pub opened : (d : DeviceView) (a : ActiveView) → d.machine.active ≡ Some a → Keeps d → Keeps (active_with d a)
opened d a act k = subst (λ (o : Option ActiveView). Keeps (record d { machine = record d.machine { active = o } })) act k

-- the ends with another transmit end, or receive end
abbrev pub with_end : ActiveView → ℕ → TxDeviceView → ActiveView
with_end a q v = record a { ends = record a.ends { tx = set a.ends.tx q v } }

abbrev pub with_rx_end : ActiveView → ℕ → RxDeviceView → ActiveView
with_rx_end a q v = record a { ends = record a.ends { rx = set a.ends.rx q v } }

module _ (a : ActiveView) (q : ℕ) (v v' : TxDeviceView) (at : slice_get a.ends.tx q ≡ Some v) (key : v'.key ≡ v.key) (given : v'.given ≡ v.given) where
  given_tx_same : (handed_of (with_end a q v').ends).given ≡ (handed_of a.ends).given
  given_tx_same = ap (λ (b : Bool). b || any_of (λ (x : RxDeviceView). x.given) a.ends.rx) (any_stays (λ (x : TxDeviceView). x.given) a.ends.tx q v v' at given)

  pub held_tx_same : held_as (handed_of a.ends) ≡ held_as (handed_of (with_end a q v').ends)
  held_tx_same = λ i. record {
    keys = sym (part_stays (λ (x : TxDeviceView). x.key) a.ends.tx q v v' at key) i ++ map (λ (x : RxDeviceView). x.key) a.ends.rx;
    tx = sym (length-set a.ends.tx q v') i;
    rx = length a.ends.rx;
    given = sym given_tx_same i;
  }

  pub trusted_tx : (past : List EndsView) → AreTrusted (past ++ (with_end a q v').ends ∷ []) → AreTrusted (past ++ a.ends ∷ [])
  trusted_tx past = all_swap (λ (e : EndsView). (handed_of e).given ≡ false) past (with_end a q v').ends a.ends (λ h. sym given_tx_same ∙ h)

module _ (a : ActiveView) (q : ℕ) (v v' : RxDeviceView) (at : slice_get a.ends.rx q ≡ Some v) (key : v'.key ≡ v.key) (given : v'.given ≡ v.given) where
  given_rx_same : (handed_of (with_rx_end a q v').ends).given ≡ (handed_of a.ends).given
  given_rx_same = ap (λ (b : Bool). any_of (λ (x : TxDeviceView). x.given) a.ends.tx || b) (any_stays (λ (x : RxDeviceView). x.given) a.ends.rx q v v' at given)

  pub held_rx_same : held_as (handed_of a.ends) ≡ held_as (handed_of (with_rx_end a q v').ends)
  held_rx_same = λ i. record {
    keys = map (λ (x : TxDeviceView). x.key) a.ends.tx ++ sym (part_stays (λ (x : RxDeviceView). x.key) a.ends.rx q v v' at key) i;
    tx = length a.ends.tx;
    rx = sym (length-set a.ends.rx q v') i;
    given = sym given_rx_same i;
  }

  pub trusted_rx : (past : List EndsView) → AreTrusted (past ++ (with_rx_end a q v').ends ∷ []) → AreTrusted (past ++ a.ends ∷ [])
  trusted_rx past = all_swap (λ (e : EndsView). (handed_of e).given ≡ false) past (with_rx_end a q v').ends a.ends (λ h. sym given_rx_same ∙ h)

or_left : (a b : Bool) → a ≡ true → (a || b) ≡ true
or_left true b e = refl
or_left false b e = absurd (true≢false (sym e))

or_right : (a b : Bool) → b ≡ true → (a || b) ≡ true
or_right true b e = refl
or_right false b e = e

-- an end over given words is not trusted
pub no_tx_given : (past : List EndsView) (e : EndsView) (q : ℕ) (v : TxDeviceView) → slice_get e.tx q ≡ Some v → v.given ≡ true → AreTrusted (past ++ e ∷ []) → ⊥
no_tx_given past e q v at given all =
    let no = all_end (λ (x : EndsView). (handed_of x).given ≡ false) past e all in
    let yes = or_left (any_of (λ (x : TxDeviceView). x.given) e.tx) (any_of (λ (x : RxDeviceView). x.given) e.rx) (any_at (λ (x : TxDeviceView). x.given) e.tx q v at given) in
    true≢false (sym yes ∙ no)

pub no_rx_given : (past : List EndsView) (e : EndsView) (q : ℕ) (v : RxDeviceView) → slice_get e.rx q ≡ Some v → v.given ≡ true → AreTrusted (past ++ e ∷ []) → ⊥
no_rx_given past e q v at given all =
    let no = all_end (λ (x : EndsView). (handed_of x).given ≡ false) past e all in
    let yes = or_right (any_of (λ (x : TxDeviceView). x.given) e.tx) (any_of (λ (x : RxDeviceView). x.given) e.rx) (any_at (λ (x : RxDeviceView). x.given) e.rx q v at given) in
    true≢false (sym yes ∙ no)

-- ------------------------------------------------------------ where the journal stands

settings_asked : (es : List Entry) → length (filter_map asked es) ≡ count is_setting es
settings_asked [] = refl
settings_asked (entry.Setting number answer setup ∷ es) = ap suc (settings_asked es)
settings_asked (entry.Out tag target w ∷ es) = settings_asked es
settings_asked (entry.Lost tag ∷ es) = settings_asked es
settings_asked (entry.In from place f ∷ es) = settings_asked es

pub settings_are : (d : DeviceView) → Keeps d → count is_setting d.entries ≡ length d.calls.served
settings_are d k = sym (settings_asked d.entries) ∙ ap length k.told ∙ length-map d.calls.served spoken

pub state_now : (d : DeviceView) → Keeps d → state_at d.calls.served d.entries ≡ state_of d.machine
state_now d k = ap (λ (n : ℕ). state_from Idle (take n d.calls.served)) (settings_are d k) ∙ ap (state_from Idle) (take_all d.calls.served) ∙ k.tracks.state
