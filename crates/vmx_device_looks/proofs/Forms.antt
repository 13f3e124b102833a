-- The delivered form of a frame, and the setup in force of an active machine.
use Rattle.std.proofs.Common.{◌≡◌, ℕ, ◌<◌, ◌≤◌, List, Bool, refl, sym, ap, ◌∙◌, subst, arith, Some, None, Option, true≢false}
use Rattle.std.specs.Prelude.{option_map, IsSome}
use Rattle.vmx_frame.specs.Internet.{flow_of}
use Rattle.vmx_frame.specs.Tags.{Stripped}
use Rattle.vmx_shared_area.specs.declared.stats.Side.TheVariants.{Rx}
use Rattle.vmx_ends.specs.declared.meta.RxMeta.{RxMeta}
use Rattle.vmx_ends.specs.Receive.{RxDeviceView}
use Rattle.vmx_ends.specs.HandedLaws.{meta_same}
use Rattle.vmx_device_state.specs.SetupView.{SetupView}
use Rattle.vmx_machine_state.specs.Views.{MachineView, ActiveView, state_of, state_by}
use Rattle.vmx_device_state.specs.DeviceState.{Active}
use Rattle.vmx_model.specs.Meta.{taken_out, meta_of, delivered_as, choice_small}
use Rattle.vmx_device_looks.specs.Looks.{with_rx}
use Rattle.vmx_filters.specs.declared.answer.Verdict.TheVariants.{Yes}
use Rattle.vmx_machine_state.specs.Stopped.{IsInUse, error_on}
use Rattle.vmx_model.specs.Setups.{admits}
use Rattle.vmx_device_looks.specs.Arrivals.{AreTerms, IsLetIn, IsWayIn}
use Rattle.vmx_device_looks.specs.declared.arrivals.Admission.TheVariants as admission
use Rattle.vmx_device_looks.specs.declared.arrivals.Terms.{Terms}

pub some_of : {X : Type 0} (o : Option X) → IsSome o → (x : X) × (o ≡ Some x)
some_of None h = absurd (true≢false (sym h))
some_of (Some x) h = (x, refl)

-- a frame with its meta, by the terms
pub form_is : (s : SetupView) (frame : List ℕ) (t : Terms) (strip : Bool) → AreTerms s frame t → t.strip ≡ strip → (bytes : List ℕ) (tci : Option ℕ) (meta : RxMeta) → bytes ≡ (taken_out strip frame).frame → tci ≡ (taken_out strip frame).tci
    → meta.hash ≡ t.hash → meta.kind ≡ t.kind → meta.tci ≡ tci → record { frame = bytes; meta = meta } ≡ delivered_as s frame
form_is s frame t strip are strip_is bytes tci meta bytes_is tci_is hash kind meta_tci =
    let out : taken_out strip frame ≡ taken_out s.strip frame = ap (λ (b : Bool). taken_out b frame) (sym strip_is ∙ are.strip) in
    let frame_is : bytes ≡ (taken_out s.strip frame).frame = bytes_is ∙ ap (λ (x : Stripped). x.frame) out in
    let meta_is : meta ≡ meta_of s.rss (taken_out s.strip frame).tci frame = meta_same meta (meta_of s.rss (taken_out s.strip frame).tci frame) (hash ∙ are.hash) (kind ∙ are.kind) (meta_tci ∙ tci_is ∙ ap (λ (x : Stripped). x.tci) out) in
    λ i. record { frame = frame_is i; meta = meta_is i }

pub kind_low : (s : SetupView) (frame : List ℕ) (t : Terms) → AreTerms s frame t → t.kind ≤ 4
kind_low s frame t are = let small = choice_small s.rss (flow_of frame) in omega (arith, are.kind, small)

-- the setup in force is the active machine's
pub active_of : (o : Option ActiveView) (v : SetupView) → Some v ≡ option_map (λ (a : ActiveView). a.setup) o → (a : ActiveView) × (o ≡ Some a) × (v ≡ a.setup)
active_of None v e = absurd (cc e)
active_of (Some a) v e = (a, refl, cc e)

pub state_from_setup : (o : Option ActiveView) (v : SetupView) → Some v ≡ option_map (λ (a : ActiveView). a.setup) o → state_by o ≡ Active v
state_from_setup None v e = absurd (cc e)
state_from_setup (Some a) v e = let same : v ≡ a.setup = cc e in ap Active (sym same)

-- a queue of the setup is in use whatever the ends did
pub in_use : (m new : MachineView) (a : ActiveView) (vs : List RxDeviceView) (q : ℕ) → m.active ≡ Some a → new ≡ with_rx vs m → q < a.setup.rx_queues → IsInUse Rx q (state_of new)
in_use m new a vs q act is lt =
    let state : state_of new ≡ Active a.setup = ap state_of is ∙ ap (λ (o : Option ActiveView). state_of (with_rx vs (record m { active = o }))) act in
    subst (IsInUse Rx q) (sym state) lt

-- a frame that the setup in force admits is let in, and goes to the queue of its flow or finds it stopped
module _ (m : MachineView) (v : SetupView) (force : Some v ≡ option_map (λ (a : ActiveView). a.setup) m.active) (mac : List ℕ) (own : mac ≡ m.mac) (frame : List ℕ) (yes : Yes ≡ admits v mac frame) where
  pub let_in : IsLetIn m frame
  let_in =
      let a = active_of m.active v force in record {
        active = a.0;
        is_active = a.1;
        admitted = ap (λ (s : SetupView). admits s m.mac frame) (sym a.2) ∙ ap (λ (x : List ℕ). admits v x frame) (sym own) ∙ sym yes;
      }

  their_terms : (t : Terms) → AreTerms v frame t → AreTerms let_in.active.setup frame t
  unfolding let_in active_of
  their_terms t are = subst (λ (s : SetupView). AreTerms s frame t) (active_of m.active v force).2 are

  pub way_stopped : (t : Terms) (e : ℕ) → AreTerms v frame t → Some e ≡ error_on Rx m t.queue → IsWayIn m frame (admission.Stopped t.queue)
  way_stopped t e are is = let mine = their_terms t are in (let_in, mine.queue, mine.below, (e, sym is))

  pub way_to : (t : Terms) → AreTerms v frame t → None ≡ error_on Rx m t.queue → IsWayIn m frame (admission.To t)
  way_to t are is = (let_in, their_terms t are, sym is)
