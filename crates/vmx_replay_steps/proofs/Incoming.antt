-- The looks of a turn at the links to a device between notes: they find what waits there, and nothing else.
use Rattle.std.proofs.Common.{◌≡◌, ◌≢◌, ℕ, zero, suc, ◌-◌, ◌<◌, ◌≤◌, Bool, true, false, List, [], ◌∷◌, ◌++◌, length, map, set, refl, sym, ap, ◌∙◌, subst, arith, Some, inl, inr, length-append}
use Rattle.std.specs.List.{slice_get}
use Rattle.std.proofs.lemmas.Bool.Decides.{eqb_tells}
use Rattle.vmx_ends.specs.declared.packet.Packet.{Packet}
use Rattle.vmx_link.specs.Views.{LinkOutView, LinkInView}
use Rattle.vmx_regs.specs.declared.known.Masks.{Masks}
use Rattle.vmx_machine_state.specs.Views.{MachineView}
use Rattle.vmx_model.specs.declared.journal.Entry.TheVariants as entry
use Rattle.vmx_model.specs.declared.journal.Fate.{Fate}
use Rattle.vmx_model.specs.Bags.{Pairwise}
use Rattle.vmx_model.specs.Lists.{count}
use Rattle.vmx_model.specs.Journal.{is_activation}
use Rattle.vmx_model.specs.Record.{carried_of}
use Rattle.vmx_model.specs.Serial.{Carried, at_number}
use Rattle.vmx_device_looks.specs.Ports.{other}
use Rattle.vmx_device_looks.specs.Links.{pulled_one}
use Rattle.vmx_device_looks.specs.Arrivals.{Handles}
use Rattle.vmx_device_laws.specs.Views.{DeviceView}
use Rattle.vmx_device_laws.specs.Steps.{InStep, InSteps}
use Rattle.vmx_device_laws.proofs.Lists.{length_last}
use Rattle.vmx_device_laws.proofs.Pairing.{get_set_other}
use Rattle.vmx_device_laws.proofs.PairingIn.{some_same}
use Rattle.vmx_replay_worlds.specs.Worlds.{in_part}
use Rattle.vmx_replay_worlds.specs.Moves.{part_pulls}
use Rattle.vmx_replay_worlds.proofs.Lists.{get_set, map_same, map_at, map_push, pair_at}
use Rattle.vmx_replay_worlds.specs.Ports.{IsBare}
use Rattle.vmx_replay_steps.specs.Between.{WasPushed}

-- ------------------------------------------------------------ nothing waits

-- a link of this number pulled nothing
abbrev pub PulledNothing : DeviceView → DeviceView → ℕ → Type 0
PulledNothing d d' n = (i i' : LinkInView) → slice_get d.input n ≡ Some i → slice_get d'.input n ≡ Some i' → length i'.pulled ≤ length i.pulled

-- the first k links were looked at in vain
pub record InNone (k : ℕ) (d d' : DeviceView) : Type 0 where
  pub is : d' ≡ record d { input = d'.input }
  pub parts : map in_part d'.input ≡ map in_part d.input
  pub rest : (n : ℕ) → k ≤ n → slice_get d'.input n ≡ slice_get d.input n

-- a look that found something at a link that pulled nothing
no_packet : (mid d' : DeviceView) (k : ℕ) (i : LinkInView) (x : Packet) → slice_get mid.input k ≡ Some i → d'.input ≡ set mid.input k (pulled_one i x) → ((i' : LinkInView) → slice_get d'.input k ≡ Some i' → length i'.pulled ≤ length i.pulled) → ⊥
no_packet mid d' k i x at is few =
    let l = few (pulled_one i x) (ap (λ (ls : List LinkInView). slice_get ls k) is ∙ get_set mid.input k i (pulled_one i x) at) in let m = length_last i.pulled x in absurd (omega (arith, l, m))

-- what a look at link k leaves of the others
kept_but : (mid d' : DeviceView) (k : ℕ) (v : LinkInView) (n : ℕ) → d'.input ≡ set mid.input k v → n ≢ k → slice_get d'.input n ≡ slice_get mid.input n
kept_but mid d' k v n is ne = ap (λ (ls : List LinkInView). slice_get ls n) is ∙ get_set_other mid.input k v n ne

-- an empty look
none_step : (k : ℕ) (mid d' : DeviceView) → InStep k false mid d' → (d' ≡ record mid { input = d'.input }) × (map in_part d'.input ≡ map in_part mid.input) × ((n : ℕ) → n ≢ k → slice_get d'.input n ≡ slice_get mid.input n)
none_step k mid d' s =
    let link = s.pulls.link in
    let v : LinkInView = record link { empty = link.empty ++ (length link.pulled, s.pulls.word) ∷ [] } in
    let input : d'.input ≡ set mid.input k v = ap (λ (x : DeviceView). x.input) s.is ∙ s.pulls.is in (
      s.is ∙ ap (λ (ls : List LinkInView). record mid { input = ls }) (sym (ap (λ (x : DeviceView). x.input) s.is)),
      ap (map in_part) input ∙ map_same in_part mid.input k link v s.pulls.at refl,
      λ n ne. kept_but mid d' k v n input ne,
    )

pub in_none : (k : ℕ) (found : Bool) (d d' : DeviceView) → InSteps k found d d' → ((n : ℕ) → n < k → PulledNothing d d' n) → InNone k d d'
in_none zero found d d' s few = record {
  is = s.1 ∙ ap (λ (ls : List LinkInView). record d { input = ls }) (sym (ap (λ (x : DeviceView). x.input) s.1));
  parts = ap (λ (x : DeviceView). map in_part x.input) s.1;
  rest = λ n le. ap (λ (x : DeviceView). slice_get x.input n) s.1;
}
in_none (suc k) found d d' (before, true, (mid, is, step, steps)) few =
    let input : d'.input ≡ set mid.input k (pulled_one step.pulls.link step.packet) = ap (λ (x : DeviceView). x.input) step.is ∙ step.pulls.is in
    let p = in_none k before d mid steps (λ n lt i i' at at'. few n (omega (arith, lt)) i i' at (kept_but mid d' k (pulled_one step.pulls.link step.packet) n input (λ e. omega (arith, e, lt)) ∙ at')) in
    absurd (no_packet mid d' k step.pulls.link step.packet step.pulls.at input (λ i' at. few k (omega arith) step.pulls.link i' (sym (p.rest k (omega arith)) ∙ step.pulls.at) at))
in_none (suc k) found d d' (before, false, (mid, is, step, steps)) few =
    let one = none_step k mid d' step in
    let p = in_none k before d mid steps (λ n lt i i' at at'. few n (omega (arith, lt)) i i' at (one.2 n (λ e. omega (arith, e, lt)) ∙ at')) in record {
      is = one.0 ∙ ap (λ (x : DeviceView). record x { input = d'.input }) p.is;
      parts = one.1 ∙ p.parts;
      rest = λ n le. one.2 n (λ e. omega (arith, e, le)) ∙ p.rest n (omega (arith, le));
    }

-- ------------------------------------------------------------ a packet waits on link j

-- it was pulled and handled, and the other links of the first k were looked at in vain
pub record InOne (k j : ℕ) (i : LinkInView) (d d' : DeviceView) : Type 0 where
  pub packet : Packet
  pub fate_is : Fate
  pub machine : MachineView
  pub masks : Masks
  pub handles : Handles (count is_activation d.entries - 1) packet.frame d.calls.interrupts fate_is d.machine d.masks machine masks
  pub is : d' ≡ record d { machine = machine; masks = masks; input = d'.input; entries = d.entries ++ entry.In (other d.port j) (length i.pulled) fate_is ∷ [] }
  pub parts : map in_part d'.input ≡ at_number j (part_pulls packet) (map in_part d.input)
  pub here : slice_get d'.input j ≡ Some (pulled_one i packet)
  pub rest : (n : ℕ) → k ≤ n → slice_get d'.input n ≡ slice_get d.input n

part_pulled : (i : LinkInView) (x : Packet) → in_part (pulled_one i x) ≡ part_pulls x (in_part i)
part_pulled i x = ap (λ (ps : List Carried). record (in_part i) { pulled = ps }) (map_push carried_of i.pulled x)

-- the look at link j, behind those in vain
one_step : (j : ℕ) (i : LinkInView) (d mid d' : DeviceView) → InNone j d mid → slice_get d.input j ≡ Some i → InStep j true mid d' → InOne (suc j) j i d d'
one_step j i d mid d' p at s =
    let link_is : s.pulls.link ≡ i = (let both : Some s.pulls.link ≡ Some i = sym s.pulls.at ∙ p.rest j (omega arith) ∙ at in cc both) in
    let v : LinkInView = pulled_one s.pulls.link s.packet in
    let input : d'.input ≡ set mid.input j v = ap (λ (x : DeviceView). x.input) s.is ∙ s.pulls.is in
    let place : s.place ≡ length i.pulled = s.pulls.place_is ∙ ap (λ (x : LinkInView). length x.pulled) link_is in record {
      packet = s.packet;
      fate_is = s.fate;
      machine = s.machine;
      masks = s.masks;
      handles = subst (λ (x : DeviceView). Handles (count is_activation x.entries - 1) s.packet.frame x.calls.interrupts s.fate x.machine x.masks s.machine s.masks) p.is s.handles;
      is = s.is ∙ (λ z. record (p.is z) { machine = s.machine; masks = s.masks; input = sym (ap (λ (x : DeviceView). x.input) s.is) z; entries = (p.is z).entries ++ entry.In (other (p.is z).port j) (place z) s.fate ∷ [] });
      parts = ap (map in_part) input ∙ map_at in_part mid.input j (part_pulls s.packet) s.pulls.link v s.pulls.at (part_pulled s.pulls.link s.packet) ∙ ap (at_number j (part_pulls s.packet)) p.parts;
      here = ap (λ (ls : List LinkInView). slice_get ls j) input ∙ get_set mid.input j s.pulls.link v s.pulls.at ∙ ap (λ (x : LinkInView). Some (pulled_one x s.packet)) link_is;
      rest = λ n le. kept_but mid d' j v n input (λ e. omega (arith, e, le)) ∙ p.rest n (omega (arith, le));
    }

-- an empty look contradicts what was told of the link
not_empty : (j : ℕ) (i : LinkInView) (d mid d' : DeviceView) → InNone j d mid → slice_get d.input j ≡ Some i → length i.pulled < length i.filled → InStep j false mid d' → ⊥
not_empty j i d mid d' p at told s =
    let link_is : s.pulls.link ≡ i = (let both : Some s.pulls.link ≡ Some i = sym s.pulls.at ∙ p.rest j (omega arith) ∙ at in cc both) in
    let u = s.pulls.unheard in let f = ap (λ (x : LinkInView). length x.filled) link_is in let g = ap (λ (x : LinkInView). length x.pulled) link_is in absurd (omega (arith, u, f, g, told))

-- a further look in vain
one_more : (k j : ℕ) (i : LinkInView) (d mid d' : DeviceView) → j < k → InOne k j i d mid → InStep k false mid d' → InOne (suc k) j i d d'
one_more k j i d mid d' lt p s =
    let one = none_step k mid d' s in record {
      packet = p.packet;
      fate_is = p.fate_is;
      machine = p.machine;
      masks = p.masks;
      handles = p.handles;
      is = one.0 ∙ ap (λ (x : DeviceView). record x { input = d'.input }) p.is;
      parts = one.1 ∙ p.parts;
      here = one.2 j (λ e. omega (arith, e, lt)) ∙ p.here;
      rest = λ n le. one.2 n (λ e. omega (arith, e, le)) ∙ p.rest n (omega (arith, le));
    }

pub in_one : (k j : ℕ) (i : LinkInView) (found : Bool) (d d' : DeviceView) → InSteps k found d d' → j < k → slice_get d.input j ≡ Some i → length i.pulled < length i.filled → ((n : ℕ) → n < k → n ≢ j → PulledNothing d d' n) → InOne k j i d d'
in_one zero j i found d d' s lt at told few = absurd (omega (arith, lt))
in_one (suc k) j i found d d' (before, true, (mid, is, step, steps)) lt at told few =
    let input : d'.input ≡ set mid.input k (pulled_one step.pulls.link step.packet) = ap (λ (x : DeviceView). x.input) step.is ∙ step.pulls.is in
    let kept = λ (n : ℕ) (ne : n ≢ k). kept_but mid d' k (pulled_one step.pulls.link step.packet) n input ne in
    elim (eqb_tells j k) [
      | inl same ↦ (
          let p = in_none k before d mid steps (λ n lt x x' at at'. few n (omega (arith, lt)) (λ e. omega (arith, e, lt, same.1)) x x' at (kept n (λ e. omega (arith, e, lt)) ∙ at')) in
          let at_k : slice_get d.input k ≡ Some i = ap (slice_get d.input) (sym same.1) ∙ at in
          subst (λ (n : ℕ). InOne (suc k) n i d d') (sym same.1) (one_step k i d mid d' p at_k step)
          )
      | inr away ↦ (
          let below : j < k = (let ne = away.1 in omega (arith, lt, ne)) in
          let p = in_one k j i before d mid steps below at told (λ n lt ne x x' at at'. few n (omega (arith, lt)) ne x x' at (kept n (λ e. omega (arith, e, lt)) ∙ at')) in
          absurd (no_packet mid d' k step.pulls.link step.packet step.pulls.at input (λ i' at'. few k (omega arith) (λ e. away.1 (sym e)) step.pulls.link i' (sym (p.rest k (omega arith)) ∙ step.pulls.at) at'))
          )
    ]
in_one (suc k) j i found d d' (before, false, (mid, is, step, steps)) lt at told few =
    let one = none_step k mid d' step in
    elim (eqb_tells j k) [
      | inl same ↦ (
          let p = in_none k before d mid steps (λ n lt x x' at at'. few n (omega (arith, lt)) (λ e. omega (arith, e, lt, same.1)) x x' at (one.2 n (λ e. omega (arith, e, lt)) ∙ at')) in
          let at_k : slice_get d.input k ≡ Some i = ap (slice_get d.input) (sym same.1) ∙ at in absurd (not_empty k i d mid d' p at_k told step)
          )
      | inr away ↦ (
          let below : j < k = (let ne = away.1 in omega (arith, lt, ne)) in
          let p = in_one k j i before d mid steps below at told (λ n lt ne x x' at at'. few n (omega (arith, lt)) ne x x' at (one.2 n (λ e. omega (arith, e, lt)) ∙ at')) in
          one_more k j i d mid d' below p step
          )
    ]

-- ------------------------------------------------------------ what the senders hear

-- a link on which nothing was, of which the sender heard
pub bare_nothing : (links : List LinkOutView) (d d' : DeviceView) (n : ℕ) → ((o : LinkOutView) (i : LinkInView) → slice_get links n ≡ Some o → slice_get d.input n ≡ Some i → IsBare o i) → Pairwise WasPushed links d'.input → PulledNothing d d' n
bare_nothing links d d' n bare pushed i i' at at' =
    let p = pair_at WasPushed links d'.input n i' pushed at' in
    let b = bare p.0 i p.1 at in let f = ap length p.2.1 in let l = length-append i'.pulled p.2.0 in omega (arith, b, f, l)

pub all_bare : (links : List LinkOutView) (is : List LinkInView) (n : ℕ) (o : LinkOutView) (i : LinkInView) → Pairwise IsBare links is → slice_get links n ≡ Some o → slice_get is n ≡ Some i → IsBare o i
all_bare links is n o i h at_o at_i = let p = pair_at IsBare links is n i h at_i in subst (λ (x : LinkOutView). IsBare x i) (some_same (slice_get links n) p.0 o p.1 at_o) p.2
