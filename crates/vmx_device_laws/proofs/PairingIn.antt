-- The looks at the links of a turn, pairwise over the lists of links and of receive ends.
use Rattle.std.proofs.Common.{◌≡◌, ◌≢◌, ℕ, zero, suc, ◌+◌, ◌-◌, ◌<◌, ◌≤◌, Bool, true, false, List, [], ◌∷◌, ◌++◌, length, map, take, set, append-nil, append_assoc, refl, sym, ap, ◌∙◌, subst, arith, Some, Option, ◌⊎◌, inl, inr}
use Rattle.std.specs.List.{slice_get}
use Rattle.std.proofs.lemmas.List.{length-set}
use Rattle.vmx_ends.specs.Receive.{RxDeviceView}
use Rattle.vmx_ends.specs.declared.answers.Deliver.{Deliver}
use Rattle.vmx_ends.specs.declared.answers.Deliver.TheVariants as answer
use Rattle.vmx_device_state.specs.SetupView.{SetupView}
use Rattle.vmx_link.specs.Views.{LinkInView}
use Rattle.vmx_regs.specs.declared.known.Masks.{Masks}
use Rattle.vmx_machine_state.specs.Views.{ActiveView, MachineView}
use Rattle.vmx_model.specs.declared.journal.Entry.{Entry}
use Rattle.vmx_model.specs.declared.journal.Entry.TheVariants as entry
use Rattle.vmx_model.specs.Lists.{count}
use Rattle.vmx_model.specs.Meta.{delivered_as}
use Rattle.vmx_model.specs.Wire.{rx_queue}
use Rattle.vmx_model.specs.Journal.{is_activation}
use Rattle.vmx_device_looks.specs.Ports.{other}
use Rattle.vmx_device_looks.specs.Links.{pulled_one}
use Rattle.vmx_device_looks.specs.Looks.{DeliversAs, with_rx}
use Rattle.vmx_device_looks.specs.Arrivals.{Handles, GivesFrame, DeliversTo}
use Rattle.vmx_device_laws.specs.Views.{DeviceView}
use Rattle.vmx_device_laws.specs.Steps.{InStep, InSteps}
use Rattle.vmx_device_laws.specs.Pairs.{Came, entry_of, PulledOne, PulledNone, PairsIn, IsFateOf, IsElse, WasGiven, WasPassedOver, GetsAll, PairsRx}
use Rattle.vmx_device_laws.proofs.Lists.{count_append, map_append, take_all}
use Rattle.vmx_device_laws.proofs.Pairing.{take_get, take_set_next, get_set_other, length_take}
use Rattle.vmx_device_laws.proofs.Turns.{no_some}

-- ------------------------------------------------------------ one link more

module _ (port : ℕ) where
  in_push : (k : ℕ) (xs ys : List LinkInView) (came : List Came) (x y : LinkInView) (one : List Came) → PairsIn port k xs ys came → PulledOne port (k + length xs) x y one ⊎ PulledNone x y one → PairsIn port k (xs ++ x ∷ []) (ys ++ y ∷ []) (came ++ one)
  in_push k [] [] came x y one h look =
      let at : k + 0 ≡ k = omega arith in (one, [], ap (λ (zs : List Came). zs ++ one) h ∙ sym (append-nil one), subst (λ (n : ℕ). PulledOne port n x y one ⊎ PulledNone x y one) at look, refl)
  in_push k [] (y' ∷ ys) came x y one h look = absurd h
  in_push k (x' ∷ xs) [] came x y one h look = absurd h
  in_push k (x' ∷ xs) (y' ∷ ys) came x y one (first, rest, is, here, more) look =
      let at : k + suc (length xs) ≡ suc k + length xs = omega arith in (
        first,
        rest ++ one,
        ap (λ (zs : List Came). zs ++ one) is ∙ append_assoc first rest one,
        here,
        in_push (suc k) xs ys rest x y one more (subst (λ (n : ℕ). PulledOne port n x y one ⊎ PulledNone x y one) at look),
      )

-- ------------------------------------------------------------ one packet more

module _ (s : SetupView) (a : ℕ) where
  gets_more : (q : ℕ) (came : List Came) (c : Came) (v m n : RxDeviceView) → GetsAll s a q came v m → WasGiven s a q c m n ⊎ WasPassedOver q c m n → GetsAll s a q (came ++ c ∷ []) v n
  gets_more q [] c v m n h one = (n, subst (λ (x : RxDeviceView). WasGiven s a q c x n ⊎ WasPassedOver q c x n) h one, refl)
  gets_more q (x ∷ came) c v m n (mid, here, more) one = (mid, here, gets_more q came c mid m n more one)

  rx_pass : (q : ℕ) (came : List Came) (c : Came) (vs ns : List RxDeviceView) → ((r : ℕ) → q ≤ r → IsElse r c.fate) → PairsRx s a q came vs ns → PairsRx s a q (came ++ c ∷ []) vs ns
  rx_pass q came c [] [] h p = tt
  rx_pass q came c [] (n ∷ ns) h p = absurd p
  rx_pass q came c (v ∷ vs) [] h p = absurd p
  rx_pass q came c (v ∷ vs) (n ∷ ns) h p = (gets_more q came c v n n p.0 (inr (record { elsewhere = h q (omega arith); same = refl })), rx_pass (suc q) came c vs ns (λ r le. h r (omega (arith, le))) p.1)

  rx_set : (q : ℕ) (came : List Came) (c : Came) (vs ns : List RxDeviceView) (i : ℕ) (m n' : RxDeviceView) → slice_get ns i ≡ Some m → WasGiven s a (q + i) c m n' → ((r : ℕ) → r ≢ q + i → IsElse r c.fate) → PairsRx s a q came vs ns
      → PairsRx s a q (came ++ c ∷ []) vs (set ns i n')
  rx_set q came c [] [] i m n' at given others p = absurd (cc at)
  rx_set q came c [] (n ∷ ns) i m n' at given others p = absurd p
  rx_set q came c (v ∷ vs) [] i m n' at given others p = absurd p
  rx_set q came c (v ∷ vs) (n ∷ ns) zero m n' at given others p =
      let same : m ≡ n = cc at in
      let here : q + 0 ≡ q = omega arith in
      let one : WasGiven s a q c n n' = subst (λ (x : ℕ × RxDeviceView). WasGiven s a x.0 c x.1 n') (λ j. (here j, same j)) given in
      (gets_more q came c v n n' p.0 (inl one), rx_pass (suc q) came c vs ns (λ r le. others r (λ e. omega (arith, e, le))) p.1)
  rx_set q came c (v ∷ vs) (n ∷ ns) (suc i) m n' at given others p =
      let next : q + suc i ≡ suc q + i = omega arith in (
        gets_more q came c v n n p.0 (inr (record { elsewhere = others q (λ e. omega (arith, e)); same = refl })),
        rx_set (suc q) came c vs ns i m n' at (subst (λ (k : ℕ). WasGiven s a k c m n') next given) (λ r ne. others r (λ e. ne (e ∙ next))) p.1,
      )

-- ------------------------------------------------------------ what one packet does to the receive ends

-- which end was given the packet, and what it became
pub record Gave (x : ActiveView) (a : ℕ) (c : Came) (y : ActiveView) : Type 0 where
  pub q : ℕ
  pub old : RxDeviceView
  pub new : RxDeviceView
  pub at : slice_get x.ends.rx q ≡ Some old
  pub given : WasGiven x.setup a q c old new
  pub others : (r : ℕ) → r ≢ q → IsElse r c.fate
  pub is : y.ends.rx ≡ set x.ends.rx q new

-- none was
pub record GaveNone (x : ActiveView) (c : Came) (y : ActiveView) : Type 0 where
  pub others : (r : ℕ) → IsElse r c.fate
  pub is : y.ends.rx ≡ x.ends.rx

pub record RxLook (x : ActiveView) (a : ℕ) (c : Came) (m : MachineView) : Type 0 where
  pub y : ActiveView
  pub is_active : m.active ≡ Some y
  pub setup : y.setup ≡ x.setup
  pub tx : y.ends.tx ≡ x.ends.tx
  pub gave : Gave x a c y ⊎ GaveNone x c y

pub some_same : {X : Type 0} (o : Option X) (x y : X) → o ≡ Some x → o ≡ Some y → x ≡ y
some_same o x y h g = let both : Some x ≡ Some y = sym h ∙ g in cc both

module _ (x : ActiveView) (a : ℕ) (c : Came) (m : MachineView) (now : m.active ≡ Some x) where
  -- nothing was given
  look_none : (m' : MachineView) → m' ≡ m → ((r : ℕ) → IsElse r c.fate) → RxLook x a c m'
  look_none m' same others = record { y = x; is_active = ap (λ (z : MachineView). z.active) same ∙ now; setup = refl; tx = refl; gave = inr (record { others = others; is = refl }) }

  -- the end of a queue was given the frame
  look_given : (q : ℕ) (said : Deliver) (mid m' : MachineView) → DeliversAs q (delivered_as x.setup c.packet.frame) said m mid → m'.active ≡ mid.active → IsFateOf a q said c.fate → ((r : ℕ) → r ≢ q → IsElse r c.fate) → RxLook x a c m'
  look_given q said mid m' gives kept told others =
      let same : gives.here.active ≡ x = some_same m.active gives.here.active x gives.here.is_active now in
      let at : slice_get x.ends.rx q ≡ Some gives.here.end = ap (λ (z : ActiveView). slice_get z.ends.rx q) (sym same) ∙ gives.here.at in
      let y : ActiveView = record x { ends = record x.ends { rx = set x.ends.rx q gives.after } } in
      let active : mid.active ≡ Some y =
      ap (λ (z : MachineView). z.active) gives.is ∙ ap (λ (o : Option ActiveView). (with_rx (set gives.here.active.ends.rx q gives.after) (record m { active = o })).active) now
      ∙ ap (λ (z : ActiveView). Some (record x { ends = record x.ends { rx = set z.ends.rx q gives.after } })) same in record {
        y = y;
        is_active = kept ∙ active;
        setup = refl;
        tx = refl;
        gave = inl (record { q = q; old = gives.here.end; new = gives.after; at = at; given = record { said = said; fate_is = told; delivers = gives.gives }; others = others; is = refl });
      }

  look_in : (interrupts : ℕ) (m' : MachineView) (was masks : Masks) → Handles a c.packet.frame interrupts c.fate m was m' masks → RxLook x a c m'
  look_in interrupts m' was masks h = elim h [
    | inl i ↦ absurd (no_some m.active x i.idle now)
    | inr h1 ↦ elim h1 [
      | inl r ↦ look_none m' r.is (λ n. subst (IsElse n) (sym r.is_fate) tt)
      | inr h2 ↦ elim h2 [
        | inl t ↦ look_none m' t.is (λ n. subst (IsElse n) (sym t.is_fate) tt)
        | inr g ↦ given g
      ]
    ]
  ]
    where
      given : GivesFrame a c.packet.frame interrupts c.fate m was m' masks → RxLook x a c m'
      given g =
          let same : g.let_in.active ≡ x = some_same m.active g.let_in.active x g.let_in.is_active now in
          let q : ℕ = rx_queue g.let_in.active.setup.rss c.packet.frame in
          elim (subst (λ (z : ActiveView). DeliversTo z.setup a q c.packet.frame interrupts c.fate m was m' masks) same g.delivers) [
            | inl u ↦ look_given q (answer.Done u.place) u.mid m' u.gives (ap (λ (z : MachineView). z.active) u.is) u.is_fate (λ r ne. subst (IsElse r) (sym u.is_fate) (λ e. ne (sym e)))
            | inr h3 ↦ elim h3 [
              | inl u ↦ look_given q (answer.NoBuffer u.ring u.position u.word u.look) u.mid m' u.gives (ap (λ (z : MachineView). z.active) u.is) u.is_fate (λ r ne. subst (IsElse r) (sym u.is_fate) (λ e. ne (sym e)))
              | inr u ↦ look_given q (answer.Bad u.words u.fault) u.mid m' u.gives (ap (λ (z : MachineView). z.active) u.is) u.is_fate (λ r ne. subst (IsElse r) (sym u.is_fate) tt)
            ]
          ]

-- ------------------------------------------------------------ the first n links

-- what became of the receive ends of an active device
pub record RxPaired (x : ActiveView) (a : ℕ) (came : List Came) (o : Option ActiveView) : Type 0 where
  pub y : ActiveView
  pub is_active : o ≡ Some y
  pub setup : y.setup ≡ x.setup
  pub tx : y.ends.tx ≡ x.ends.tx
  pub pairs : PairsRx x.setup a 0 came x.ends.rx y.ends.rx

rx_refl : (s : SetupView) (a q : ℕ) (vs : List RxDeviceView) → PairsRx s a q [] vs vs
rx_refl s a q [] = tt
rx_refl s a q (v ∷ vs) = (refl, rx_refl s a (suc q) vs)

rx_next : (x : ActiveView) (a : ℕ) (came : List Came) (c : Came) (o : Option ActiveView) (m' : MachineView) → (p : RxPaired x a came o) → RxLook p.y a c m' → RxPaired x a (came ++ c ∷ []) m'.active
rx_next x a came c o m' p l = record {
  y = l.y;
  is_active = l.is_active;
  setup = l.setup ∙ p.setup;
  tx = l.tx ∙ p.tx;
  pairs = elim l.gave [
    | inl g ↦
        let given : WasGiven x.setup a (0 + g.q) c g.old g.new = subst (λ (z : SetupView × ℕ). WasGiven z.0 a z.1 c g.old g.new) (λ i. (p.setup i, zero_on g.q i)) g.given in
        subst (PairsRx x.setup a 0 (came ++ c ∷ []) x.ends.rx) (sym g.is) (rx_set x.setup a 0 came c x.ends.rx p.y.ends.rx g.q g.old g.new g.at given (λ r ne. g.others r (λ e. ne (e ∙ zero_on g.q))) p.pairs)
    | inr n ↦ subst (PairsRx x.setup a 0 (came ++ c ∷ []) x.ends.rx) (sym n.is) (rx_pass x.setup a 0 came c x.ends.rx p.y.ends.rx (λ r le. n.others r) p.pairs)
  ];
}
  where
    zero_on : (q : ℕ) → q ≡ 0 + q
    zero_on q = omega arith

pub record CameOn (n : ℕ) (d d' : DeviceView) : Type 0 where
  pub came : List Came
  pub pairs : PairsIn d.port 0 (take n d.input) (take n d'.input) came
  pub entries : d'.entries ≡ d.entries ++ map entry_of came
  pub rest : (r : ℕ) → n ≤ r → slice_get d'.input r ≡ slice_get d.input r
  pub many : length d'.input ≡ length d.input
  pub port : d'.port ≡ d.port
  pub activations : count is_activation d'.entries ≡ count is_activation d.entries
  pub rx : (x : ActiveView) → d.machine.active ≡ Some x → RxPaired x (count is_activation d.entries - 1) came d'.machine.active

-- one link more, whatever its look found
link_next : (n : ℕ) (d mid d' : DeviceView) (p : CameOn n d mid) (i i' : LinkInView) (one : List Came) → n < length d.input → slice_get mid.input n ≡ Some i → d'.input ≡ set mid.input n i' → PulledOne mid.port n i i' one ⊎ PulledNone i i' one
    → PairsIn d.port 0 (take (suc n) d.input) (take (suc n) d'.input) (p.came ++ one) × ((r : ℕ) → suc n ≤ r → slice_get d'.input r ≡ slice_get d.input r) × (length d'.input ≡ length d.input)
link_next n d mid d' p i i' one lt at is look =
    let here : slice_get d.input n ≡ Some i = sym (p.rest n (omega arith)) ∙ at in
    let front = take_get d.input n i here in
    let back = ap (take (suc n)) is ∙ take_set_next mid.input n i' (omega (arith, lt, p.many)) in
    let num : n ≡ 0 + length (take n d.input) = omega (arith, length_take n d.input (omega (arith, lt))) in
    let look' : PulledOne d.port (0 + length (take n d.input)) i i' one ⊎ PulledNone i i' one = subst (λ (x : ℕ × ℕ). PulledOne x.0 x.1 i i' one ⊎ PulledNone i i' one) (λ j. (p.port j, num j)) look in
    let both = in_push d.port 0 (take n d.input) (take n mid.input) p.came i i' one p.pairs look' in (
      subst (λ (x : List LinkInView × List LinkInView). PairsIn d.port 0 x.0 x.1 (p.came ++ one)) (λ j. (sym front j, sym back j)) both,
      λ r le. ap (λ (ls : List LinkInView). slice_get ls r) is ∙ get_set_other mid.input n i' r (λ e. omega (arith, e, le)) ∙ p.rest r (omega (arith, le)),
      ap length is ∙ length-set mid.input n i' ∙ p.many,
    )

one_link : (n : ℕ) (found : Bool) (d mid d' : DeviceView) → CameOn n d mid → n < length d.input → InStep n found mid d' → CameOn (suc n) d d'
one_link n false d mid d' p lt s =
    let i = s.pulls.link in
    let next = link_next n d mid d' p i (record i { empty = i.empty ++ (length i.pulled, s.pulls.word) ∷ [] }) [] lt s.pulls.at (ap (λ (x : DeviceView). x.input) s.is ∙ s.pulls.is) (inr (record { word = s.pulls.word; shows = s.pulls.shows; unheard = s.pulls.unheard; is = refl; none = refl })) in
    let same : p.came ++ [] ≡ p.came = append-nil p.came in record {
      came = p.came;
      pairs = subst (PairsIn d.port 0 (take (suc n) d.input) (take (suc n) d'.input)) same next.0;
      entries = ap (λ (x : DeviceView). x.entries) s.is ∙ p.entries;
      rest = next.1;
      many = next.2;
      port = ap (λ (x : DeviceView). x.port) s.is ∙ p.port;
      activations = ap (λ (x : DeviceView). count is_activation x.entries) s.is ∙ p.activations;
      rx = λ x now. subst (RxPaired x (count is_activation d.entries - 1) p.came) (ap (λ (y : DeviceView). y.machine.active) (sym s.is)) (p.rx x now);
    }
one_link n true d mid d' p lt s =
    let i = s.pulls.link in
    let c : Came = record { from = other mid.port n; place = length i.pulled; packet = s.packet; fate = s.fate } in
    let next = link_next n d mid d' p i (pulled_one i s.packet) (c ∷ []) lt s.pulls.at (ap (λ (x : DeviceView). x.input) s.is ∙ s.pulls.is) (inl (record { packet = s.packet; fate = s.fate; is = refl; one = refl })) in
    let more : d'.entries ≡ mid.entries ++ entry_of c ∷ [] = ap (λ (x : DeviceView). x.entries) s.is ∙ ap (λ (k : ℕ). mid.entries ++ entry.In (other mid.port n) k s.fate ∷ []) s.pulls.place_is in record {
      came = p.came ++ c ∷ [];
      pairs = next.0;
      entries = more ∙ ap (λ (es : List Entry). es ++ entry_of c ∷ []) p.entries ∙ append_assoc d.entries (map entry_of p.came) (entry_of c ∷ []) ∙ ap (λ (es : List Entry). d.entries ++ es) (sym (map_append entry_of p.came (c ∷ [])));
      rest = next.1;
      many = next.2;
      port = ap (λ (x : DeviceView). x.port) s.is ∙ p.port;
      activations = ap (count is_activation) more ∙ count_append is_activation mid.entries (entry_of c ∷ []) ∙ plus_zero (count is_activation mid.entries) ∙ p.activations;
      rx = λ x now.
          let before = p.rx x now in
          let act : count is_activation mid.entries - 1 ≡ count is_activation d.entries - 1 = ap (λ (k : ℕ). k - 1) p.activations in
          let look = look_in before.y (count is_activation d.entries - 1) c mid.machine before.is_active mid.calls.interrupts s.machine mid.masks s.masks
          (subst (λ (k : ℕ). Handles k s.packet.frame mid.calls.interrupts s.fate mid.machine mid.masks s.machine s.masks) act s.handles) in
          subst (RxPaired x (count is_activation d.entries - 1) (p.came ++ c ∷ [])) (ap (λ (y : DeviceView). y.machine.active) (sym s.is)) (rx_next x (count is_activation d.entries - 1) p.came c mid.machine.active s.machine before look);
    }
  where
    plus_zero : (k : ℕ) → k + 0 ≡ k
    plus_zero k = omega arith

all_came : (n : ℕ) (found : Bool) (d d' : DeviceView) → n ≤ length d.input → InSteps n found d d' → CameOn n d d'
all_came zero found d d' le s = record {
  came = [];
  pairs = refl;
  entries = ap (λ (x : DeviceView). x.entries) s.1 ∙ sym (append-nil d.entries);
  rest = λ r lo. ap (λ (x : DeviceView). slice_get x.input r) s.1;
  many = ap (λ (x : DeviceView). length x.input) s.1;
  port = ap (λ (x : DeviceView). x.port) s.1;
  activations = ap (λ (x : DeviceView). count is_activation x.entries) s.1;
  rx = λ x now. record { y = x; is_active = ap (λ (y : DeviceView). y.machine.active) s.1 ∙ now; setup = refl; tx = refl; pairs = rx_refl x.setup (count is_activation d.entries - 1) 0 x.ends.rx };
}
all_came (suc n) found d d' le (before, here, (mid, is, step, steps)) =
    let p = all_came n before d mid (omega (arith, le)) steps in one_link n here d mid d' p (omega (arith, le)) step

-- ------------------------------------------------------------ all links

pub all_links : (found : Bool) (d d' : DeviceView) → InSteps (length d.input) found d d' → CameOn (length d.input) d d'
all_links found d d' s = all_came (length d.input) found d d' (omega arith) s

-- the links before and after their looks stand pairwise
pub pairs_in : (d d' : DeviceView) (p : CameOn (length d.input) d d') → PairsIn d.port 0 d.input d'.input p.came
pairs_in d d' p =
    let there = (λ i. take (sym p.many i) d'.input) ∙ take_all d'.input in
    subst (λ (x : List LinkInView × List LinkInView). PairsIn d.port 0 x.0 x.1 p.came) (λ i. (take_all d.input i, there i)) p.pairs
