-- The queues of the activation in hand among all: the serial run finds each by its name, the actors by its number.
use Rattle.std.proofs.Common.{◌≡◌, ℕ, zero, suc, ◌+◌, ◌<◌, true, false, List, [], ◌∷◌, ◌++◌, map, refl, ap, sym, ◌∙◌, arith, nat_eq, Some, subst}
use Rattle.std.specs.Prelude.{◌&&◌}
use Rattle.std.specs.List.{find, slice_get, AllByRecursion}
use Rattle.std.proofs.lemmas.Bool.Decides.{nat_tests}
use Rattle.vmx_ends.specs.declared.made.TxMade.{TxMade}
use Rattle.vmx_ends.specs.declared.made.RxMade.{RxMade}
use Rattle.vmx_ends.specs.Transmit.{TxDriverView, TxDeviceView, TxView}
use Rattle.vmx_ends.specs.TransmitCore.{TxCore}
use Rattle.vmx_ends.specs.Receive.{RxDriverView, RxDeviceView, RxView}
use Rattle.vmx_ends.specs.ReceiveCore.{RxCore}
use Rattle.vmx_model.specs.declared.guest.GuestPlan.{GuestPlan}
use Rattle.vmx_model.specs.declared.journal.Received.{Received}
use Rattle.vmx_model.specs.Bags.{EachQueue}
use Rattle.vmx_model.specs.Serial.{at_number, where_it, tx_is, rx_is}
use Rattle.vmx_driver_steps.specs.Driver.{DriverView, Keeps, SendsPlan, HandsUp}
use Rattle.vmx_driver_steps.specs.Each.{are_below}
use Rattle.vmx_replay_worlds.specs.Guests.{live_tx, live_rx, met_tx, met_rx, joined}
use Rattle.vmx_replay_worlds.proofs.Queues.{OnlyAt, where_only, find_only, where_behind, find_behind, joined_get}

-- queues by their numbers, the first with the number `from`
abbrev pub Numbered : {C : Type 0} → (C → ℕ) → (C → ℕ) → ℕ → ℕ → List C → Type 0
Numbered act number a from [] = Unit {0}
Numbered act number a from (c ∷ cs) = (act c ≡ a) × (number c ≡ from) × Numbered act number a (suc from) cs

module _ {C : Type 0} (act number : C → ℕ) (a : ℕ) where
  above : (from q : ℕ) (cs : List C) → q < from → Numbered act number a from cs → AllByRecursion (λ c. (nat_eq (act c) a && nat_eq (number c) q) ≡ false) cs
  above from q [] lt h = tt
  above from q (c ∷ cs) lt h =
      let here = h.1 in let no : nat_eq (number c) q ≡ false = grind (arith, nat_tests) in let yes : nat_eq (act c) a ≡ true = (let e = h.0 in grind (arith, nat_tests)) in
      (rw (yes, no) refl, above (suc from) q cs (omega (arith, lt)) h.2)

  numbered_only : (from k : ℕ) (cs : List C) → Numbered act number a from cs → OnlyAt (λ c. nat_eq (act c) a && nat_eq (number c) (from + k)) k cs
  numbered_only from zero [] h = tt
  numbered_only from (suc k) [] h = tt
  numbered_only from zero (c ∷ cs) h =
      let here = h.1 in let yes : nat_eq (number c) (from + 0) ≡ true = grind (arith, nat_tests) in let too : nat_eq (act c) a ≡ true = (let e = h.0 in grind (arith, nat_tests)) in
      (rw (yes, too) refl, above (suc from) (from + 0) cs (omega arith) h.2)
  numbered_only from (suc k) (c ∷ cs) h =
      let here = h.1 in let no : nat_eq (number c) (from + suc k) ≡ false = grind (arith, nat_tests) in let too : nat_eq (act c) a ≡ true = (let e = h.0 in grind (arith, nat_tests)) in
      let same : suc from + k ≡ from + suc k = omega arith in
      (rw (too, no) refl, subst (λ (n : ℕ). OnlyAt (λ c. nat_eq (act c) a && nat_eq (number c) n) k cs) same (numbered_only (suc from) k cs h.2))

  pub numbered_first : (q : ℕ) (cs : List C) → Numbered act number a 0 cs → OnlyAt (λ c. nat_eq (act c) a && nat_eq (number c) q) q cs
  numbered_first q cs h = let same : 0 + q ≡ q = omega arith in subst (λ (n : ℕ). OnlyAt (λ c. nat_eq (act c) a && nat_eq (number c) n) q cs) same (numbered_only 0 q cs h)

-- ------------------------------------------------------------ transmit queues

tx_numbered : (g a next : ℕ) (p : GuestPlan) (q : ℕ) (ds : List TxDriverView) (es : List TxDeviceView) → EachQueue (SendsPlan g p a next) q ds → Numbered (λ (c : TxCore). c.made.name.activation) (λ (c : TxCore). c.made.name.queue) a q (joined live_tx ds es)
tx_numbered g a next p q [] es h = tt
tx_numbered g a next p q (d ∷ ds) [] h = tt
tx_numbered g a next p q (d ∷ ds) (e ∷ es) h = (ap (λ (m : TxMade). m.name.activation) h.0.made, ap (λ (m : TxMade). m.name.queue) h.0.made, tx_numbered g a next p (suc q) ds es h.1)

tx_earlier : (a q : ℕ) (fs : List TxView) → AllByRecursion (λ (f : TxView). f.made.name.activation < a) fs → AllByRecursion (λ (c : TxCore). tx_is a q c ≡ false) (map met_tx fs)
tx_earlier a q [] h = tt
tx_earlier a q (f ∷ fs) h = let lt = h.0 in let no : nat_eq f.made.name.activation a ≡ false = grind (arith, nat_tests) in (rw no refl, tx_earlier a q fs h.1)

-- a transmit queue in hand changes
pub tx_where : (v : DriverView) (q : ℕ) (change : TxCore → TxCore) (es : List TxDeviceView) → Keeps v
    → map met_tx v.tx_facts ++ at_number q change (joined live_tx v.tx es) ≡ where_it (tx_is v.at.ended q) change (map met_tx v.tx_facts ++ joined live_tx v.tx es)
tx_where v q change es k =
    ap (λ (cs : List TxCore). map met_tx v.tx_facts ++ cs)
    (sym (where_only (tx_is v.at.ended q) change q (joined live_tx v.tx es) (numbered_first (λ (c : TxCore). c.made.name.activation) (λ (c : TxCore). c.made.name.queue) v.at.ended q (joined live_tx v.tx es) (tx_numbered v.guest v.at.ended v.at.next v.plan 0 v.tx es k.tx))))
    ∙ sym (where_behind (tx_is v.at.ended q) change (map met_tx v.tx_facts) (joined live_tx v.tx es) (tx_earlier v.at.ended q v.tx_facts (are_below v.guest v.plan.setup.tx_queues v.at.ended (λ (f : TxView). f.made.name) v.tx_facts k.tx_names)))

-- ------------------------------------------------------------ receive queues

rx_numbered : (g a : ℕ) (p : GuestPlan) (received : List Received) (q : ℕ) (ds : List RxDriverView) (es : List RxDeviceView) → EachQueue (HandsUp g p a received) q ds → Numbered (λ (c : RxCore). c.made.name.activation) (λ (c : RxCore). c.made.name.queue) a q (joined live_rx ds es)
rx_numbered g a p received q [] es h = tt
rx_numbered g a p received q (d ∷ ds) [] h = tt
rx_numbered g a p received q (d ∷ ds) (e ∷ es) h = (ap (λ (m : RxMade). m.name.activation) h.0.made, ap (λ (m : RxMade). m.name.queue) h.0.made, rx_numbered g a p received (suc q) ds es h.1)

rx_earlier : (a q : ℕ) (fs : List RxView) → AllByRecursion (λ (f : RxView). f.made.name.activation < a) fs → AllByRecursion (λ (c : RxCore). rx_is a q c ≡ false) (map met_rx fs)
rx_earlier a q [] h = tt
rx_earlier a q (f ∷ fs) h = let lt = h.0 in let no : nat_eq f.made.name.activation a ≡ false = grind (arith, nat_tests) in (rw no refl, rx_earlier a q fs h.1)

module _ (v : DriverView) (q : ℕ) (es : List RxDeviceView) (k : Keeps v) where
  only : OnlyAt (rx_is v.at.ended q) q (joined live_rx v.rx es)
  only = numbered_first (λ (c : RxCore). c.made.name.activation) (λ (c : RxCore). c.made.name.queue) v.at.ended q (joined live_rx v.rx es) (rx_numbered v.guest v.at.ended v.plan v.received 0 v.rx es k.rx)

  early : AllByRecursion (λ (c : RxCore). rx_is v.at.ended q c ≡ false) (map met_rx v.rx_facts)
  early = rx_earlier v.at.ended q v.rx_facts (are_below v.guest v.plan.setup.rx_queues v.at.ended (λ (f : RxView). f.made.name) v.rx_facts k.rx_names)

  -- a receive queue in hand changes
  pub rx_where : (change : RxCore → RxCore) → map met_rx v.rx_facts ++ at_number q change (joined live_rx v.rx es) ≡ where_it (rx_is v.at.ended q) change (map met_rx v.rx_facts ++ joined live_rx v.rx es)
  rx_where change =
      ap (λ (cs : List RxCore). map met_rx v.rx_facts ++ cs) (sym (where_only (rx_is v.at.ended q) change q (joined live_rx v.rx es) only))
      ∙ sym (where_behind (rx_is v.at.ended q) change (map met_rx v.rx_facts) (joined live_rx v.rx es) early)

  -- it is found
  pub rx_found : (d : RxDriverView) (e : RxDeviceView) → slice_get v.rx q ≡ Some d → slice_get es q ≡ Some e → find (rx_is v.at.ended q) (map met_rx v.rx_facts ++ joined live_rx v.rx es) ≡ Some (live_rx d e)
  rx_found d e at_d at_e = find_behind (rx_is v.at.ended q) (map met_rx v.rx_facts) (joined live_rx v.rx es) early
      ∙ find_only (rx_is v.at.ended q) q (joined live_rx v.rx es) (live_rx d e) only (joined_get live_rx q v.rx es d e at_d at_e)
