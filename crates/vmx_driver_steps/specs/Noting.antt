-- Notes between all ends, in one pair of hands, leave them whole and with the same lists.
use Rattle.std.proofs.Common.{◌≡◌, ℕ, suc, Bool, true, ◌&&◌, ◌||◌, ◌==◌, List, [], ◌∷◌, ◌++◌, length, map, refl, ap, sym, ◌∙◌, arith, inl, inr}
use Rattle.std.proofs.lemmas.Bool.Decides.{eqb_tells}
use Rattle.vmx_ends.specs.Transmit.{TxDriverView, TxDeviceView}
use Rattle.vmx_ends.specs.Receive.{RxDriverView, RxDeviceView}
use Rattle.vmx_ends.specs.HandedEnds.{ends_handed, tx_numbers, rx_numbers, all_of, any_of, is_whole_tx, is_whole_rx, is_fresh_tx, is_fresh_rx}
use Rattle.vmx_model.specs.Bags.{Pairwise}
use Rattle.vmx_driver_steps.specs.Driver.{AreOneTx, AreOneRx, IsHeldTx, IsHeldRx}
use Rattle.vmx_driver_steps.specs.Queues.{PassedTx, PassedRx, PassedAllTx, PassedAllRx}

same_numbers : (n m : ℕ) → n ≡ m → (n == m) ≡ true
same_numbers n m e = elim (eqb_tells n m) [
  | inl x ↦ x.0
  | inr x ↦ absurd (x.1 e)
]

-- a device's end after notes
pub record StillTx (e e' : TxDeviceView) : Type 0 where
  pub key : e'.key ≡ e.key
  pub numbers : tx_numbers e' ≡ tx_numbers e
  pub whole : is_whole_tx e' ≡ is_whole_tx e
  pub fresh : is_fresh_tx e' ≡ is_fresh_tx e
  pub given : e'.given ≡ e.given

still_tx : (d d' : TxDriverView) (e e' : TxDeviceView) → AreOneTx d e → PassedTx d e d' e' → StillTx e e'
still_tx d d' e e' o p = let is = p.device in record {
  key = ap (λ (x : TxDeviceView). x.key) is;
  numbers = ap tx_numbers is;
  whole = ap is_whole_tx is ∙ ap (λ (b : Bool). (e.completed == length e.taken) && b) (same_numbers (suc e.notes_given) (suc e.notes_heard) (ap suc o.even) ∙ sym (same_numbers e.notes_given e.notes_heard o.even));
  fresh = ap is_fresh_tx is;
  given = ap (λ (x : TxDeviceView). x.given) is;
}

held_tx : (d d' : TxDriverView) (e e' : TxDeviceView) → AreOneTx d e → PassedTx d e d' e' → IsHeldTx d' e'
held_tx d d' e e' o p = let heard = p.heard in let c = ap (λ (x : TxDeviceView). x.completed) p.device in record {
  one = record {
    key = ap (λ (x : TxDriverView). x.key) p.driver ∙ o.key ∙ sym (ap (λ (x : TxDeviceView). x.key) p.device);
    idle = c ∙ o.idle ∙ sym (ap (λ (x : TxDeviceView). length x.taken) p.device);
    even = ap (λ (x : TxDeviceView). x.notes_given) p.device ∙ ap suc o.even ∙ sym (ap (λ (x : TxDeviceView). x.notes_heard) p.device);
  };
  told = omega (arith, heard, c);
}

pub record StillRx (e e' : RxDeviceView) : Type 0 where
  pub key : e'.key ≡ e.key
  pub numbers : rx_numbers e' ≡ rx_numbers e
  pub whole : is_whole_rx e' ≡ is_whole_rx e
  pub fresh : is_fresh_rx e' ≡ is_fresh_rx e
  pub given : e'.given ≡ e.given

still_rx : (d d' : RxDriverView) (e e' : RxDeviceView) → AreOneRx d e → PassedRx d e d' e' → StillRx e e'
still_rx d d' e e' o p = let is = p.device in record {
  key = ap (λ (x : RxDeviceView). x.key) is;
  numbers = ap rx_numbers is;
  whole = ap is_whole_rx is ∙ same_numbers (suc e.notes_given) (suc e.notes_heard) (ap suc o.even) ∙ sym (same_numbers e.notes_given e.notes_heard o.even);
  fresh = ap is_fresh_rx is;
  given = ap (λ (x : RxDeviceView). x.given) is;
}

held_rx : (d d' : RxDriverView) (e e' : RxDeviceView) → AreOneRx d e → PassedRx d e d' e' → IsHeldRx d' e'
held_rx d d' e e' o p = let heard = p.heard in let c = ap (λ (x : RxDeviceView). length x.delivered) p.device in record {
  one = record {
    key = ap (λ (x : RxDriverView). x.key) p.driver ∙ o.key ∙ sym (ap (λ (x : RxDeviceView). x.key) p.device);
    even = ap (λ (x : RxDeviceView). x.notes_given) p.device ∙ ap suc o.even ∙ sym (ap (λ (x : RxDeviceView). x.notes_heard) p.device);
  };
  told = omega (arith, heard, c);
}

-- all of a kind
pub record AllStillTx (es es' : List TxDeviceView) : Type 0 where
  pub keys : map (λ (e : TxDeviceView). e.key) es' ≡ map (λ (e : TxDeviceView). e.key) es
  pub numbers : map tx_numbers es' ≡ map tx_numbers es
  pub whole : all_of is_whole_tx es' ≡ all_of is_whole_tx es
  pub fresh : all_of is_fresh_tx es' ≡ all_of is_fresh_tx es
  pub given : any_of (λ (e : TxDeviceView). e.given) es' ≡ any_of (λ (e : TxDeviceView). e.given) es
  pub len : length es' ≡ length es

pub all_still_tx : (ds : List TxDriverView) (es : List TxDeviceView) (ds' : List TxDriverView) (es' : List TxDeviceView) → Pairwise AreOneTx ds es → PassedAllTx ds es ds' es' → AllStillTx es es'
all_still_tx [] [] [] [] o p = record { keys = refl; numbers = refl; whole = refl; fresh = refl; given = refl; len = refl }
all_still_tx [] [] [] (y ∷ es') o p = absurd p
all_still_tx [] [] (x ∷ ds') es' o p = absurd p
all_still_tx [] (e ∷ es) ds' es' o p = absurd o
all_still_tx (d ∷ ds) [] ds' es' o p = absurd o
all_still_tx (d ∷ ds) (e ∷ es) [] es' o p = absurd p
all_still_tx (d ∷ ds) (e ∷ es) (d' ∷ ds') [] o p = absurd p
all_still_tx (d ∷ ds) (e ∷ es) (d' ∷ ds') (e' ∷ es') o p = let a = still_tx d d' e e' o.0 p.0 in let r = all_still_tx ds es ds' es' o.1 p.1 in record {
  keys = λ i. a.key i ∷ r.keys i;
  numbers = λ i. a.numbers i ∷ r.numbers i;
  whole = λ i. a.whole i && r.whole i;
  fresh = λ i. a.fresh i && r.fresh i;
  given = λ i. a.given i || r.given i;
  len = ap suc r.len;
}

pub all_held_tx : (ds : List TxDriverView) (es : List TxDeviceView) (ds' : List TxDriverView) (es' : List TxDeviceView) → Pairwise AreOneTx ds es → PassedAllTx ds es ds' es' → Pairwise IsHeldTx ds' es'
all_held_tx [] [] [] [] o p = tt
all_held_tx [] [] [] (y ∷ es') o p = absurd p
all_held_tx [] [] (x ∷ ds') es' o p = absurd p
all_held_tx [] (e ∷ es) ds' es' o p = absurd o
all_held_tx (d ∷ ds) [] ds' es' o p = absurd o
all_held_tx (d ∷ ds) (e ∷ es) [] es' o p = absurd p
all_held_tx (d ∷ ds) (e ∷ es) (d' ∷ ds') [] o p = absurd p
all_held_tx (d ∷ ds) (e ∷ es) (d' ∷ ds') (e' ∷ es') o p = (held_tx d d' e e' o.0 p.0, all_held_tx ds es ds' es' o.1 p.1)

pub record AllStillRx (es es' : List RxDeviceView) : Type 0 where
  pub keys : map (λ (e : RxDeviceView). e.key) es' ≡ map (λ (e : RxDeviceView). e.key) es
  pub numbers : map rx_numbers es' ≡ map rx_numbers es
  pub whole : all_of is_whole_rx es' ≡ all_of is_whole_rx es
  pub fresh : all_of is_fresh_rx es' ≡ all_of is_fresh_rx es
  pub given : any_of (λ (e : RxDeviceView). e.given) es' ≡ any_of (λ (e : RxDeviceView). e.given) es
  pub len : length es' ≡ length es

pub all_still_rx : (ds : List RxDriverView) (es : List RxDeviceView) (ds' : List RxDriverView) (es' : List RxDeviceView) → Pairwise AreOneRx ds es → PassedAllRx ds es ds' es' → AllStillRx es es'
all_still_rx [] [] [] [] o p = record { keys = refl; numbers = refl; whole = refl; fresh = refl; given = refl; len = refl }
all_still_rx [] [] [] (y ∷ es') o p = absurd p
all_still_rx [] [] (x ∷ ds') es' o p = absurd p
all_still_rx [] (e ∷ es) ds' es' o p = absurd o
all_still_rx (d ∷ ds) [] ds' es' o p = absurd o
all_still_rx (d ∷ ds) (e ∷ es) [] es' o p = absurd p
all_still_rx (d ∷ ds) (e ∷ es) (d' ∷ ds') [] o p = absurd p
all_still_rx (d ∷ ds) (e ∷ es) (d' ∷ ds') (e' ∷ es') o p = let a = still_rx d d' e e' o.0 p.0 in let r = all_still_rx ds es ds' es' o.1 p.1 in record {
  keys = λ i. a.key i ∷ r.keys i;
  numbers = λ i. a.numbers i ∷ r.numbers i;
  whole = λ i. a.whole i && r.whole i;
  fresh = λ i. a.fresh i && r.fresh i;
  given = λ i. a.given i || r.given i;
  len = ap suc r.len;
}

pub all_held_rx : (ds : List RxDriverView) (es : List RxDeviceView) (ds' : List RxDriverView) (es' : List RxDeviceView) → Pairwise AreOneRx ds es → PassedAllRx ds es ds' es' → Pairwise IsHeldRx ds' es'
all_held_rx [] [] [] [] o p = tt
all_held_rx [] [] [] (y ∷ es') o p = absurd p
all_held_rx [] [] (x ∷ ds') es' o p = absurd p
all_held_rx [] (e ∷ es) ds' es' o p = absurd o
all_held_rx (d ∷ ds) [] ds' es' o p = absurd o
all_held_rx (d ∷ ds) (e ∷ es) [] es' o p = absurd p
all_held_rx (d ∷ ds) (e ∷ es) (d' ∷ ds') [] o p = absurd p
all_held_rx (d ∷ ds) (e ∷ es) (d' ∷ ds') (e' ∷ es') o p = (held_rx d d' e e' o.0 p.0, all_held_rx ds es ds' es' o.1 p.1)

-- the bag that they would make is the same
pub same_bag : (txs txs' : List TxDeviceView) (rxs rxs' : List RxDeviceView) → AllStillTx txs txs' → AllStillRx rxs rxs' → ends_handed txs' rxs' ≡ ends_handed txs rxs
same_bag txs txs' rxs rxs' a b = λ i. record {
  keys = a.keys i ++ b.keys i;
  lists = a.numbers i ++ b.numbers i;
  tx = a.len i;
  rx = b.len i;
  whole = a.whole i && b.whole i;
  given = a.given i || b.given i;
  fresh = a.fresh i && b.fresh i;
}

-- what it heard, and its counts of notes, may have changed
abbrev pub IsNotedTx : TxDriverView → TxDriverView → Type 0
IsNotedTx d d' = d' ≡ record d { heard = d'.heard; notes_given = d'.notes_given; notes_heard = d'.notes_heard }

pub tx_pairs : (ds : List TxDriverView) (es : List TxDeviceView) (ds' : List TxDriverView) (es' : List TxDeviceView) → PassedAllTx ds es ds' es' → Pairwise IsNotedTx ds ds'
tx_pairs [] [] [] [] p = tt
tx_pairs [] [] [] (y ∷ es') p = absurd p
tx_pairs [] [] (x ∷ ds') es' p = absurd p
tx_pairs [] (e ∷ es) ds' es' p = absurd p
tx_pairs (d ∷ ds) [] ds' es' p = absurd p
tx_pairs (d ∷ ds) (e ∷ es) [] es' p = absurd p
tx_pairs (d ∷ ds) (e ∷ es) (d' ∷ ds') [] p = absurd p
tx_pairs (d ∷ ds) (e ∷ es) (d' ∷ ds') (e' ∷ es') p = (p.0.driver ∙ (λ i. record d { heard = sym (ap (λ (x : TxDriverView). x.heard) p.0.driver) i; notes_given = sym (ap (λ (x : TxDriverView). x.notes_given) p.0.driver) i; notes_heard = sym (ap (λ (x : TxDriverView). x.notes_heard) p.0.driver) i }), tx_pairs ds es ds' es' p.1)

-- what it heard, and its counts of notes, may have changed
abbrev pub IsNotedRx : RxDriverView → RxDriverView → Type 0
IsNotedRx d d' = d' ≡ record d { heard = d'.heard; notes_given = d'.notes_given; notes_heard = d'.notes_heard }

pub rx_pairs : (ds : List RxDriverView) (es : List RxDeviceView) (ds' : List RxDriverView) (es' : List RxDeviceView) → PassedAllRx ds es ds' es' → Pairwise IsNotedRx ds ds'
rx_pairs [] [] [] [] p = tt
rx_pairs [] [] [] (y ∷ es') p = absurd p
rx_pairs [] [] (x ∷ ds') es' p = absurd p
rx_pairs [] (e ∷ es) ds' es' p = absurd p
rx_pairs (d ∷ ds) [] ds' es' p = absurd p
rx_pairs (d ∷ ds) (e ∷ es) [] es' p = absurd p
rx_pairs (d ∷ ds) (e ∷ es) (d' ∷ ds') [] p = absurd p
rx_pairs (d ∷ ds) (e ∷ es) (d' ∷ ds') (e' ∷ es') p = (p.0.driver ∙ (λ i. record d { heard = sym (ap (λ (x : RxDriverView). x.heard) p.0.driver) i; notes_given = sym (ap (λ (x : RxDriverView). x.notes_given) p.0.driver) i; notes_heard = sym (ap (λ (x : RxDriverView). x.notes_heard) p.0.driver) i }), rx_pairs ds es ds' es' p.1)
