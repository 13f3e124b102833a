-- What comes back with the answer to a quiesce or a reset: the other ends of the driver's queues, one by one.
use Rattle.std.proofs.Common.{◌≡◌, Bool, true, false, ◌&&◌, true≢false, List, [], ◌∷◌, length, map, refl, ap, sym, ◌∙◌, arith, Option, Some, None}
use Rattle.std.specs.List.{AllByRecursion}
use Rattle.std.proofs.lemmas.List.{length-map}
use Rattle.std.proofs.lemmas.List.Elements.{recursion_from_All}
use Rattle.vmx_io.specs.declared.handed.HandedView.{HandedView}
use Rattle.vmx_ends.specs.Transmit.{TxDriverView, TxDeviceView}
use Rattle.vmx_ends.specs.Receive.{RxDriverView, RxDeviceView}
use Rattle.vmx_ends.specs.HandedEnds.{ends_handed, all_of, is_whole_tx, is_whole_rx}
use Rattle.vmx_ends.specs.HandedLaws.{split_at, all_are, whole_tx, whole_rx}
use Rattle.vmx_device_state.specs.Deals.{Held as HeldEnds, held_as, AreEndsBack, Stops}
use Rattle.vmx_model.specs.Bags.{Pairwise}
use Rattle.vmx_driver_steps.specs.Driver.{AreOneTx, AreOneRx, other_ends}

pair_tx : (tx : List TxDriverView) (txs : List TxDeviceView) → map (λ (e : TxDeviceView). e.key) txs ≡ map (λ (d : TxDriverView). d.key) tx → AllByRecursion (λ (e : TxDeviceView). is_whole_tx e ≡ true) txs → Pairwise AreOneTx tx txs
pair_tx [] [] e w = tt
pair_tx [] (y ∷ ys) e w = let l = ap length e in absurd (omega arith)
pair_tx (x ∷ xs) [] e w = let l = ap length e in absurd (omega arith)
pair_tx (x ∷ xs) (y ∷ ys) e w = let head : y.key ≡ x.key = cc e in let tail : map (λ (e : TxDeviceView). e.key) ys ≡ map (λ (d : TxDriverView). d.key) xs = cc e in
    let h = whole_tx y w.0 in (record { key = sym head; idle = h.0; even = h.1 }, pair_tx xs ys tail w.1)

pair_rx : (rx : List RxDriverView) (rxs : List RxDeviceView) → map (λ (e : RxDeviceView). e.key) rxs ≡ map (λ (d : RxDriverView). d.key) rx → AllByRecursion (λ (e : RxDeviceView). is_whole_rx e ≡ true) rxs → Pairwise AreOneRx rx rxs
pair_rx [] [] e w = tt
pair_rx [] (y ∷ ys) e w = let l = ap length e in absurd (omega arith)
pair_rx (x ∷ xs) [] e w = let l = ap length e in absurd (omega arith)
pair_rx (x ∷ xs) (y ∷ ys) e w = let head : y.key ≡ x.key = cc e in let tail : map (λ (e : RxDeviceView). e.key) ys ≡ map (λ (d : RxDriverView). d.key) xs = cc e in
    (record { key = sym head; even = whole_rx y w.0 }, pair_rx xs ys tail w.1)

both : (a b : Bool) → (a && b) ≡ true → (a ≡ true) × (b ≡ true)
both true b e = (refl, e)
both false b e = absurd (true≢false (sym e))

-- whole ends with the keys of the driver's, in the same numbers, are their other ends
pub ends_back : (tx : List TxDriverView) (rx : List RxDriverView) (txs : List TxDeviceView) (rxs : List RxDeviceView) → held_as (ends_handed txs rxs) ≡ other_ends tx rx → (ends_handed txs rxs).whole ≡ true → Pairwise AreOneTx tx txs × Pairwise AreOneRx rx rxs
ends_back tx rx txs rxs same whole =
    let w = both (all_of is_whole_tx txs) (all_of is_whole_rx rxs) whole in
    let many : length txs ≡ length tx = ap (λ (h : HeldEnds). h.tx) same in
    let l = length-map txs (λ (e : TxDeviceView). e.key) in let m = length-map tx (λ (d : TxDriverView). d.key) in
    let told = split_at (map (λ (e : TxDeviceView). e.key) txs) (map (λ (d : TxDriverView). d.key) tx) (map (λ (e : RxDeviceView). e.key) rxs) (map (λ (d : RxDriverView). d.key) rx) (omega (arith, many, l, m)) (ap (λ (h : HeldEnds). h.keys) same) in (
      pair_tx tx txs told.0 (recursion_from_All (λ (e : TxDeviceView). is_whole_tx e ≡ true) txs (all_are is_whole_tx txs w.0)),
      pair_rx rx rxs told.1 (recursion_from_All (λ (e : RxDeviceView). is_whole_rx e ≡ true) rxs (all_are is_whole_rx rxs w.1)),
    )

-- what an answer that gives ends back has
pub record GaveBack (ends : HeldEnds) (back : Option HandedView) : Type 0 where
  pub bag : HandedView
  pub is : back ≡ Some bag
  pub ends_are : held_as bag ≡ ends
  pub whole : bag.whole ≡ true

pub gave_back : (held : Option HeldEnds) (given back : Option HandedView) (ends : HeldEnds) → held ≡ Some ends → AreEndsBack Stops held given back → GaveBack ends back
gave_back None given back ends h b = absurd (cc h)
gave_back (Some hs) given None ends h b = absurd (cc b.0)
gave_back (Some hs) given (Some bag) ends h b = let same : hs ≡ ends = cc h in let had : held_as bag ≡ hs = cc b.0 in record { bag = bag; is = refl; ends_are = had ∙ same; whole = b.1 }
