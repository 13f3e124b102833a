-- A record with the lists of the serial run leaves nothing on its way.
use Rattle.std.proofs.Common.{◌≡◌, ℕ, zero, suc, List, [], ◌∷◌, length, map, take, refl, ap, sym, ◌∙◌, subst, arith}
use Rattle.std.proofs.lemmas.List.{length-map}
use Rattle.std.specs.List.{AllByRecursion}
use Rattle.vmx_ends.specs.declared.frames.Sent.{Sent}
use Rattle.vmx_ends.specs.declared.frames.Taken.{Taken}
use Rattle.vmx_ends.specs.Frames.{sent_of}
use Rattle.vmx_ends.specs.LinkView.{LinkView}
use Rattle.vmx_ends.specs.Transmit.{TxView}
use Rattle.vmx_ends.specs.Receive.{RxView}
use Rattle.vmx_ends.specs.TransmitCore.{TxCore}
use Rattle.vmx_ends.specs.ReceiveCore.{RxCore}
use Rattle.vmx_model.specs.Types.{Plan}
use Rattle.vmx_model.specs.Views.{GuestView, RecordView}
use Rattle.vmx_model.specs.Serial.{Seat, Wire, serial_run}
use Rattle.vmx_model.specs.Record.{HasLists, TxLists, RxLists, lists_of_tx, lists_of_tx_core, lists_of_rx, lists_of_rx_core, wire_of, carried_of}
use Rattle.vmx_model.specs.Left.{IsSentWhole, NothingIsLeft}
use Rattle.vmx_model.proofs.Lists.{all_weaker}
use Rattle.vmx_model.proofs.Tags.{all_map_back}
use Rattle.vmx_model.proofs.Copies.{all_map}
use Rattle.vmx_model.proofs.Folds.{IsReaped, serial_even}
use Rattle.vmx_model.specs.Turns.{IsEmptied}
use Rattle.vmx_model.proofs.Polls.{AllReceived, serial_received}

take_all : {X : Type 0} (xs : List X) (n : ℕ) → n ≡ length xs → take n xs ≡ xs
take_all [] zero e = refl
take_all [] (suc n) e = refl
take_all (x ∷ xs) zero e = absurd (omega (arith, e))
take_all (x ∷ xs) (suc n) e = ap (λ (ys : List _). x ∷ ys) (take_all xs n (omega (arith, e)))

abbrev IsWholeTx : TxLists → Type 0
IsWholeTx l = (l.taken ≡ l.sent) × (l.completed ≡ length l.sent) × (l.reaped ≡ length l.sent)

whole_core : (c : TxCore) → IsReaped c → IsWholeTx (lists_of_tx_core c)
whole_core c h = (take_all c.sent c.taken h.0, h.1, h.2)

taken_long : (ts : List Taken) (ss : List Sent) → sent_of ts ≡ ss → length ss ≡ length ts
taken_long ts ss e = ap length (sym e) ∙ length-map ts (λ (t : Taken). t.sent)

whole_tx : (f : TxView) → IsWholeTx (lists_of_tx f) → IsSentWhole f
whole_tx f h = let long = taken_long f.taken f.sent h.0 in record { taken = h.0; completed = h.1 ∙ long; reaped = h.2 ∙ long }

tx_left : (plan : Plan) (r : RecordView) → HasLists r (serial_run plan) → AllByRecursion (λ (v : GuestView). AllByRecursion IsSentWhole v.tx) r.guests
tx_left plan r h =
    let seats : AllByRecursion (λ (ls : List TxLists). AllByRecursion IsWholeTx ls) (map (λ (s : Seat). map lists_of_tx_core s.tx) (serial_run plan).seats) =
    all_map (λ (s : Seat). map lists_of_tx_core s.tx) (λ (ls : List TxLists). AllByRecursion IsWholeTx ls) (serial_run plan).seats
    (all_weaker (λ (s : Seat). AllByRecursion IsReaped s.tx) (λ (s : Seat). AllByRecursion IsWholeTx (map lists_of_tx_core s.tx)) (λ s k. all_map lists_of_tx_core IsWholeTx s.tx (all_weaker IsReaped (λ (c : TxCore). IsWholeTx (lists_of_tx_core c)) whole_core s.tx k)) (serial_run plan).seats (serial_even plan).1) in
    let guests : AllByRecursion (λ (ls : List TxLists). AllByRecursion IsWholeTx ls) (map (λ (v : GuestView). map lists_of_tx v.tx) r.guests) = subst (λ (xs : List (List TxLists)). AllByRecursion (λ (ls : List TxLists). AllByRecursion IsWholeTx ls) xs) (sym h.tx) seats in
    all_weaker (λ (v : GuestView). AllByRecursion IsWholeTx (map lists_of_tx v.tx)) (λ (v : GuestView). AllByRecursion IsSentWhole v.tx)
    (λ v k. all_weaker (λ (f : TxView). IsWholeTx (lists_of_tx f)) IsSentWhole whole_tx v.tx (all_map_back lists_of_tx IsWholeTx v.tx k)) r.guests
    (all_map_back (λ (v : GuestView). map lists_of_tx v.tx) (λ (ls : List TxLists). AllByRecursion IsWholeTx ls) r.guests guests)

abbrev IsWholeRx : RxLists → Type 0
IsWholeRx l = l.received ≡ l.delivered

rx_left : (plan : Plan) (r : RecordView) → HasLists r (serial_run plan) → AllByRecursion (λ (v : GuestView). AllByRecursion (λ (f : RxView). f.received ≡ f.delivered) v.rx) r.guests
rx_left plan r h =
    let seats : AllByRecursion (λ (ls : List RxLists). AllByRecursion IsWholeRx ls) (map (λ (s : Seat). map lists_of_rx_core s.rx) (serial_run plan).seats) =
    all_map (λ (s : Seat). map lists_of_rx_core s.rx) (λ (ls : List RxLists). AllByRecursion IsWholeRx ls) (serial_run plan).seats
    (all_weaker AllReceived (λ (s : Seat). AllByRecursion IsWholeRx (map lists_of_rx_core s.rx))
    (λ s k. all_map lists_of_rx_core IsWholeRx s.rx (all_weaker (λ (c : RxCore). c.received ≡ length c.delivered) (λ (c : RxCore). IsWholeRx (lists_of_rx_core c)) (λ c e. take_all c.delivered c.received e) s.rx k)) (serial_run plan).seats (serial_received plan)) in
    let guests : AllByRecursion (λ (ls : List RxLists). AllByRecursion IsWholeRx ls) (map (λ (v : GuestView). map lists_of_rx v.rx) r.guests) = subst (λ (xs : List (List RxLists)). AllByRecursion (λ (ls : List RxLists). AllByRecursion IsWholeRx ls) xs) (sym h.rx) seats in
    all_weaker (λ (v : GuestView). AllByRecursion IsWholeRx (map lists_of_rx v.rx)) (λ (v : GuestView). AllByRecursion (λ (f : RxView). f.received ≡ f.delivered) v.rx)
    (λ v k. all_map_back lists_of_rx IsWholeRx v.rx k) r.guests
    (all_map_back (λ (v : GuestView). map lists_of_rx v.rx) (λ (ls : List RxLists). AllByRecursion IsWholeRx ls) r.guests guests)

links_left : (plan : Plan) (r : RecordView) → HasLists r (serial_run plan) → AllByRecursion (λ (l : LinkView). length l.pulled ≡ length l.pushed) r.links
links_left plan r h = all_weaker (λ (l : LinkView). IsEmptied (wire_of l)) (λ (l : LinkView). length l.pulled ≡ length l.pushed)
    (λ l e. sym (length-map l.pulled carried_of) ∙ ap length e ∙ length-map l.pushed carried_of) r.links
    (all_map_back wire_of IsEmptied r.links (subst (λ (ls : List Wire). AllByRecursion IsEmptied ls) (sym h.links) (serial_even plan).0))

pub nothing_left : (plan : Plan) (r : RecordView) → HasLists r (serial_run plan) → NothingIsLeft r
nothing_left plan r h = record { links = links_left plan r h; tx = tx_left plan r h; rx = rx_left plan r h }
