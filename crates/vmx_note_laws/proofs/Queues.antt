-- Notes between the two ends of a queue.
use Rattle.std.proofs.Common.{◌≡◌, ℕ, suc, ◌≤◌, ◌<◌, false, List, [], ◌∷◌, ◌++◌, length, refl, sym, ap, ◌∙◌, subst, arith, inl, inr, ◌⊎◌}
use Rattle.std.proofs.lemmas.List.{length-map}
use mathlib.Core.List.{IsPrefix}
use Rattle.vmx_ends.specs.declared.frames.Sent.{Sent}
use Rattle.vmx_ends.specs.declared.frames.Taken.{Taken}
use Rattle.vmx_ends.specs.declared.frames.Delivery.{Delivery}
use Rattle.vmx_ends.specs.declared.meta.TxMark.{TxMark}
use Rattle.vmx_ends.specs.declared.meta.RxMeta.{RxMeta}
use Rattle.vmx_ends.specs.declared.made.RxMade.{RxMade}
use Rattle.vmx_ends.specs.declared.made.Bodies.TheVariants.{Every}
use Rattle.vmx_ends.specs.Frames.{sent_of, sent_as, longer, larger}
use Rattle.vmx_ends.specs.CaughtUp.{whole_front}
use Rattle.vmx_ends.specs.Transmit.{TxDriverView, TxDeviceView, TxNoteView}
use Rattle.vmx_ends.specs.TransmitClauses as tx
use Rattle.vmx_ends.specs.Receive.{RxDriverView, RxDeviceView, RxNoteView, used, took1, took2, posted1, posted2, consumed1, consumed2}
use Rattle.vmx_ends.specs.ReceiveClauses as rx
use Rattle.vmx_ends.specs.Walk.{further_pieces}
use Rattle.vmx_ends.specs.Exactness.{IsTaken, IsMissing, exact_delivery, exact_refusal}
use Rattle.vmx_ends.specs.Queues.{driver_passed_rx, device_passed_rx}
use Rattle.vmx_note_laws.specs.Queues.{AreOneTx, IsToldTx, NotesBothTx, PassesTx, TakesNextSent, IsBehindRx, IsToldRx, NotesBothRx, PassesRx, GoesOnRxDriver, GoesOnRxDevice, ReceivesNext}
use Rattle.vmx_note_laws.proofs.Fronts.{longer_whole, all_of, front_grows, next_behind, none_before}

-- ------------------------------------------------------------ a transmit queue

pub both_tx : (d d' : TxDriverView) (e e' : TxDeviceView) → NotesBothTx d e d' e' → PassesTx d e d' e'
both_tx d d' e e' n =
    let fine : n.told.given ≡ false = ap (λ (x : TxDeviceView). x.given) n.hears.is ∙ n.hears.fine in
    let said = n.notes.0 fine in
    let frames : n.back.frames ≡ sent_of e.taken = ap (λ (x : TxNoteView). x.frames) said.0 ∙ ap (λ (x : TxDeviceView). sent_of x.taken) n.hears.is in
    let done : n.back.done ≡ e.completed = ap (λ (x : TxNoteView). x.done) said.0 ∙ ap (λ (x : TxDeviceView). x.completed) n.hears.is in record {
      driver = n.heard.is ∙ ap (λ (k : ℕ). record d { heard = larger d.heard k; notes_given = suc d.notes_given; notes_heard = suc d.notes_heard }) done;
      device = said.1 ∙ ap (λ (x : TxDeviceView). record x { notes_given = suc x.notes_given }) n.hears.is;
      made = n.hears.made_is;
      given = n.hears.fine;
      sent = subst (λ (x : TxDeviceView). length d.sent ≤ length x.heard) (sym said.1) n.hears.heard;
      completed = subst (λ (k : ℕ). k ≤ d'.heard) done n.heard.heard;
      within = subst (λ (l : List Sent). IsPrefix l d.sent) frames n.heard.taken;
      reaped = n.hears.done;
    }

pub passes_told_tx : (d d' : TxDriverView) (e e' : TxDeviceView) → AreOneTx d e → PassesTx d e d' e' → IsToldTx d' e'
passes_told_tx d d' e e' one p =
    let sent = ap (λ (x : TxDriverView). length x.sent) p.driver in let told = p.sent in
    let done = ap (λ (x : TxDeviceView). x.completed) p.device in let heard = p.completed in
    let reaped = ap (λ (x : TxDriverView). x.reaped) p.driver in let few = p.reaped in record {
      key = ap (λ (x : TxDriverView). x.key) p.driver ∙ one ∙ sym (ap (λ (x : TxDeviceView). x.key) p.device);
      made = ap (λ (x : TxDriverView). x.made) p.driver ∙ p.made ∙ sym (ap (λ (x : TxDeviceView). x.made) p.device);
      given = ap (λ (x : TxDeviceView). x.given) p.device ∙ p.given;
      sent = omega (arith, sent, told);
      completed = omega (arith, done, heard);
      within = subst (λ (x : TxDriverView × TxDeviceView). IsPrefix (sent_of x.1.taken) x.0.sent) (λ i. (sym p.driver i, sym p.device i)) p.within;
      reaped = omega (arith, reaped, done, few);
    }

-- the taken frames, one more
pub sent_push : (ts : List Taken) (t : Taken) → sent_of (ts ++ t ∷ []) ≡ sent_of ts ++ t.sent ∷ []
sent_push [] t = refl
sent_push (u ∷ ts) t = ap (λ (xs : List Sent). u.sent ∷ xs) (sent_push ts t)

pub takes_next : (d d' : TxDriverView) (e mid n n' : TxDeviceView) (frame : List ℕ) (place : ℕ) (mark : TxMark) → tx.TakesFrame e frame place mark mid → tx.Completes mid n → PassesTx d n d' n' → TakesNextSent d e frame mark
takes_next d d' e mid n n' frame place mark t c p =
    let taken : sent_of n.taken ≡ sent_of e.taken ++ sent_as frame mark ∷ [] = ap (λ (x : TxDeviceView). sent_of x.taken) c ∙ ap (λ (x : TxDeviceView). sent_of x.taken) t.is ∙ sent_push e.taken (record { sent = sent_as frame mark; descriptors = t.count }) in
    let next = next_behind (sent_of e.taken) d.sent (sent_of n.taken) (sent_as frame mark) taken p.within in
    record { more = next.0; next = next.1 }

pub none_left_tx : (d : TxDriverView) (e n : TxDeviceView) (word : ℕ) → IsToldTx d e → tx.FindsNone e word n → sent_of e.taken ≡ d.sent
none_left_tx d e n word t f =
    let few = f.unheard in let all = t.sent in let same = length-map e.taken (λ (x : Taken). x.sent) in
    whole_front (sent_of e.taken) d.sent t.within (omega (arith, few, all, same))

pub reaps_all : (d d' d'' : TxDriverView) (e e'' : TxDeviceView) → IsToldTx d e → d.heard ≤ d'.reaped → PassesTx d' e d'' e'' → d'.reaped ≡ e.completed
reaps_all d d' d'' e e'' t some p = let all = t.completed in let most = p.reaped in omega (arith, some, all, most)

-- ------------------------------------------------------------ a receive queue

pub both_rx : (d d' : RxDriverView) (e e' : RxDeviceView) → NotesBothRx d e d' e' → PassesRx d e d' e'
both_rx d d' e e' n =
    let fine : n.told.given ≡ false = ap (λ (x : RxDeviceView). x.given) n.hears.is ∙ n.hears.fine in
    let said = n.notes.0 fine in
    let frames : n.back.frames ≡ e.delivered = ap (λ (x : RxNoteView). x.frames) said.0 ∙ ap (λ (x : RxDeviceView). x.delivered) n.hears.is in
    let one : n.back.seen1 ≡ e.seen1 = ap (λ (x : RxNoteView). x.seen1) said.0 ∙ ap (λ (x : RxDeviceView). x.seen1) n.hears.is in
    let two : n.back.seen2 ≡ e.seen2 = ap (λ (x : RxNoteView). x.seen2) said.0 ∙ ap (λ (x : RxDeviceView). x.seen2) n.hears.is in record {
      driver = n.heard.is ∙ ap (λ (l : List Delivery). record d { heard = longer d.heard l; notes_given = suc d.notes_given; notes_heard = suc d.notes_heard }) frames;
      device = said.1 ∙ ap (λ (x : RxDeviceView). record x { notes_given = suc x.notes_given }) n.hears.is;
      made = n.hears.made_is;
      given = n.hears.fine;
      told = subst (λ (x : RxDeviceView). IsPrefix x.heard e.delivered) (sym said.1) n.hears.within;
      delivered = subst (λ (l : List Delivery). length l ≤ length d'.heard) frames n.heard.heard;
      within = n.hears.received;
      consumed = subst (λ (l : List Delivery). (used took1 l ≤ posted1 d.made d.received) × (used took2 l ≤ posted2 d.made d.received)) frames n.heard.consumed;
      seen = subst (λ (x : ℕ × ℕ). (x.0 ≤ posted1 d.made d.received) × (x.1 ≤ posted2 d.made d.received)) (λ i. (one i, two i)) n.heard.seen;
    }

pub passes_told_rx : (d d' : RxDriverView) (e e' : RxDeviceView) → IsBehindRx d e → PassesRx d e d' e' → IsToldRx d' e'
passes_told_rx d d' e e' b p =
    let long = ap (λ (x : RxDeviceView). length x.delivered) p.device in let more = p.delivered in record {
      key = ap (λ (x : RxDriverView). x.key) p.driver ∙ b.key ∙ sym (ap (λ (x : RxDeviceView). x.key) p.device);
      made = ap (λ (x : RxDriverView). x.made) p.driver ∙ p.made ∙ sym (ap (λ (x : RxDeviceView). x.made) p.device);
      given = ap (λ (x : RxDeviceView). x.given) p.device ∙ p.given;
      received = by_heard b.heard ∙ sym (ap (λ (x : RxDriverView). x.received) p.driver);
      delivered = omega (arith, long, more);
      within = both (λ (x : RxDriverView) (y : RxDeviceView). IsPrefix x.received y.delivered) p.within;
      consumed = both (λ (x : RxDriverView) (y : RxDeviceView). (consumed1 y ≤ posted1 x.made x.received) × (consumed2 y ≤ posted2 x.made x.received)) p.consumed;
      seen = both (λ (x : RxDriverView) (y : RxDeviceView). (y.seen1 ≤ posted1 x.made x.received) × (y.seen2 ≤ posted2 x.made x.received)) p.seen;
    }
  where
    by_heard : (e.delivered ≡ []) ⊎ IsPrefix e.heard d.received → e'.heard ≡ d.received
    by_heard (inl none) = none_before e'.heard e.delivered none p.told ∙ sym (none_before d.received e.delivered none p.within)
    by_heard (inr front) = ap (λ (x : RxDeviceView). x.heard) p.device ∙ longer_whole e.heard d.received front

    both : (P : RxDriverView → RxDeviceView → Type 0) → P (driver_passed_rx d e) (device_passed_rx e d) → P d' e'
    both P h = subst (λ (x : RxDriverView × RxDeviceView). P x.0 x.1) (λ i. (sym p.driver i, sym p.device i)) h

pub goes_on_rx : (d d' : RxDriverView) (e e' : RxDeviceView) → IsToldRx d e → GoesOnRxDriver d d' → GoesOnRxDevice e e' → IsBehindRx d' e'
goes_on_rx d d' e e' t g h = record {
  key = g.key ∙ t.key ∙ sym h.key;
  heard = inr (front_grows e.heard e'.heard d.received d'.received h.heard (all_of e.heard d.received t.received) g.received);
}

pub receives_next : (d d' d'' : RxDriverView) (e e'' : RxDeviceView) (x : Delivery) → d'.received ≡ d.received ++ x ∷ [] → PassesRx d' e d'' e'' → ReceivesNext d e x
receives_next d d' d'' e e'' x one p = let next = next_behind d.received e.delivered d'.received x one p.within in record { more = next.0; next = next.1 }

pub none_left_rx : (d : RxDriverView) (e : RxDeviceView) → IsToldRx d e → length d.heard ≤ length d.received → d.received ≡ e.delivered
none_left_rx d e t few = let all = t.delivered in whole_front d.received e.delivered t.within (omega (arith, few, all))

-- a delivery, and a refusal, are the core's: the device was told of all that is posted, and its later note shows that it knew of no more
module _ (d : RxDriverView) (e n : RxDeviceView) (bodies : ℕ) (t : IsToldRx d e) (every : e.made.bodies ≡ Every bodies) (size : 0 < e.made.size1) (seen1 : n.seen1 ≤ posted1 d.made d.received) (seen2 : n.seen2 ≤ posted2 d.made d.received) where
  low1 : n.seen1 ≤ posted1 e.made d.received
  low1 = subst (λ (m : RxMade). n.seen1 ≤ posted1 m d.received) t.made seen1

  low2 : n.seen2 ≤ posted2 e.made d.received
  low2 = subst (λ (m : RxMade). n.seen2 ≤ posted2 m d.received) t.made seen2

  pub delivers_as_core : (frame : List ℕ) (meta : RxMeta) (g : rx.DeliversFrame e frame meta n) → IsTaken e.made (consumed1 e) (consumed2 e) (posted1 e.made d.received) (posted2 e.made d.received) (further_pieces (length frame)) g.passed g.end
  delivers_as_core frame meta g = exact_delivery bodies (posted1 e.made d.received) (posted2 e.made d.received) e frame meta n g every size (ap (posted1 e.made) t.received) low1 low2

  pub refuses_as_core : (bytes ring position word look : ℕ) → rx.Refuses e bytes ring position word look n → IsMissing e.made (consumed1 e) (consumed2 e) (posted1 e.made d.received) (posted2 e.made d.received) (further_pieces bytes) ring position
  refuses_as_core bytes ring position word look r =
      let few : consumed2 e ≤ posted2 e.made d.received = subst (λ (m : RxMade). consumed2 e ≤ posted2 m d.received) t.made t.consumed.1 in
      exact_refusal bodies (posted1 e.made d.received) (posted2 e.made d.received) bytes ring position word look e n r every size (ap (posted1 e.made) t.received) (ap (posted2 e.made) t.received) few low1 low2
