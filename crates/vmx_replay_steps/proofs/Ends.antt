-- One delivery on an end is one event of the core, where notes went both ways before it and after it.
use Rattle.std.proofs.Common.{◌≡◌, ℕ, ◌≤◌, ◌<◌, List, [], ◌∷◌, ◌++◌, length, take, ap, sym, ◌∙◌, subst}
use Rattle.std.proofs.Math.Seq.{take-append_seam}
use Rattle.std.proofs.lemmas.List.{length-map}
use mathlib.Core.List.{IsPrefix}
use Rattle.vmx_ends.specs.declared.made.Bodies.TheVariants.{Every}
use Rattle.vmx_ends.specs.declared.made.RxMade.{RxMade}
use Rattle.vmx_ends.specs.declared.meta.RxMeta.{RxMeta}
use Rattle.vmx_ends.specs.Receive.{RxDriverView, RxDeviceView, posted1, posted2, consumed1, consumed2}
use Rattle.vmx_ends.specs.ReceiveClauses.{DeliversFrame, Refuses}
use Rattle.vmx_ends.specs.Walk.{further_pieces}
use Rattle.vmx_ends.specs.Core.{outcome}
use Rattle.vmx_ends.specs.ReceiveCore as rx
use Rattle.vmx_ends.specs.Exactness.{exact_delivery, exact_refusal}
use Rattle.vmx_model.specs.declared.journal.Fate.TheVariants as fate
use Rattle.vmx_model.specs.Serial.{fate_with}
use Rattle.vmx_replay_worlds.specs.Guests.{live_rx, plain_look}
use Rattle.vmx_replay_worlds.proofs.Lists.{map_push}
use Rattle.vmx_note_laws.specs.Queues.{IsToldRx}
use Rattle.vmx_replay_steps.specs.Between.{WasPosted}

front_take : {X : Type 0} (xs ys : List X) → IsPrefix xs ys → take (length xs) ys ≡ xs
front_take xs ys h = ap (take (length xs)) (sym h.1) ∙ take-append_seam xs h.0

module _ (d : RxDriverView) (e new : RxDeviceView) (t : IsToldRx d e) (k : WasPosted d new) (bodies : ℕ) (every : d.made.bodies ≡ Every bodies) (size : 0 < d.made.size1) where
  abbrev p1 : ℕ
  p1 = posted1 d.made d.received

  abbrev p2 : ℕ
  p2 = posted2 d.made d.received

  back : take (length d.received) e.delivered ≡ d.received
  back = front_take d.received e.delivered t.within

  -- what the core comes to, by what the driver received
  core_comes : (bytes : ℕ) → rx.comes_to (live_rx d e) bytes ≡ outcome e.made (consumed1 e) (consumed2 e) p1 p2 (further_pieces bytes)
  core_comes bytes = λ i. outcome (t.made i) (consumed1 e) (consumed2 e) (posted1 d.made (back i)) (posted2 d.made (back i)) (further_pieces bytes)

  told1 : posted1 e.made e.heard ≡ p1
  told1 = λ i. posted1 (sym t.made i) (t.received i)

  told2 : posted2 e.made e.heard ≡ p2
  told2 = λ i. posted2 (sym t.made i) (t.received i)

  every' : e.made.bodies ≡ Every bodies
  every' = ap (λ (m : RxMade). m.bodies) (sym t.made) ∙ every

  size' : 0 < e.made.size1
  size' = subst (λ (m : RxMade). 0 < m.size1) t.made size

  pub live_delivers : (frame : List ℕ) (meta : RxMeta) → DeliversFrame e frame meta new → live_rx d new ≡ rx.after (live_rx d e) (rx.delivers frame meta)
  live_delivers frame meta g =
      let x = exact_delivery bodies p1 p2 e frame meta new g every' size' told1 k.0 k.1 in
      ap (live_rx d) g.is
      ∙ ap (λ (chain : List (ℕ × ℕ)). record (live_rx d e) { delivered = e.delivered ++ record { frame = frame; meta = meta; passed = g.passed; chain = chain } ∷ [] }) x.same.2
      ∙ sym (ap (rx.after_delivery (live_rx d e) frame meta) (core_comes (length frame) ∙ x.comes))

  pub fate_delivers : (a q : ℕ) (frame : List ℕ) (meta : RxMeta) → DeliversFrame e frame meta new → fate.Up a q (length e.delivered) ≡ fate_with a q (live_rx d e) (rx.comes_to (live_rx d e) (length frame))
  fate_delivers a q frame meta g =
      let x = exact_delivery bodies p1 p2 e frame meta new g every' size' told1 k.0 k.1 in
      sym (ap (fate_with a q (live_rx d e)) (core_comes (length frame) ∙ x.comes))

  low2 : consumed2 e ≤ p2
  low2 = t.consumed.1

  pub live_refuses : (frame : List ℕ) (meta : RxMeta) (ring position word look : ℕ) → Refuses e (length frame) ring position word look new → live_rx d new ≡ rx.after (live_rx d e) (rx.delivers frame meta)
  live_refuses frame meta ring position word look g =
      let x = exact_refusal bodies p1 p2 (length frame) ring position word look e new g every' size' told1 told2 low2 k.0 k.1 in
      ap (live_rx d) g.is ∙ ap (λ (xs : List (ℕ × ℕ × ℕ)). record (live_rx d e) { refused = xs }) (map_push (plain_look d.made) e.refused (ring, position, word))
      ∙ sym (ap (rx.after_delivery (live_rx d e) frame meta) (core_comes (length frame) ∙ x.comes))

  pub fate_refuses : (a q : ℕ) (frame : List ℕ) (ring position word look : ℕ) → Refuses e (length frame) ring position word look new → fate.NoBuffer a q ring position look ≡ fate_with a q (live_rx d e) (rx.comes_to (live_rx d e) (length frame))
  fate_refuses a q frame ring position word look g =
      let x = exact_refusal bodies p1 p2 (length frame) ring position word look e new g every' size' told1 told2 low2 k.0 k.1 in
      ap (λ (n : ℕ). fate.NoBuffer a q ring position n) (g.number ∙ sym (length-map e.refused (plain_look d.made)))
      ∙ sym (ap (fate_with a q (live_rx d e)) (core_comes (length frame) ∙ x.comes))
