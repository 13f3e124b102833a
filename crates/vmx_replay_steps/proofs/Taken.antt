-- What a turn takes from transmit queues between notes: what was sent, and nothing else.
use Rattle.std.proofs.Common.{◌≡◌, ℕ, zero, suc, ◌+◌, List, [], ◌∷◌, ◌++◌, length, set, refl, ap, ap₂, sym, ◌∙◌, arith, Some, subst, inl, inr, append-nil, length-append}
use Rattle.std.proofs.lemmas.List.{length-map}
use Rattle.std.specs.List.{slice_get}
use Rattle.vmx_switch.specs.Ports.{Wiring, target_ports}
use Rattle.vmx_ends.specs.declared.meta.TxMark.{TxMark}
use Rattle.vmx_ends.specs.declared.packet.Tag.{Tag}
use Rattle.vmx_ends.specs.declared.frames.Sent.{Sent}
use Rattle.vmx_ends.specs.declared.frames.Taken.{Taken}
use Rattle.vmx_ends.specs.Frames.{sent_of, sent_as}
use Rattle.vmx_ends.specs.Transmit.{TxDriverView, TxDeviceView}
use Rattle.vmx_ends.specs.TransmitClauses.{TakesFrame, Completes}
use Rattle.vmx_ends.specs.TransmitCore.{TxCore}
use Rattle.vmx_link.specs.Views.{LinkOutView}
use Rattle.vmx_model.specs.declared.journal.Entry.{Entry}
use Rattle.vmx_model.specs.Bags.{Pairwise}
use Rattle.vmx_model.specs.Serial.{at_number, through}
use Rattle.vmx_model.specs.Wire.{wire_form}
use Rattle.vmx_device_looks.specs.Links.{PutsFrame}
use Rattle.vmx_device_laws.specs.Pairs.{TookOne}
use Rattle.vmx_device_laws.proofs.Lists.{length_last}
use Rattle.vmx_note_laws.proofs.Queues.{sent_push}
use Rattle.vmx_trusted_turns.specs.Trusted.{Looks, LooksEach}
use Rattle.vmx_replay_worlds.specs.Guests.{live_tx, joined}
use Rattle.vmx_replay_steps.specs.Between.{IsThrough, IsToldSent, WasSent}

same_last : {X : Type 0} (xs rest : List X) (x y : X) → (xs ++ x ∷ []) ++ rest ≡ xs ++ y ∷ [] → x ≡ y
same_last [] rest x y e = cc e
same_last (z ∷ xs) rest x y e = let tail : (xs ++ x ∷ []) ++ rest ≡ xs ++ y ∷ [] = cc e in same_last xs rest x y tail

pub same_next : {X : Type 0} (xs rest rest' : List X) (x y : X) → (xs ++ x ∷ []) ++ rest ≡ (xs ++ y ∷ []) ++ rest' → x ≡ y
same_next [] rest rest' x y e = cc e
same_next (z ∷ xs) rest rest' x y e = let tail : (xs ++ x ∷ []) ++ rest ≡ (xs ++ y ∷ []) ++ rest' = cc e in same_next xs rest rest' x y tail

-- ------------------------------------------------------------ one end

-- the next frame was taken and completed
module _ (e mid n : TxDeviceView) (frame : List ℕ) (place : ℕ) (mark : TxMark) (t : TakesFrame e frame place mark mid) (c : Completes mid n) where
  taken_is : n.taken ≡ e.taken ++ record { sent = sent_as frame mark; descriptors = t.count } ∷ []
  taken_is = ap (λ (v : TxDeviceView). v.taken) c ∙ ap (λ (v : TxDeviceView). v.taken) t.is

  pub sent_is : sent_of n.taken ≡ sent_of e.taken ++ sent_as frame mark ∷ []
  sent_is = ap sent_of taken_is ∙ sent_push e.taken (record { sent = sent_as frame mark; descriptors = t.count })

  pub taken_long : length n.taken ≡ suc (length e.taken)
  taken_long = ap length taken_is ∙ length_last e.taken (record { sent = sent_as frame mark; descriptors = t.count })

  pub completed_is : n.completed ≡ suc e.completed
  completed_is = ap (λ (v : TxDeviceView). v.completed) c ∙ ap (λ (v : TxDeviceView). suc v.completed) t.is

  -- where all was taken before, a driver that hears of it had sent one frame more
  pub took_more : (d : TxDriverView) → IsThrough d e → WasSent d n → ⊥
  took_more d through_ front = absurd (
      let l = ap length sent_is ∙ length_last (sent_of e.taken) (sent_as frame mark) in let f = ap length front.1 in let m = length-append (sent_of n.taken) front.0 in let a = ap length through_ in
      omega (arith, l, f, m, a)
      )

-- nothing was put out, and the end looks as before
pub record Idle (d : TxDriverView) (e n : TxDeviceView) (es : List Entry) (old new : List LinkOutView) : Type 0 where
  pub entries : es ≡ []
  pub links : new ≡ old
  pub live : live_tx d n ≡ live_tx d e
  pub through_ : IsThrough d n

idle_here : (port : ℕ) (w : Wiring) (a q : ℕ) (d : TxDriverView) (e n : TxDeviceView) (es : List Entry) (old new : List LinkOutView) → IsThrough d e → WasSent d n → Looks port w a q e n es old new → Idle d e n es old new
idle_here port w a q d e n es old new through_ front l = elim l [
  | inl t ↦ absurd (took_more e t.mid n t.frame t.place t.mark t.takes t.completes d through_ front)
  | inr f ↦ record { entries = f.entries; links = f.links; live = ap (live_tx d) f.none.finds.is; through_ = ap (λ (v : TxDeviceView). sent_of v.taken) f.none.finds.is ∙ through_ }
]

-- ------------------------------------------------------------ all ends, nothing sent

-- of all queues nothing was put out
pub record AllIdle (ds : List TxDriverView) (old new : List TxDeviceView) (es : List Entry) (os out : List LinkOutView) : Type 0 where
  pub entries : es ≡ []
  pub links : out ≡ os
  pub live : joined live_tx ds new ≡ joined live_tx ds old
  pub through_ : Pairwise IsThrough ds new

pub idle_takes : (port : ℕ) (w : Wiring) (a q : ℕ) (ds : List TxDriverView) (old new : List TxDeviceView) (es : List Entry) (os out : List LinkOutView) → Pairwise IsThrough ds old → Pairwise WasSent ds new → LooksEach port w a q old new es os out
    → AllIdle ds old new es os out
idle_takes port w a q [] [] [] es os out all f t = record { entries = t.0; links = t.1; live = refl; through_ = tt }
idle_takes port w a q [] [] (n ∷ new) es os out all f t = absurd t
idle_takes port w a q [] (e ∷ old) new es os out all f t = absurd all
idle_takes port w a q (d ∷ ds) [] new es os out all f t = absurd all
idle_takes port w a q (d ∷ ds) (e ∷ old) [] es os out all f t = absurd t
idle_takes port w a q (d ∷ ds) (e ∷ old) (n ∷ new) es os out all f (one, rest, (mid, is, here, more)) =
    let h = idle_here port w a q d e n one os mid all.0 f.0 here in
    let r = idle_takes port w a (suc q) ds old new rest mid out all.1 f.1 more in record {
      entries = is ∙ ap₂ (λ (xs ys : List Entry). xs ++ ys) h.entries r.entries;
      links = r.links ∙ h.links;
      live = ap₂ (λ (c : TxCore) (cs : List TxCore). c ∷ cs) h.live r.live;
      through_ = (h.through_, r.through_);
    }

-- ------------------------------------------------------------ one frame sent

-- the driver's end of a queue posted a frame
abbrev pub posted_on : TxDriverView → Sent → TxDriverView
posted_on d s = record d { sent = d.sent ++ s ∷ [] }

abbrev pub tag_at : ℕ → ℕ → ℕ → ℕ → Tag
tag_at port a q place = record { guest = port; activation = a; queue = q; place = place }

-- the frame of one queue was put out
pub record Put (port : ℕ) (w : Wiring) (a q : ℕ) (d : TxDriverView) (s : Sent) (es : List Entry) (old new : List LinkOutView) : Type 0 where
  pub puts : PutsFrame port (tag_at port a q (length d.sent)) (wire_form s) (target_ports w port (wire_form s)) es old new

module _ (port : ℕ) (w : Wiring) (a : ℕ) (s : Sent) where
  one_here : (q : ℕ) (d : TxDriverView) (e n : TxDeviceView) (es : List Entry) (old new : List LinkOutView) → IsThrough d e → WasSent (posted_on d s) n → IsToldSent (posted_on d s) e → Looks port w a q e n es old new
      → Put port w a q d s es old new × (live_tx (posted_on d s) n ≡ through s (live_tx d e)) × IsThrough (posted_on d s) n
  one_here q d e n es old new through_ front told l = elim l [
    | inl t ↦ took t
    | inr f ↦ absurd (let u = f.none.finds.unheard in let m = length_last d.sent s in let b = ap length through_ in let c = length-map e.taken (λ (t : Taken). t.sent) in omega (arith, u, m, b, c, told))
  ]
    where
      took : TookOne port w a q e n es old new → Put port w a q d s es old new × (live_tx (posted_on d s) n ≡ through s (live_tx d e)) × IsThrough (posted_on d s) n
      took t =
          let sent : sent_of n.taken ≡ d.sent ++ sent_as t.frame t.mark ∷ [] = sent_is e t.mid n t.frame t.place t.mark t.takes t.completes ∙ ap (λ (xs : List Sent). xs ++ sent_as t.frame t.mark ∷ []) through_ in
          let same : sent_as t.frame t.mark ≡ s = same_last d.sent front.0 (sent_as t.frame t.mark) s (sym (ap (λ (xs : List Sent). xs ++ front.0) sent) ∙ front.1) in
          let place : t.place ≡ length d.sent = t.takes.place_is ∙ sym (length-map e.taken (λ (x : Taken). x.sent)) ∙ ap length through_ in
          let c = completed_is e t.mid n t.frame t.place t.mark t.takes t.completes in let k = taken_long e t.mid n t.frame t.place t.mark t.takes t.completes in (
            record { puts = subst (λ (z : ℕ × Sent). PutsFrame port (tag_at port a q z.0) (wire_form z.1) (target_ports w port (wire_form z.1)) es old new) (λ i. (place i, same i)) t.puts },
            (λ i. record { made = d.made; sent = d.sent ++ s ∷ []; reaped = c i; completed = c i; taken = k i }),
            sent ∙ ap (λ (x : Sent). d.sent ++ x ∷ []) same,
          )

  pub one_takes : (from k : ℕ) (ds : List TxDriverView) (old new : List TxDeviceView) (d : TxDriverView) (es : List Entry) (os out : List LinkOutView)
      → slice_get ds k ≡ Some d → Pairwise IsThrough ds old → Pairwise IsToldSent (set ds k (posted_on d s)) old → Pairwise WasSent (set ds k (posted_on d s)) new → LooksEach port w a from old new es os out
      → Put port w a (from + k) d s es os out × (joined live_tx (set ds k (posted_on d s)) new ≡ at_number k (through s) (joined live_tx ds old)) × Pairwise IsThrough (set ds k (posted_on d s)) new
  one_takes from k [] old new d es os out at all told f t = absurd (cc at)
  one_takes from k (x ∷ ds) [] new d es os out at all told f t = absurd all
  one_takes from k (x ∷ ds) (e ∷ old) [] d es os out at all told f t = absurd t
  one_takes from zero (x ∷ ds) (e ∷ old) (n ∷ new) d es os out at all told f (one, rest, (mid, is, here, more)) =
      let same : x ≡ d = cc at in
      let h = one_here from d e n one os mid (subst (λ (z : TxDriverView). IsThrough z e) same all.0) f.0 told.0 here in
      let r = idle_takes port w a (suc from) ds old new rest mid out all.1 f.1 more in
      let entries : one ≡ es = sym (append-nil one) ∙ ap (λ (ys : List Entry). one ++ ys) (sym r.entries) ∙ sym is in
      let number : from ≡ from + 0 = omega arith in (
        subst (λ (z : ℕ × List Entry × List LinkOutView). Put port w a z.0 d s z.1 os z.2) (λ i. (number i, entries i, sym r.links i)) h.0,
        ap₂ (λ (c : TxCore) (cs : List TxCore). c ∷ cs) (h.1 ∙ ap (λ (z : TxDriverView). through s (live_tx z e)) (sym same)) r.live,
        (h.2, r.through_),
      )
  one_takes from (suc k) (x ∷ ds) (e ∷ old) (n ∷ new) d es os out at all told f (one, rest, (mid, is, here, more)) =
      let h = idle_here port w a from x e n one os mid all.0 f.0 here in
      let r = one_takes (suc from) k ds old new d rest mid out at all.1 told.1 f.1 more in
      let entries : rest ≡ es = ap (λ (xs : List Entry). xs ++ rest) (sym h.entries) ∙ sym is in
      let number : suc from + k ≡ from + suc k = omega arith in (
        subst (λ (z : ℕ × List Entry × List LinkOutView). Put port w a z.0 d s z.1 z.2 out) (λ i. (number i, entries i, h.links i)) r.0,
        ap₂ (λ (c : TxCore) (cs : List TxCore). c ∷ cs) h.live r.1,
        (h.through_, r.2),
      )
