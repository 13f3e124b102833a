use Rattle.std.proofs.Common.{rules, ◌≡◌, ◌≤◌, ◌<◌, ◌+◌, ℕ, length, true, false, not, nat_lt, List, [], ◌∷◌, ◌++◌, ap, ◌∙◌, sym, arith, subst, cond, length-append}
use Rattle.std.proofs.lemmas.Bool.{lt-ltb, le-ltb}
use Rattle.vmx_ends.specs.Alls.{all_more}
use Rattle.vmx_ends.specs.Frames.{IsMarked, sent_as}
use Rattle.vmx_ends.specs.Transmit.{need}
use Rattle.vmx_ends.specs.TransmitCore.{TxCore, posts, allows, happens, after, in_use}
use Rattle.vmx_ends.specs.declared.frames.Sent.{Sent}
use Rattle.vmx_ends.specs.declared.made.TxMade.{TxMade}
use Rattle.vmx_queue_reference.specs.declared.tx.TxFrame.{TxFrame}
use Rattle.vmx_queue_reference.specs.PlainFrames.{as_sent, all_sent, IsPosted, ArePosted, needed_from}
use Rattle.vmx_queue_reference.specs.PlainTransmit.{tx_core}
use Rattle.vmx_queue_reference.proofs.NeededLaws.{needed_more, core_needs, sent_more, on_either}
use Rattle.vmx_queue_reference.proofs.tx.PlainTx.post.Goals as goal

-- what a post does where it is refused and where it is allowed
stays : (c : TxCore) (s : Sent) → allows c (posts s) ≡ false → c ≡ after c (posts s)
stays c s e = sym (ap (λ b. cond b (happens c (posts s)) c) e)

goes : (c : TxCore) (s : Sent) → allows c (posts s) ≡ true → happens c (posts s) ≡ after c (posts s)
goes c s e = sym (ap (λ b. cond b (happens c (posts s)) c) e)

pub returns-then-self-used-clause-posts : goal.returns-then-self-used-clause-posts
returns-then-self-used-clause-posts c = let me = c.args.self.now in let frame : List ℕ = c.args.frame.now in let e1 = c.needed-used.ensures.sum in let e2 = c.need_of-need.ensures.need in let f = c.if-self-used.true in let k = core_needs me.made me.reaped me.sent in
    let far : me.made.size < in_use (tx_core me) + need me.made (length frame) = omega arith in
    let denied : not (nat_lt me.made.size (in_use (tx_core me) + need me.made (length frame))) ≡ false = ap not (lt-ltb me.made.size (in_use (tx_core me) + need me.made (length frame)) far) in
    (denied, e1, e2, stays (tx_core me) (sent_as frame c.args.mark.now) denied)

-- the fields stay right where a frame is pushed
pushed : (m : TxMade) (reaped taken : ℕ) (sent : List TxFrame) (x : TxFrame) (new : List TxFrame) → (taken ≤ length sent) → (reaped ≤ taken) → ArePosted sent → IsPosted x → needed_from m reaped sent + need m (length x.frame) ≤ m.size → new ≡ sent ++ x ∷ []
    → (taken ≤ length new) × ArePosted new × (needed_from m reaped new ≤ m.size)
pushed m reaped taken sent x new t r all one fits now = let long = ap length now ∙ length-append sent (x ∷ []) in let more = needed_more m reaped sent x (omega arith) in
    (omega arith, subst ArePosted (sym now) (all_more IsPosted sent x all one), subst (λ l. needed_from m reaped l ≤ m.size) (sym now) (omega arith))

pub invariant_of-self-2 : goal.invariant_of-self-2
invariant_of-self-2 c = let me = c.args.self.now in let frame : List ℕ = c.args.frame.now in let e1 = c.needed-used.ensures.sum in let e2 = c.need_of-need.ensures.need in let f = c.if-self-used.false in let o = me.order.0 in let p = me.order.1 in let q = me.order.2 in
    let bytes = c.in_ok-from_slice.ensures.bytes in let x : TxFrame = record { frame = c.in_ok-from_slice.field-0; mark = c.args.mark.now } in let long : length x.frame ≡ length frame = ap length bytes in
    let fits : needed_from me.made me.reaped me.sent + need me.made (length x.frame) ≤ me.made.size = subst (λ (n : ℕ). needed_from me.made me.reaped me.sent + need me.made n ≤ me.made.size) (sym long) (omega arith) in
    let all : (me.taken ≤ length c.push.new.self) × ArePosted c.push.new.self × (needed_from me.made me.reaped c.push.new.self ≤ me.made.size) = on_either c.push.result c.push.ensures.ok c.push.ensures.err
    (λ now. pushed me.made me.reaped me.taken me.sent x c.push.new.self q (omega arith) me.frames (subst (λ l. IsMarked l c.args.mark.now) (sym bytes) c.requires.frame) fits now)
    (λ same. subst (λ (l : List TxFrame). (me.taken ≤ length l) × ArePosted l × (needed_from me.made me.reaped l ≤ me.made.size)) (sym same) (q, me.frames, me.within)) in
    record { sizes = me.sizes; order = (o, p, all.0); frames = all.1; within = all.2 }

pub returns-clause-posts : goal.returns-clause-posts
returns-clause-posts c = let me = c.args.self.now in let frame : List ℕ = c.args.frame.now in let e1 = c.needed-used.ensures.sum in let e2 = c.need_of-need.ensures.need in let f = c.if-self-used.false in let k = core_needs me.made me.reaped me.sent in
    let s : Sent = sent_as frame c.args.mark.now in let x : TxFrame = record { frame = c.in_ok-from_slice.field-0; mark = c.args.mark.now } in
    let same : as_sent x ≡ s = ap (λ l. sent_as l c.args.mark.now) c.in_ok-from_slice.ensures.bytes in
    let put : c.push.new.self ≡ me.sent ++ x ∷ [] = search rules in
    let now : all_sent c.push.new.self ≡ all_sent me.sent ++ s ∷ [] = ap all_sent put ∙ sent_more me.sent x ∙ ap (λ (z : Sent). all_sent me.sent ++ z ∷ []) same in
    let near : in_use (tx_core me) + need me.made (length frame) ≤ me.made.size = omega arith in
    let allowed : not (nat_lt me.made.size (in_use (tx_core me) + need me.made (length frame))) ≡ true = ap not (le-ltb me.made.size (in_use (tx_core me) + need me.made (length frame)) near) in
    (allowed, search rules, ap (λ (l : List Sent). record { made = me.made; sent = l; reaped = me.reaped; completed = me.completed; taken = me.taken }) now ∙ goes (tx_core me) s allowed)
