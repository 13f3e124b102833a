-- The rule where notes are given and heard, and what an end knows after it heard one.
use Rattle.std.proofs.Common.{◌≡◌, ℕ, suc, ◌+◌, List, [], length, take, slice_set, true, false, true≢false, sym, refl, ap, ◌∙◌, subst, ⊎_elim, arith, append-nil, length-take-le}
use mathlib.Core.List.{IsPrefix}
use mathlib.Core.Option.{none, some}
use lib.ListN.{get_elem?}
use Rattle.atomic_table.specs.Table.{step, Allows, Splits, Joins}
use Rattle.atomic_table.proofs.Lists.{at_set}
use Rattle.vmx_ring_laws.specs.Lists.{AreComparable, prefix_length, prefix_trans, prefix_beside_take, take_prefix, longer_of}
use Rattle.vmx_ring_laws.specs.Steps.{stays}
use Rattle.vmx_ring_laws.specs.Views.{all_set, all_snoc, total_set, total_same, total_snoc}
use Rattle.vmx_ends.specs.declared.packet.Packet.{Packet}
use Rattle.vmx_link.specs.declared.known.Known.{Known}
use Rattle.vmx_link.specs.Seats.{nobody, sender_told, sender_note, receiver_told, receiver_note, hears_sender, hears_receiver}
use Rattle.vmx_link.specs.Rule.{Story, Fits, Link, had, one_if, of_sender, of_receiver}
use Rattle.vmx_link.specs.Tells.{Seated, out_heard, in_heard}
use Rattle.vmx_link.proofs.Kept.{no_news, nobody_fits, beside_sender, beside_receiver}

-- the receiver has no slot out, so what it has pulled is what was taken
rested : (y : Story) (v : Known) → v.pulled ≡ take (had y.reading y.taken) y.pushed → v.busy ≡ y.reading → v.busy ≡ false → v.pulled ≡ take y.taken y.pushed
rested y v is state idle = is ∙ ap (λ b. take (had b y.taken) y.pushed) (sym state ∙ idle)

pub sender_gives : (seat : ℕ) (v : Known) → v.sends ≡ true → v.receives ≡ false → Splits Link seat v (sender_told v) (sender_note v)
sender_gives seat v a b s l at =
    let y : Story = l.story in let own = l.kept.each seat v at in let left : Known = sender_told v in let right : Known = sender_note v in let vs : List Known = slice_set s.views seat left in
    let mine = own.sender's a in let y' : Story = record y { sender_gave = suc y.sender_gave } in record {
      story = y';
      kept = record {
        ring = l.kept.ring;
        each = all_snoc (Fits y') vs right
            record {
              sender's = λ e. absurd (true≢false (sym e));
              receiver's = λ e. absurd (true≢false (sym e));
              heard = record { of_pushed = ([], append-nil v.pushed ∙ mine.pushed_is); of_pulled = own.heard.of_pulled };
              last = no_news y.pushed y.taken;
            }
            (λ j u _. all_set (Fits y') s.views seat left
            record {
              sender's = λ _. record { seat_is = mine.seat_is; pushed_is = mine.pushed_is; busy_is = mine.busy_is; gave_is = ap suc mine.gave_is; heard_is = mine.heard_is };
              receiver's = λ e. absurd (true≢false (sym e ∙ b));
              heard = own.heard;
              last = own.last;
            }
            (λ i x apart e. beside_sender y y.writing (suc y.sender_gave) y.sender_heard i x (λ k. apart (k ∙ sym mine.seat_is)) (l.kept.each i x e))
            j u);
        sender_told = let p = total_snoc of_sender vs right in let q = total_same of_sender s.views seat v left at refl in let o = l.kept.sender_told in omega arith;
        receiver_told = let p = total_snoc of_receiver vs right in let q = total_same of_receiver s.views seat v left at refl in let o = l.kept.receiver_told in omega arith;
      };
    }

pub receiver_gives : (seat : ℕ) (v : Known) → v.receives ≡ true → v.sends ≡ false → v.busy ≡ false → Splits Link seat v (receiver_told v) (receiver_note v)
receiver_gives seat v a b idle s l at =
    let y : Story = l.story in let own = l.kept.each seat v at in let left : Known = receiver_told v in let right : Known = receiver_note v in let vs : List Known = slice_set s.views seat left in
    let mine = own.receiver's a in let y' : Story = record y { receiver_gave = suc y.receiver_gave } in record {
      story = y';
      kept = record {
        ring = l.kept.ring;
        each = all_snoc (Fits y') vs right
            record {
              sender's = λ e. absurd (true≢false (sym e));
              receiver's = λ e. absurd (true≢false (sym e));
              heard = record { of_pushed = own.heard.of_pushed; of_pulled = ([], append-nil v.pulled ∙ rested y v mine.pulled_is mine.busy_is idle) };
              last = no_news y.pushed y.taken;
            }
            (λ j u _. all_set (Fits y') s.views seat left
            record {
              sender's = λ e. absurd (true≢false (sym e ∙ b));
              receiver's = λ _. record { seat_is = mine.seat_is; pulled_is = mine.pulled_is; busy_is = mine.busy_is; gave_is = ap suc mine.gave_is; heard_is = mine.heard_is };
              heard = own.heard;
              last = own.last;
            }
            (λ i x apart e. beside_receiver y y.reading (suc y.receiver_gave) y.receiver_heard i x (λ k. apart (k ∙ sym mine.seat_is)) (l.kept.each i x e))
            j u);
        sender_told = let p = total_snoc of_sender vs right in let q = total_same of_sender s.views seat v left at refl in let o = l.kept.sender_told in omega arith;
        receiver_told = let p = total_snoc of_receiver vs right in let q = total_same of_receiver s.views seat v left at refl in let o = l.kept.receiver_told in omega arith;
      };
    }

-- the receiver hears a note of the sender
pub receiver_hears : (seat : ℕ) (v : Known) (other : ℕ) (w : Known) → v.receives ≡ true → v.sends ≡ false → w.tells_pushed ≡ true → w.tells_pulled ≡ false → Joins Link seat v other w (hears_sender v w) nobody
receiver_hears seat v other w a away b c s l at two at' =
    let y : Story = l.story in let now : Known = hears_sender v w in let own = l.kept.each seat v at in let mine = own.receiver's a in let vs : List Known = slice_set s.views seat now in
    let was : get_elem? s.views other ≡ some w = ⊎_elim (λ x. absurd (two x.0)) (λ x. x.1) (at_set s.views seat other now w at') in let theirs = l.kept.each other w was in
    let y' : Story = record y { receiver_heard = suc y.receiver_heard } in record {
      story = y';
      kept = record {
        ring = l.kept.ring;
        each = all_set (Fits y') vs other nobody (nobody_fits y' other)
            (λ j u _. all_set (Fits y') s.views seat now
            record {
              sender's = λ e. absurd (true≢false (sym e ∙ away));
              receiver's = λ _. record { seat_is = mine.seat_is; pulled_is = mine.pulled_is; busy_is = mine.busy_is; gave_is = mine.gave_is; heard_is = ap suc mine.heard_is };
              heard = record { of_pushed = longer_of (λ l. IsPrefix l y.pushed) v.heard_pushed w.heard_pushed own.heard.of_pushed theirs.heard.of_pushed; of_pulled = own.heard.of_pulled };
              last = theirs.heard;
            }
            (λ i x apart e. beside_receiver y y.reading y.receiver_gave (suc y.receiver_heard) i x (λ k. apart (k ∙ sym mine.seat_is)) (l.kept.each i x e))
            j u);
        sender_told = let p = total_set of_sender vs other w nobody at' in let q = total_same of_sender s.views seat v now at refl in let o = l.kept.sender_told in let z = ap one_if b in omega arith;
        receiver_told = ap (λ (n : ℕ). n + y.sender_heard) (total_same of_receiver vs other w nobody at' (ap one_if (sym c)) ∙ total_same of_receiver s.views seat v now at refl) ∙ l.kept.receiver_told;
      };
    }

-- the sender hears a note of the receiver
pub sender_hears : (seat : ℕ) (v : Known) (other : ℕ) (w : Known) → v.sends ≡ true → v.receives ≡ false → w.tells_pulled ≡ true → w.tells_pushed ≡ false → Joins Link seat v other w (hears_receiver v w) nobody
sender_hears seat v other w a away b c s l at two at' =
    let y : Story = l.story in let now : Known = hears_receiver v w in let own = l.kept.each seat v at in let mine = own.sender's a in let vs : List Known = slice_set s.views seat now in
    let was : get_elem? s.views other ≡ some w = ⊎_elim (λ x. absurd (two x.0)) (λ x. x.1) (at_set s.views seat other now w at') in let theirs = l.kept.each other w was in
    let y' : Story = record y { sender_heard = suc y.sender_heard } in record {
      story = y';
      kept = record {
        ring = l.kept.ring;
        each = all_set (Fits y') vs other nobody (nobody_fits y' other)
            (λ j u _. all_set (Fits y') s.views seat now
            record {
              sender's = λ _. record { seat_is = mine.seat_is; pushed_is = mine.pushed_is; busy_is = mine.busy_is; gave_is = mine.gave_is; heard_is = ap suc mine.heard_is };
              receiver's = λ e. absurd (true≢false (sym e ∙ away));
              heard = record { of_pushed = own.heard.of_pushed; of_pulled = longer_of (λ l. IsPrefix l (take y.taken y.pushed)) v.heard_pulled w.heard_pulled own.heard.of_pulled theirs.heard.of_pulled };
              last = theirs.heard;
            }
            (λ i x apart e. beside_sender y y.writing y.sender_gave (suc y.sender_heard) i x (λ k. apart (k ∙ sym mine.seat_is)) (l.kept.each i x e))
            j u);
        sender_told = ap (λ (n : ℕ). n + y.receiver_heard) (total_same of_sender vs other w nobody at' (ap one_if (sym c)) ∙ total_same of_sender s.views seat v now at refl) ∙ l.kept.sender_told;
        receiver_told = let p = total_set of_receiver vs other w nobody at' in let q = total_same of_receiver s.views seat v now at refl in let o = l.kept.receiver_told in let z = ap one_if b in omega arith;
      };
    }

-- what each end knows of the lists that it heard of, beside its own
pub tells_out : (n seat : ℕ) (me : Seated) → me.0.sends ≡ true → Allows Link n seat me 0 (λ x. x) (out_heard (step n 0 0 0 none) me)
tells_out n seat me a = stays Link n seat me 0 (out_heard (step n 0 0 0 none) me) (λ s l wide at.
    let v : Known = me.0 in let y : Story = l.story in let own = l.kept.each seat v at in let mine = own.sender's a in
    let pulled : (xs : List Packet) → IsPrefix xs (take y.taken y.pushed) → IsPrefix xs v.pushed = λ xs p. subst (IsPrefix xs) (sym mine.pushed_is) (prefix_trans xs (take y.taken y.pushed) y.pushed p (take_prefix y.taken y.pushed)) in (
      refl,
      record { heard = pulled v.heard_pulled own.heard.of_pulled; last_pulled = pulled v.last_pulled own.last.of_pulled; last_pushed = subst (IsPrefix v.last_pushed) (sym mine.pushed_is) own.last.of_pushed },
    ))

pub tells_in : (n seat : ℕ) (me : Seated) → me.0.receives ≡ true → me.0.busy ≡ false → Allows Link n seat me 0 (λ x. x) (in_heard (step n 0 0 0 none) me)
tells_in n seat me b idle = stays Link n seat me 0 (in_heard (step n 0 0 0 none) me) (λ s l wide at.
    let v : Known = me.0 in let y : Story = l.story in let own = l.kept.each seat v at in let mine = own.receiver's b in let r = l.kept.ring in let t : ℕ = y.taken in
    let pulled : v.pulled ≡ take t y.pushed = rested y v mine.pulled_is mine.busy_is idle in
    let count : length v.pulled ≡ t = ap length pulled ∙ length-take-le t y.pushed r.lap.behind in let within = r.lap.within in let slots : y.slots ≡ n = sym r.as_many_slots ∙ wide in
    let news = prefix_length v.heard_pushed y.pushed own.heard.of_pushed in
    let beside : (xs : List Packet) → IsPrefix xs y.pushed → AreComparable xs v.pulled = λ xs p. subst (AreComparable xs) (sym pulled) (prefix_beside_take xs y.pushed t p) in (
      refl,
      record {
        heard = beside v.heard_pushed own.heard.of_pushed;
        room = omega arith;
        last_pushed = beside v.last_pushed own.last.of_pushed;
        last_pulled = subst (IsPrefix v.last_pulled) (sym pulled) own.last.of_pulled;
      },
    ))
