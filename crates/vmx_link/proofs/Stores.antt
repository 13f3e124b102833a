-- A store of either end keeps the rule: it puts the slot home, and the packet is pushed, or its cell is freed.
use Rattle.std.proofs.Common.{◌≡◌, ℕ, suc, ◌+◌, ◌*◌, ◌/◌, ◌%◌, List, [], ◌∷◌, ◌++◌, length, true, false, true≢false, sym, refl, ap, ◌∙◌, subst, arith}
use mathlib.Core.Option.{none}
use Rattle.std.specs.Prelude.{Option, Some, None}
use Rattle.atomic_table.specs.Table.{step, gives, Allows}
use Rattle.vmx_ring_laws.specs.Lists.{there_below}
use Rattle.vmx_ring_laws.specs.Views.{all_set, total_same}
use Rattle.vmx_ends.specs.declared.packet.Packet.{Packet}
use Rattle.vmx_link.specs.declared.known.Known.{Known}
use Rattle.vmx_link.specs.Rule.{Story, Fits, Link, of_sender, of_receiver}
use Rattle.vmx_link.specs.Tells.{Seated, has_pushed, rests, out_stored, in_stored}
use Rattle.vmx_link.proofs.RingMoves.{publishes, frees}
use Rattle.vmx_link.proofs.Kept.{news_grows, news_taken, beside_pushing, beside_taking, reached, sender's, receiver's, sender_sees, receiver_sees}

abbrev pub holding : Known → ℕ → Option Packet → Seated
holding v i slot = (v, (i, slot) ∷ [])

stores_out : (n seat : ℕ) (v : Known) (x : Packet) → v.sends ≡ true → v.receives ≡ false → v.busy ≡ true
    → Allows Link n seat (holding v (length v.pushed % n) (Some x)) (length v.pushed % n) (λ _. 2 * (length v.pushed / n) + 1)
    (λ _. out_stored (step n (length v.pushed % n) (2 * (length v.pushed / n) + 1) 0 none) (holding v (length v.pushed % n) (Some x)) (2 * (length v.pushed / n) + 1))
stores_out n seat v x may not state s l wide at _ =
    let y : Story = sender's l.story n seat v true in let z = sender_sees s l n seat v true wide at may state in let r = z.ring in let own = z.each seat v at in let w : Known = has_pushed v (x ∷ []) in
    let behind = r.lap.behind in let near = reached y.taken v.pushed y.reading behind r.there in let y' : Story = record y { pushed = v.pushed ++ x ∷ []; writing = false } in (
      w,
      gives,
      tt,
      record {
        story = y';
        kept = record {
          ring = publishes n s.words s.homes v.pushed y.taken y.reading x r;
          each = all_set (Fits y') s.views seat w
              record {
                sender's = λ _. record { seat_is = refl; pushed_is = refl; busy_is = refl; gave_is = refl; heard_is = refl };
                receiver's = λ may'. absurd (true≢false (sym may' ∙ not));
                heard = news_grows v.pushed (x ∷ []) y.taken v.heard_pushed v.heard_pulled behind own.heard;
                last = news_grows v.pushed (x ∷ []) y.taken v.last_pushed v.last_pulled behind own.last;
              }
              (λ j u apart e. beside_pushing y (x ∷ []) false j u near behind apart (z.each j u e));
          sender_told = ap (λ (c : ℕ). c + y.receiver_heard) (total_same of_sender s.views seat v w at refl) ∙ z.sender_told;
          receiver_told = ap (λ (c : ℕ). c + y.sender_heard) (total_same of_receiver s.views seat v w at refl) ∙ z.receiver_told;
        };
      },
      refl,
    )

pub out_stores : (n seat : ℕ) (me : Seated) (v : Known) (x : Packet) (k new : ℕ) → me ≡ holding v (length v.pushed % n) (Some x) → v.sends ≡ true → v.receives ≡ false → v.busy ≡ true → k ≡ length v.pushed % n → new ≡ 2 * (length v.pushed / n) + 1
    → Allows Link n seat me k (λ _. new) (λ _. out_stored (step n k new 0 none) me new)
out_stores n seat me v x k new is may not state where_ what =
    subst (λ (z : Seated × ℕ × ℕ). Allows Link n seat z.0 z.1 (λ _. z.2) (λ _. out_stored (step n z.1 z.2 0 none) z.0 z.2)) (λ i. (sym is i, sym where_ i, sym what i)) (stores_out n seat v x may not state)

stores_in : (n seat t : ℕ) (v : Known) → v.receives ≡ true → v.sends ≡ false → v.busy ≡ true → length v.pulled ≡ suc t
    → Allows Link n seat (holding v (t % n) None) (t % n) (λ _. 2 * (t / n) + 2) (λ _. in_stored (step n (t % n) (2 * (t / n) + 2) 0 none) (holding v (t % n) None) (2 * (t / n) + 2))
stores_in n seat t v may not state count s l wide at _ =
    let y : Story = receiver's l.story n seat t v true in let z = receiver_sees s l n seat t v true wide at may state count in let pushed : List Packet = y.pushed in let r = z.ring in let own = z.each seat v at in let mine = own.receiver's may in
    let w : Known = rests v in let y' : Story = record y { taken = suc t; reading = false } in let item = there_below pushed t (r.there refl) in (
      w,
      gives,
      tt,
      record {
        story = y';
        kept = record {
          ring = frees n s.words s.homes pushed t y.writing r;
          each = all_set (Fits y') s.views seat w
              record {
                sender's = λ may'. absurd (true≢false (sym may' ∙ not));
                receiver's = λ _. record { seat_is = refl; pulled_is = mine.pulled_is; busy_is = refl; gave_is = refl; heard_is = refl };
                heard = news_taken pushed t item.0 v.heard_pushed v.heard_pulled item.1 own.heard;
                last = news_taken pushed t item.0 v.last_pushed v.last_pulled item.1 own.last;
              }
              (λ j u apart e. beside_taking y item.0 false j u item.1 apart (z.each j u e));
          sender_told = ap (λ (c : ℕ). c + y.receiver_heard) (total_same of_sender s.views seat v w at refl) ∙ z.sender_told;
          receiver_told = ap (λ (c : ℕ). c + y.sender_heard) (total_same of_receiver s.views seat v w at refl) ∙ z.receiver_told;
        };
      },
      refl,
    )

pub in_stores : (n seat : ℕ) (me : Seated) (v : Known) (t k new : ℕ) → me ≡ holding v (t % n) None → v.receives ≡ true → v.sends ≡ false → v.busy ≡ true → length v.pulled ≡ suc t → k ≡ t % n → new ≡ 2 * (t / n) + 1 + 1
    → Allows Link n seat me k (λ _. new) (λ _. in_stored (step n k new 0 none) me new)
in_stores n seat me v t k new is may not state count where_ what =
    subst (λ (z : Seated × ℕ × ℕ). Allows Link n seat z.0 z.1 (λ _. z.2) (λ _. in_stored (step n z.1 z.2 0 none) z.0 z.2))
    (λ i. (sym is i, sym where_ i, sym (what ∙ (let q : ℕ = t / n in let g : 2 * q + 1 + 1 ≡ 2 * q + 2 = omega arith in g)) i)) (stores_in n seat t v may not state count)
