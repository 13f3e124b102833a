-- A look of either end keeps the rule: it takes a slot out, or finds the ring full or empty.
use Rattle.std.proofs.Common.{◌≡◌, ℕ, suc, ◌+◌, ◌*◌, ◌/◌, ◌%◌, List, [], ◌∷◌, ◌++◌, length, take, slice_set, slice_index, true, false, true≢false, sym, refl, ap, ◌∙◌, subst, arith, length-take-le}
use Rattle.std.proofs.lemmas.List.{set-get_or}
use mathlib.Core.Logic.{dite}
use mathlib.Core.Option.{none}
use native.Mathlib.Decide.{dec_lt}
use native.Mathlib.Nat.{add-mod_right, add-div_right}
use Rattle.std.specs.Prelude.{Option, Some, None}
use Rattle.atomic_table.specs.Table.{step, keeps, takes, Allows}
use Rattle.vmx_ring_laws.specs.Lists.{AreComparable, prefix_length, prefix_beside_take, take_one_more}
use Rattle.vmx_ring_laws.specs.Moves.{next_free, first_in}
use Rattle.vmx_ring_laws.specs.Views.{all_set, total_same}
use Rattle.vmx_ends.specs.declared.packet.Packet.{Packet}
use Rattle.vmx_link.specs.declared.known.Known.{Known}
use Rattle.vmx_link.specs.Rule.{Ring, Story, Fits, Link, of_sender, of_receiver}
use Rattle.vmx_link.specs.Tells.{Seated, writes, saw_full, takes_packet, saw_empty, out_loaded, in_loaded}
use Rattle.vmx_link.proofs.RingMoves.{takes_out, grabs}
use Rattle.vmx_link.proofs.Kept.{beside_sender, beside_receiver, sender's, receiver's, sender_sees, receiver_sees}

pub out_loads : (n seat : ℕ) (me : Seated) (k : ℕ) → me.0.sends ≡ true → me.0.receives ≡ false → me.0.busy ≡ false → me.1 ≡ [] → k ≡ length me.0.pushed % n → Allows Link n seat me k (λ x. x) (out_loaded (step n k 0 0 none) me)
out_loads n seat me k may not idle bare is s l wide at _ =
    let v : Known = me.0 in let h : ℕ = length v.pushed in let y : Story = sender's l.story n seat v false in let z = sender_sees s l n seat v false wide at may idle in let r = z.ring in let lap = r.lap in let t : ℕ = y.taken in
    let x : ℕ = slice_index s.words k in let unmoved : slice_set s.words k x ≡ s.words = set-get_or s.words k 0 in let own = z.each seat v at in
    dite (dec_lt h (t + n))
    (λ room. let free = next_free n _ _ _ _ _ lap room in let shows : x ≡ 2 * (h / n) = ap (λ (i : ℕ). slice_index s.words i) is ∙ free.0 in let w : Known = writes v in (
      w,
      takes (h % n) None,
      free.1 (λ _. refl),
      record {
        story = record y { writing = true };
        kept = record {
          ring = subst (λ ws. Ring n ws (slice_set s.homes (h % n) none) v.pushed t true y.reading) (sym unmoved) (takes_out n s.words s.homes v.pushed t y.reading r room);
          each = all_set (Fits (record y { writing = true })) s.views seat w
              record { sender's = λ _. record { seat_is = refl; pushed_is = refl; busy_is = refl; gave_is = refl; heard_is = refl }; receiver's = λ may'. absurd (true≢false (sym may' ∙ not)); heard = own.heard; last = own.last }
              (λ j u apart e. beside_sender y true y.sender_gave y.sender_heard j u apart (z.each j u e));
          sender_told = ap (λ (c : ℕ). c + y.receiver_heard) (total_same of_sender s.views seat v w at refl) ∙ z.sender_told;
          receiver_told = ap (λ (c : ℕ). c + y.sender_heard) (total_same of_receiver s.views seat v w at refl) ∙ z.receiver_told;
        };
      },
      ((λ _. ap (λ (c : List (ℕ × Option Packet)). (w, (h % n, None) ∷ c)) bare), λ miss. absurd (miss shows)),
    ))
    (λ full. let within = lap.within in let pos = lap.some_cell in let end : h ≡ t + n = omega arith in let slot : h % n ≡ t % n = ap (λ (i : ℕ). i % n) end ∙ add-mod_right t n in let round : h / n ≡ t / n + 1 = ap (λ (i : ℕ). i / n) end ∙ add-div_right t pos in
    let first = first_in n _ _ _ _ _ lap (omega arith) in let shows : x ≡ 2 * (t / n) + 1 = ap (λ (i : ℕ). slice_index s.words i) (is ∙ slot) ∙ first.2.0 in let w : Known = saw_full v x in
    let few = prefix_length v.heard_pulled (take t v.pushed) own.heard.of_pulled in let taken_few = length-take-le t v.pushed lap.behind in (
      w,
      keeps,
      tt,
      record {
        story = y;
        kept = record {
          ring = subst (λ ws. Ring n ws s.homes v.pushed t false y.reading) (sym unmoved) r;
          each = all_set (Fits y) s.views seat w
              record { sender's = λ _. record { seat_is = refl; pushed_is = refl; busy_is = idle; gave_is = refl; heard_is = refl }; receiver's = λ may'. absurd (true≢false (sym may' ∙ not)); heard = own.heard; last = own.last }
              (λ j u apart e. z.each j u e);
          sender_told = ap (λ (c : ℕ). c + y.receiver_heard) (total_same of_sender s.views seat v w at refl) ∙ z.sender_told;
          receiver_told = ap (λ (c : ℕ). c + y.sender_heard) (total_same of_receiver s.views seat v w at refl) ∙ z.receiver_told;
        };
      },
      ((λ hit. absurd (omega arith)), λ _. (ap (λ (c : List (ℕ × Option Packet)). (w, c)) bare, (let q : ℕ = t / n in let g : x ≡ 2 * q + 1 = shows in let z : h / n ≡ q + 1 = round in omega arith), omega arith)),
    ))

pub in_loads : (n seat : ℕ) (me : Seated) (k : ℕ) → me.0.receives ≡ true → me.0.sends ≡ false → me.0.busy ≡ false → me.1 ≡ [] → k ≡ length me.0.pulled % n → Allows Link n seat me k (λ x. x) (in_loaded (step n k 0 0 none) me)
in_loads n seat me k may not idle bare is s l wide at _ =
    let v : Known = me.0 in let t : ℕ = length v.pulled in let y : Story = receiver's l.story n seat t v false in let z = receiver_sees s l n seat t v false wide at may idle refl in let pushed : List Packet = y.pushed in let h : ℕ = length pushed in
    let r = z.ring in let lap = r.lap in let x : ℕ = slice_index s.words k in let unmoved : slice_set s.words k x ≡ s.words = set-get_or s.words k 0 in let own = z.each seat v at in let mine = own.receiver's may in
    dite (dec_lt t h)
    (λ some_in. let first = first_in n _ _ _ _ _ lap some_in in let shows : x ≡ 2 * (t / n) + 1 = ap (λ (i : ℕ). slice_index s.words i) is ∙ first.2.0 in let a : Packet = first.0 in let w : Known = takes_packet v a in (
      w,
      takes (t % n) (Some a),
      first.2.1 (λ _. refl),
      record {
        story = record y { reading = true };
        kept = record {
          ring = subst (λ ws. Ring n ws (slice_set s.homes (t % n) none) pushed t y.writing true) (sym unmoved) (grabs n s.words s.homes pushed t y.writing r some_in);
          each = all_set (Fits (record y { reading = true })) s.views seat w
              record {
                sender's = λ may'. absurd (true≢false (sym may' ∙ not));
                receiver's = λ _. record { seat_is = refl; pulled_is = ap (λ l. l ++ a ∷ []) mine.pulled_is ∙ sym (take_one_more pushed t a first.1); busy_is = refl; gave_is = refl; heard_is = refl };
                heard = own.heard;
                last = own.last;
              }
              (λ j u apart e. beside_receiver y true y.receiver_gave y.receiver_heard j u apart (z.each j u e));
          sender_told = ap (λ (c : ℕ). c + y.receiver_heard) (total_same of_sender s.views seat v w at refl) ∙ z.sender_told;
          receiver_told = ap (λ (c : ℕ). c + y.sender_heard) (total_same of_receiver s.views seat v w at refl) ∙ z.receiver_told;
        };
      },
      (
        (λ _. (
          a,
          ap (λ (c : List (ℕ × Option Packet)). (w, (t % n, Some a) ∷ c)) bare,
          subst (AreComparable v.heard_pushed) (take_one_more pushed t a first.1 ∙ ap (λ l. l ++ a ∷ []) (sym mine.pulled_is)) (prefix_beside_take v.heard_pushed pushed (suc t) own.heard.of_pushed),
        )),
        λ miss. absurd (miss shows),
      ),
    ))
    (λ empty. let b = lap.behind in let pos = lap.some_cell in let shows : x ≡ 2 * (t / n) = ap (λ (i : ℕ). slice_index s.words i) is ∙ (lap.free t (omega arith) (omega arith)).0 in let few = prefix_length v.heard_pushed pushed own.heard.of_pushed in let w : Known = saw_empty v x in (
      w,
      keeps,
      tt,
      record {
        story = y;
        kept = record {
          ring = subst (λ ws. Ring n ws s.homes pushed t y.writing false) (sym unmoved) r;
          each = all_set (Fits y) s.views seat w
              record { sender's = λ may'. absurd (true≢false (sym may' ∙ not)); receiver's = λ _. record { seat_is = refl; pulled_is = mine.pulled_is; busy_is = idle; gave_is = refl; heard_is = refl }; heard = own.heard; last = own.last }
              (λ j u apart e. z.each j u e);
          sender_told = ap (λ (c : ℕ). c + y.receiver_heard) (total_same of_sender s.views seat v w at refl) ∙ z.sender_told;
          receiver_told = ap (λ (c : ℕ). c + y.sender_heard) (total_same of_receiver s.views seat v w at refl) ∙ z.receiver_told;
        };
      },
      (
        (λ hit. absurd (omega arith)),
        λ _. (
          ap (λ (c : List (ℕ × Option Packet)). (w, c)) bare,
          shows,
          omega arith,
          subst (AreComparable v.heard_pushed) (sym mine.pulled_is) (prefix_beside_take v.heard_pushed pushed t own.heard.of_pushed),
        ),
      ),
    ))
