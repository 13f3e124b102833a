-- The rule at the start, where the seat with both ends is cut in two, and where the two meet.
use Rattle.std.proofs.Common.{◌≡◌, ◌≢◌, ℕ, ◌+◌, ◌/◌, ◌<◌, List, [], length, take, slice_set, slice_index, true, false, true≢false, sym, refl, ap, ap₂, ◌∙◌, subst, ⊎_elim, arith, mod-eq_of_lt, length-take-le}
use Rattle.std.proofs.lemmas.List.{get_or-replicate, length-replicate}
use mathlib.Core.List.{IsPrefix}
use mathlib.Core.Option.{none, some, some-ne-none}
use native.Mathlib.Nat.{div-eq_of_lt}
use lib.ListN.{get_elem?, replicate}
use Rattle.std.specs.Prelude.{None}
use Rattle.atomic_table.specs.Table.{step, Allows, Splits, Joins, opening}
use Rattle.atomic_table.proofs.Lists.{at_set}
use Rattle.vmx_ring_laws.specs.Lists.{at_replicate, map_some_replicate, take_prefix}
use Rattle.vmx_ring_laws.specs.Steps.{stays}
use Rattle.vmx_ring_laws.specs.Views.{all_set, all_snoc, total_same, total_snoc}
use Rattle.vmx_link.specs.declared.known.Known.{Known}
use Rattle.vmx_link.specs.Seats.{nobody, newcomer, sender_part, receiver_part, together}
use Rattle.vmx_link.specs.Rule.{Story, Fits, Link, had, one_if, of_sender, of_receiver}
use Rattle.vmx_link.specs.Tells.{Seated, met}
use Rattle.vmx_link.proofs.Kept.{no_news, nobody_fits}

pub begins : (n : ℕ) → 0 < n → Link (opening (replicate n 0) (replicate n None) newcomer)
begins n pos = let homes = map_some_replicate n None in record {
  story = record { slots = n; sender = 0; receiver = 0; pushed = []; taken = 0; writing = false; reading = false; sender_gave = 0; sender_heard = 0; receiver_gave = 0; receiver_heard = 0 };
  kept = record {
    ring = record {
      as_many_words = length-replicate n 0;
      as_many_slots = ap length homes ∙ length-replicate n (some None);
      lap = record {
        some_cell = pos;
        behind = omega arith;
        within = omega arith;
        full = λ p x le e. absurd (some-ne-none x (sym e));
        free = λ p le less. let low : p < n = omega arith in (
          ap (λ (i : ℕ). slice_index (replicate n 0) i) (mod-eq_of_lt low) ∙ (get_or-replicate n p 0 0 low ∙ (let d : p / n ≡ 0 = div-eq_of_lt low in omega arith)),
          λ _. ap₂ (λ l (i : ℕ). get_elem? l i) homes (mod-eq_of_lt low) ∙ at_replicate n p (some None) low,
        );
      };
      room = λ e. absurd (true≢false (sym e));
      there = λ e. absurd (true≢false (sym e));
    };
    each = all_snoc (Fits _) [] newcomer
        record {
          sender's = λ _. record { seat_is = refl; pushed_is = refl; busy_is = refl; gave_is = refl; heard_is = refl };
          receiver's = λ _. record { seat_is = refl; pulled_is = refl; busy_is = refl; gave_is = refl; heard_is = refl };
          heard = no_news [] 0;
          last = no_news [] 0;
        }
        (λ j u less e. absurd (omega arith));
    sender_told = refl;
    receiver_told = refl;
  };
}

pub parts : (seat : ℕ) (v : Known) → v.sends ≡ true → v.receives ≡ true → v.tells_pushed ≡ false → v.tells_pulled ≡ false → Splits Link seat v (sender_part v) (receiver_part v)
parts seat v a b c d s l at =
    let y : Story = l.story in let own = l.kept.each seat v at in let left : Known = sender_part v in let right : Known = receiver_part v in let vs : List Known = slice_set s.views seat left in
    let y' : Story = record y { receiver = length vs } in let mine = own.sender's a in let mine' = own.receiver's b in record {
      story = y';
      kept = record {
        ring = l.kept.ring;
        each = all_snoc (Fits y') vs right
            record {
              sender's = λ e. absurd (true≢false (sym e));
              receiver's = λ _. record { seat_is = refl; pulled_is = mine'.pulled_is; busy_is = mine'.busy_is; gave_is = mine'.gave_is; heard_is = mine'.heard_is };
              heard = own.heard;
              last = own.last;
            }
            (λ j u _. all_set (Fits y') s.views seat left
            record {
              sender's = λ _. record { seat_is = mine.seat_is; pushed_is = mine.pushed_is; busy_is = mine.busy_is; gave_is = mine.gave_is; heard_is = mine.heard_is };
              receiver's = λ e. absurd (true≢false (sym e));
              heard = own.heard;
              last = own.last;
            }
            (λ i x apart e. let f = l.kept.each i x e in
            record {
              sender's = λ may. let o = f.sender's may in record { seat_is = o.seat_is; pushed_is = o.pushed_is; busy_is = o.busy_is; gave_is = o.gave_is; heard_is = o.heard_is };
              receiver's = λ may. absurd (apart ((f.receiver's may).seat_is ∙ sym mine'.seat_is));
              heard = f.heard;
              last = f.last;
            })
            j u);
        sender_told = let p = total_snoc of_sender vs right in let q = total_same of_sender s.views seat v left at refl in let o = l.kept.sender_told in let z = ap one_if c in omega arith;
        receiver_told = let p = total_snoc of_receiver vs right in let q = total_same of_receiver s.views seat v left at refl in let o = l.kept.receiver_told in let z = ap one_if d in omega arith;
      };
    }

pub meets : (seat : ℕ) (v : Known) (other : ℕ) (w : Known) → v.sends ≡ true → v.busy ≡ false → w.receives ≡ true → w.busy ≡ false → w.tells_pushed ≡ false → w.tells_pulled ≡ false → Joins Link seat v other w (together v w) nobody
meets seat v other w a idle b idle' c d s l at two at' =
    let y : Story = l.story in let both : Known = together v w in let own = l.kept.each seat v at in let vs : List Known = slice_set s.views seat both in
    let was : get_elem? s.views other ≡ some w = ⊎_elim (λ x. absurd (two x.0)) (λ x. x.1) (at_set s.views seat other both w at') in let theirs = (l.kept.each other w was).receiver's b in let mine = own.sender's a in
    let y' : Story = record y { receiver = seat } in record {
      story = y';
      kept = record {
        ring = l.kept.ring;
        each = all_set (Fits y') vs other nobody (nobody_fits y' other)
            (λ j u apart e. all_set (λ i x. i ≢ other → Fits y' i x) s.views seat both
            (λ _. record {
              sender's = λ _. record { seat_is = mine.seat_is; pushed_is = mine.pushed_is; busy_is = mine.busy_is; gave_is = mine.gave_is; heard_is = mine.heard_is };
              receiver's = λ _. record { seat_is = refl; pulled_is = theirs.pulled_is; busy_is = idle ∙ sym idle' ∙ theirs.busy_is; gave_is = theirs.gave_is; heard_is = theirs.heard_is };
              heard = own.heard;
              last = own.last;
            })
            (λ i x not e' away. let f = l.kept.each i x e' in
            record {
              sender's = λ may. let o = f.sender's may in record { seat_is = o.seat_is; pushed_is = o.pushed_is; busy_is = o.busy_is; gave_is = o.gave_is; heard_is = o.heard_is };
              receiver's = λ may. absurd (away ((f.receiver's may).seat_is ∙ sym theirs.seat_is));
              heard = f.heard;
              last = f.last;
            })
            j u e apart);
        sender_told = ap (λ (n : ℕ). n + y.receiver_heard) (total_same of_sender vs other w nobody at' (ap one_if (sym c)) ∙ total_same of_sender s.views seat v both at refl) ∙ l.kept.sender_told;
        receiver_told = ap (λ (n : ℕ). n + y.sender_heard) (total_same of_receiver vs other w nobody at' (ap one_if (sym d)) ∙ total_same of_receiver s.views seat v both at refl) ∙ l.kept.receiver_told;
      };
    }

-- a seat with both ends' parts knows that what was pulled is a prefix of what was pushed
pub tells_met : (n seat : ℕ) (me : Seated) → me.0.sends ≡ true → me.0.receives ≡ true → me.0.busy ≡ false → Allows Link n seat me 0 (λ x. x) (met (step n 0 0 0 none) me)
tells_met n seat me a b idle = stays Link n seat me 0 (met (step n 0 0 0 none) me) (λ s l wide at.
    let v : Known = me.0 in let y : Story = l.story in let own = l.kept.each seat v at in let mine = own.sender's a in let mine' = own.receiver's b in let r = l.kept.ring in
    let pulled : v.pulled ≡ take y.taken v.pushed = mine'.pulled_is ∙ (λ i. take (had ((sym mine'.busy_is ∙ idle) i) y.taken) (sym mine.pushed_is i)) in
    let same : length v.pushed ≡ length y.pushed = ap length mine.pushed_is in let behind = r.lap.behind in let within = r.lap.within in let slots : y.slots ≡ n = sym r.as_many_slots ∙ wide in
    let count : length v.pulled ≡ y.taken = ap length pulled ∙ length-take-le y.taken v.pushed (omega arith) in let o = l.kept.sender_told in let i = l.kept.receiver_told in
    let gave = mine.gave_is in let heard = mine.heard_is in let gave' = mine'.gave_is in let heard' = mine'.heard_is in (
      refl,
      record {
        pulled = subst (λ xs. IsPrefix xs v.pushed) (sym pulled) (take_prefix y.taken v.pushed);
        room = omega arith;
        notes = λ e e'. (omega arith, omega arith);
      },
    ))
