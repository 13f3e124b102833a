-- What the rule says of the seats, as one end knows it, and what a step of one end leaves of the others.
use Rattle.std.proofs.Common.{◌≡◌, ◌≢◌, ℕ, suc, ◌<◌, ◌≤◌, List, [], ◌∷◌, ◌++◌, length, take, Bool, true, false, true≢false, sym, refl, ap, ◌∙◌, subst, arith, length-take-le}
use Rattle.std.proofs.lemmas.List.{take-append-le}
use mathlib.Core.List.{IsPrefix}
use mathlib.Core.Option.{some}
use lib.ListN.{get_elem?}
use Rattle.std.specs.Prelude.{Option}
use Rattle.atomic_table.specs.Table.{State}
use Rattle.vmx_ring_laws.specs.Lists.{prefix_longer, take_one_more}
use Rattle.vmx_ends.specs.declared.packet.Packet.{Packet}
use Rattle.vmx_link.specs.declared.known.Known.{Known}
use Rattle.vmx_link.specs.Seats.{nobody}
use Rattle.vmx_link.specs.Rule.{Story, IsTrueNews, Fits, Kept, Link, had}

abbrev pub Table : Type 0
Table = State (Option Packet) Known

-- true news stays true where packets are pushed, and where one more is taken
pub news_grows : (all more : List Packet) (t : ℕ) (a b : List Packet) → t ≤ length all → IsTrueNews all t a b → IsTrueNews (all ++ more) t a b
news_grows all more t a b le f = record { of_pushed = prefix_longer a all more f.of_pushed; of_pulled = subst (IsPrefix b) (sym (take-append-le t all more le)) f.of_pulled }

pub news_taken : (all : List Packet) (t : ℕ) (x : Packet) (a b : List Packet) → get_elem? all t ≡ some x → IsTrueNews all t a b → IsTrueNews all (suc t) a b
news_taken all t x a b at f = record { of_pushed = f.of_pushed; of_pulled = subst (IsPrefix b) (sym (take_one_more all t x at)) (prefix_longer b (take t all) (x ∷ []) f.of_pulled) }

pub no_news : (all : List Packet) (t : ℕ) → IsTrueNews all t [] []
no_news all t = record { of_pushed = (all, refl); of_pulled = (take t all, refl) }

pub nobody_fits : (y : Story) (seat : ℕ) → Fits y seat nobody
nobody_fits y seat = record { sender's = λ e. absurd (true≢false (sym e)); receiver's = λ e. absurd (true≢false (sym e)); heard = no_news y.pushed y.taken; last = no_news y.pushed y.taken }

-- another seat than the sender's, where the sender's state changes, and where packets are pushed
pub beside_sender : (y : Story) (b : Bool) (g h : ℕ) (j : ℕ) (u : Known) → j ≢ y.sender → Fits y j u → Fits (record y { writing = b; sender_gave = g; sender_heard = h }) j u
beside_sender y b g h j u apart f = record {
  sender's = λ may. absurd (apart (f.sender's may).seat_is);
  receiver's = λ may. let own = f.receiver's may in record { seat_is = own.seat_is; pulled_is = own.pulled_is; busy_is = own.busy_is; gave_is = own.gave_is; heard_is = own.heard_is };
  heard = f.heard;
  last = f.last;
}

pub beside_pushing : (y : Story) (more : List Packet) (b : Bool) (j : ℕ) (u : Known) → had y.reading y.taken ≤ length y.pushed → y.taken ≤ length y.pushed → j ≢ y.sender → Fits y j u → Fits (record y { pushed = y.pushed ++ more; writing = b }) j u
beside_pushing y more b j u near behind apart f = record {
  sender's = λ may. absurd (apart (f.sender's may).seat_is);
  receiver's = λ may. let own = f.receiver's may in record { seat_is = own.seat_is; pulled_is = own.pulled_is ∙ sym (take-append-le (had y.reading y.taken) y.pushed more near); busy_is = own.busy_is; gave_is = own.gave_is; heard_is = own.heard_is };
  heard = news_grows y.pushed more y.taken u.heard_pushed u.heard_pulled behind f.heard;
  last = news_grows y.pushed more y.taken u.last_pushed u.last_pulled behind f.last;
}

-- another seat than the receiver's, where the receiver's state changes, and where one more packet is taken
pub beside_receiver : (y : Story) (b : Bool) (g h : ℕ) (j : ℕ) (u : Known) → j ≢ y.receiver → Fits y j u → Fits (record y { reading = b; receiver_gave = g; receiver_heard = h }) j u
beside_receiver y b g h j u apart f = record {
  sender's = λ may. let own = f.sender's may in record { seat_is = own.seat_is; pushed_is = own.pushed_is; busy_is = own.busy_is; gave_is = own.gave_is; heard_is = own.heard_is };
  receiver's = λ may. absurd (apart (f.receiver's may).seat_is);
  heard = f.heard;
  last = f.last;
}

pub beside_taking : (y : Story) (x : Packet) (b : Bool) (j : ℕ) (u : Known) → get_elem? y.pushed y.taken ≡ some x → j ≢ y.receiver → Fits y j u → Fits (record y { taken = suc y.taken; reading = b }) j u
beside_taking y x b j u at apart f = record {
  sender's = λ may. let own = f.sender's may in record { seat_is = own.seat_is; pushed_is = own.pushed_is; busy_is = own.busy_is; gave_is = own.gave_is; heard_is = own.heard_is };
  receiver's = λ may. absurd (apart (f.receiver's may).seat_is);
  heard = news_taken y.pushed y.taken x u.heard_pushed u.heard_pulled at f.heard;
  last = news_taken y.pushed y.taken x u.last_pushed u.last_pulled at f.last;
}

-- the story as the sender knows it, and as the receiver does
abbrev pub sender's : Story → ℕ → ℕ → Known → Bool → Story
sender's y n seat v busy = record y { slots = n; sender = seat; pushed = v.pushed; writing = busy; sender_gave = v.sender_gave; sender_heard = v.sender_heard }

abbrev pub receiver's : Story → ℕ → ℕ → ℕ → Known → Bool → Story
receiver's y n seat t v busy = record y { slots = n; receiver = seat; taken = t; reading = busy; receiver_gave = v.receiver_gave; receiver_heard = v.receiver_heard }

pub reached : (t : ℕ) (pushed : List Packet) (reading : Bool) → t ≤ length pushed → (reading ≡ true → t < length pushed) → had reading t ≤ length pushed
reached t pushed false le f = le
reached t pushed true le f = let a = f refl in omega arith

pub sender_sees : (s : Table) (l : Link s) (n seat : ℕ) (v : Known) (busy : Bool) → length s.homes ≡ n → get_elem? s.views seat ≡ some v → v.sends ≡ true → v.busy ≡ busy → Kept (sender's l.story n seat v busy) s
sender_sees s l n seat v busy wide at may state = let own = (l.kept.each seat v at).sender's may in
    subst (λ (z : ℕ × ℕ × List Packet × Bool × ℕ × ℕ). Kept (record l.story { slots = z.0; sender = z.1; pushed = z.2; writing = z.3; sender_gave = z.4; sender_heard = z.5 }) s)
    (λ i. ((sym l.kept.ring.as_many_slots ∙ wide) i, sym own.seat_is i, sym own.pushed_is i, (sym own.busy_is ∙ state) i, sym own.gave_is i, sym own.heard_is i)) l.kept

pub receiver_sees : (s : Table) (l : Link s) (n seat t : ℕ) (v : Known) (busy : Bool) → length s.homes ≡ n → get_elem? s.views seat ≡ some v → v.receives ≡ true → v.busy ≡ busy → length v.pulled ≡ had busy t
    → Kept (receiver's l.story n seat t v busy) s
receiver_sees s l n seat t v busy wide at may state count = let own = (l.kept.each seat v at).receiver's may in
    subst (λ (z : ℕ × ℕ × ℕ × Bool × ℕ × ℕ). Kept (record l.story { slots = z.0; receiver = z.1; taken = z.2; reading = z.3; receiver_gave = z.4; receiver_heard = z.5 }) s)
    (λ i. ((sym l.kept.ring.as_many_slots ∙ wide) i, sym own.seat_is i, taken_is own.pulled_is i, (sym own.busy_is ∙ state) i, sym own.gave_is i, sym own.heard_is i)) l.kept
  where
    y : Story
    y = l.story

    step_down : (r : Bool) (a b : ℕ) → had r a ≡ had r b → a ≡ b
    step_down false a b e = e
    step_down true a b e = omega arith

    taken_is : v.pulled ≡ take (had y.reading y.taken) y.pushed → y.taken ≡ t
    taken_is e = step_down y.reading y.taken t
        (sym (length-take-le (had y.reading y.taken) y.pushed (reached y.taken y.pushed y.reading l.kept.ring.lap.behind l.kept.ring.there)) ∙ (sym (ap length e) ∙ (count ∙ ap (λ b. had b t) (sym state ∙ ((l.kept.each seat v at).receiver's may).busy_is))))
