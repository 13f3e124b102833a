-- Along a target's journal the packets of one sender come in the order of their link.
use Rattle.std.proofs.Common.{◌≡◌, ℕ, suc, ◌+◌, List, [], ◌∷◌, length, refl, sym, arith, nat_eq, true, false, Bool, subst, ◌&&◌, inl, inr, ◌⊎◌, Option, Some, None}
use Rattle.std.proofs.lemmas.Bool.{and_parts}
use Rattle.std.proofs.lemmas.Bool.Decides.{eqb_tells}
use Rattle.std.specs.List.{filter, filter_map, slice_get, AllByRecursion}
use Rattle.vmx_model.specs.Types.{Packet, Entry, Fate}
use Rattle.vmx_model.specs.declared.journal.Entry.TheVariants as entry
use Rattle.vmx_model.specs.declared.journal.Fate.TheVariants as fate
use Rattle.vmx_model.specs.Lists.{Rises, upto}
use Rattle.vmx_ends.specs.LinkView.{LinkView}
use Rattle.vmx_model.specs.Journal.{packet_at}
use Rattle.vmx_model.specs.Account.{place_from}
use Rattle.vmx_model.specs.Order.{CameUp, came_up, on_rx, from_tx, WasSentBefore}
use Rattle.vmx_model.proofs.Tags.{PacketsRise}

-- what came up on a receive queue from a transmit queue
abbrev pub kept : List LinkView → ℕ → ℕ → ℕ → ℕ → List Entry → List CameUp
kept links port q g q' es = filter (from_tx g q') (filter (on_rx q) (came_up links port es))

-- an entry leaves that list, or brings one more with this packet
abbrev Brings : List LinkView → ℕ → ℕ → ℕ → ℕ → Entry → List Entry → Packet → Type 0
Brings links port q g q' e es p = (kept links port q g q' (e ∷ es) ≡ kept links port q g q' es) ⊎ ((u : CameUp) × (kept links port q g q' (e ∷ es) ≡ u ∷ kept links port q g q' es) × (u.packet ≡ p) × (p.tag.queue ≡ q'))

queue_is : (m n g q' : ℕ) → (nat_eq m g && nat_eq n q') ≡ true → n ≡ q'
queue_is m n g q' h = elim (eqb_tells n q') [ inl e ↦ e.1 | inr e ↦ absurd (cc ((and_parts (nat_eq m g) (nat_eq n q') h).1, e.0)) ]

brings : (links : List LinkView) (port q g q' : ℕ) (from place : ℕ) (f : Fate) (es : List Entry) (p : Packet) → packet_at links from port place ≡ Some p → Brings links port q g q' (entry.In from place f) es p
brings links port q g q' from place (fate.Up a q1 k) es p at = step (nat_eq q1 q) (nat_eq p.tag.guest g && nat_eq p.tag.queue q') refl refl
  where
    step : (b c : Bool) → nat_eq q1 q ≡ b → (nat_eq p.tag.guest g && nat_eq p.tag.queue q') ≡ c → Brings links port q g q' (entry.In from place (fate.Up a q1 k)) es p
    step true true e i = inr (record { activation = a; queue = q1; place = k; packet = p }, rw (at, e, i) refl, refl, queue_is p.tag.guest p.tag.queue g q' i)
    step true false e i = inl (rw (at, e, i) refl)
    step false c e i = inl (rw (at, e) refl)
brings links port q g q' from place f es p at = inl (rw at refl)

-- a packet of another sender does not count
other_sender : (links : List LinkView) (port q g q' : ℕ) (from place : ℕ) (f : Fate) (es : List Entry) → ((p : Packet) → packet_at links from port place ≡ Some p → p.tag.guest ≡ from) → nat_eq from g ≡ false → kept links port q g q' (entry.In from place f ∷ es) ≡ kept links port q g q' es
other_sender links port q g q' from place (fate.Up a q1 k) es own ne = step (packet_at links from port place) refl
  where
    up : (p : Packet) → packet_at links from port place ≡ Some p → (b : Bool) → nat_eq q1 q ≡ b → kept links port q g q' (entry.In from place (fate.Up a q1 k) ∷ es) ≡ kept links port q g q' es
    up p at true e = let no' : nat_eq p.tag.guest g ≡ false = rw (own p at) ne in rw (at, e, no') refl
    up p at false e = rw (at, e) refl

    step : (o : Option Packet) → packet_at links from port place ≡ o → kept links port q g q' (entry.In from place (fate.Up a q1 k) ∷ es) ≡ kept links port q g q' es
    step None e = rw e refl
    step (Some p) e = up p e (nat_eq q1 q) refl
other_sender links port q g q' from place f es own ne = step (packet_at links from port place) refl
  where
    step : (o : Option Packet) → packet_at links from port place ≡ o → kept links port q g q' (entry.In from place f ∷ es) ≡ kept links port q g q' es
    step None e = rw e refl
    step (Some p) e = rw e refl

-- the packets of the link from place j on
abbrev pub Behind : List LinkView → ℕ → ℕ → ℕ → List Packet → Type 0
Behind links g port j ps = (i : ℕ) → packet_at links g port (j + i) ≡ slice_get ps i

behind_rest : (links : List LinkView) (g port j : ℕ) (p : Packet) (ps : List Packet) → Behind links g port j (p ∷ ps) → Behind links g port (j + 1) ps
behind_rest links g port j p ps h i = let e : j + 1 + i ≡ j + suc i = omega arith in rw e (h (suc i))

abbrev pub OwnTags : List LinkView → ℕ → Type 0
OwnTags links port = (from place : ℕ) (p : Packet) → packet_at links from port place ≡ Some p → p.tag.guest ≡ from

-- what holds of each packet of the link holds of each that came up
kept_all : (links : List LinkView) (port q g q' : ℕ) → OwnTags links port → (P : Packet → Type 0) (j : ℕ) (ps : List Packet) (es : List Entry) → Behind links g port j ps → filter_map (place_from g) es ≡ upto j (length ps) → AllByRecursion P ps → AllByRecursion (λ (u : CameUp). P u.packet) (kept links port q g q' es)
kept_all links port q g q' own P j ps [] behind places all = tt
kept_all links port q g q' own P j ps (entry.Setting number answer setup ∷ es) behind places all = kept_all links port q g q' own P j ps es behind places all
kept_all links port q g q' own P j ps (entry.Out tag target w ∷ es) behind places all = kept_all links port q g q' own P j ps es behind places all
kept_all links port q g q' own P j ps (entry.Lost tag ∷ es) behind places all = kept_all links port q g q' own P j ps es behind places all
kept_all links port q g q' own P j ps (entry.In from place f ∷ es) behind places all = elim (eqb_tells from g) [
  | inl e ↦ mine e.0 e.1 ps behind (rw e.0 at places) all (λ k rest b pl a. kept_all links port q g q' own P k rest es b pl a)
  | inr e ↦ rw (other_sender links port q g q' from place f es (own from place) e.0) (kept_all links port q g q' own P j ps es behind (rw e.0 at places) all)
]
  where
    mine : nat_eq from g ≡ true → from ≡ g → (ps : List Packet) → Behind links g port j ps → place ∷ filter_map (place_from g) es ≡ upto j (length ps) → AllByRecursion P ps →
        ((k : ℕ) (rest : List Packet) → Behind links g port k rest → filter_map (place_from g) es ≡ upto k (length rest) → AllByRecursion P rest → AllByRecursion (λ (u : CameUp). P u.packet) (kept links port q g q' es)) →
        AllByRecursion (λ (u : CameUp). P u.packet) (kept links port q g q' (entry.In from place f ∷ es))
    mine is same [] behind places all ih = absurd (cc places)
    mine is same (p ∷ rest) behind places all ih =
        let here : place ≡ j = cc places in
        let others : filter_map (place_from g) es ≡ upto (j + 1) (length rest) = cc places in
        let zero' : j + 0 ≡ j = omega arith in
        let at : packet_at links from port place ≡ Some p = rw (same, here) (rw zero' at (behind 0)) in
        let more = ih (j + 1) rest (behind_rest links g port j p rest behind) others all.1 in
        elim (brings links port q g q' from place f es p at) [
          | inl e ↦ rw e more
          | inr e ↦ rw e.1 (subst P (sym e.2) all.0, more)
        ]

-- what holds in order of the packets of a queue on the link holds in order of those that came up
pub kept_rises : (links : List LinkView) (port q g q' : ℕ) → OwnTags links port → (j : ℕ) (ps : List Packet) (es : List Entry) → Behind links g port j ps → filter_map (place_from g) es ≡ upto j (length ps) → Rises (PacketsRise q') ps →
    AllByRecursion (λ (u : CameUp). u.packet.tag.queue ≡ q') (kept links port q g q' es) × Rises WasSentBefore (kept links port q g q' es)
kept_rises links port q g q' own j ps [] behind places rises = (tt, tt)
kept_rises links port q g q' own j ps (entry.Setting number answer setup ∷ es) behind places rises = kept_rises links port q g q' own j ps es behind places rises
kept_rises links port q g q' own j ps (entry.Out tag target w ∷ es) behind places rises = kept_rises links port q g q' own j ps es behind places rises
kept_rises links port q g q' own j ps (entry.Lost tag ∷ es) behind places rises = kept_rises links port q g q' own j ps es behind places rises
kept_rises links port q g q' own j ps (entry.In from place f ∷ es) behind places rises = elim (eqb_tells from g) [
  | inl e ↦ mine e.0 e.1 ps behind (rw e.0 at places) rises (λ k rest b pl a. kept_rises links port q g q' own k rest es b pl a)
  | inr e ↦ rw (other_sender links port q g q' from place f es (own from place) e.0) (kept_rises links port q g q' own j ps es behind (rw e.0 at places) rises)
]
  where
    both : (u : CameUp) (xs : List CameUp) → AllByRecursion (λ (v : CameUp). PacketsRise q' u.packet v.packet) xs → AllByRecursion (λ (v : CameUp). v.packet.tag.queue ≡ q') xs → u.packet.tag.queue ≡ q' → AllByRecursion (WasSentBefore u) xs
    both u [] h k e = tt
    both u (x ∷ xs) h k e = (h.0 e k.0, both u xs h.1 k.1 e)

    mine : nat_eq from g ≡ true → from ≡ g → (ps : List Packet) → Behind links g port j ps → place ∷ filter_map (place_from g) es ≡ upto j (length ps) → Rises (PacketsRise q') ps →
        ((k : ℕ) (rest : List Packet) → Behind links g port k rest → filter_map (place_from g) es ≡ upto k (length rest) → Rises (PacketsRise q') rest → AllByRecursion (λ (u : CameUp). u.packet.tag.queue ≡ q') (kept links port q g q' es) × Rises WasSentBefore (kept links port q g q' es)) →
        AllByRecursion (λ (u : CameUp). u.packet.tag.queue ≡ q') (kept links port q g q' (entry.In from place f ∷ es)) × Rises WasSentBefore (kept links port q g q' (entry.In from place f ∷ es))
    mine is same [] behind places rises ih = absurd (cc places)
    mine is same (p ∷ rest) behind places rises ih =
        let here : place ≡ j = cc places in
        let others : filter_map (place_from g) es ≡ upto (j + 1) (length rest) = cc places in
        let zero' : j + 0 ≡ j = omega arith in
        let at : packet_at links from port place ≡ Some p = rw (same, here) (rw zero' at (behind 0)) in
        let more = ih (j + 1) rest (behind_rest links g port j p rest behind) others rises.1 in
        elim (brings links port q g q' from place f es p at) [
          | inl e ↦ rw e more
          | inr e ↦ rw e.1 (
              let all : AllByRecursion (λ (v : CameUp). PacketsRise q' p v.packet) (kept links port q g q' es) = kept_all links port q g q' own (PacketsRise q' p) (j + 1) rest es (behind_rest links g port j p rest behind) others rises.0 in
              let queue : e.0.packet.tag.queue ≡ q' = rw e.2 e.3 in
              ((queue, more.0), (both e.0 (kept links port q g q' es) (subst (λ (x : Packet). AllByRecursion (λ (v : CameUp). PacketsRise q' x v.packet) (kept links port q g q' es)) (sym e.2) all) more.0 queue, more.1)))
        ]
