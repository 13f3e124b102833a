-- One packet more on a link, and the entry that tells of it.
use Rattle.std.proofs.Common.{◌≡◌, ◌≢◌, ℕ, zero, suc, ◌+◌, ◌*◌, ◌/◌, ◌<◌, ◌≤◌, List, [], ◌∷◌, ◌++◌, length, length-append, append_assoc, take, map, set, get_or, refl, sym, ap, ◌∙◌, subst, arith, Some}
use Rattle.std.specs.List.{slice_get}
use Rattle.std.proofs.lemmas.List.{map-set, length-map, get_or-take, take_more}
use Rattle.vmx_ends.specs.declared.packet.Packet.{Packet}
use Rattle.vmx_ends.specs.declared.packet.Tag.{Tag}
use Rattle.vmx_switch.specs.Ports.{Wiring, target_ports}
use Rattle.vmx_switch.specs.Laws.{targets_below, targets_other}
use Rattle.vmx_io.specs.Views.{viewed}
use Rattle.vmx_link.specs.declared.ends.LinkOut.{LinkOut}
use Rattle.vmx_link.specs.declared.ends.LinkIn.{LinkIn}
use Rattle.vmx_link.specs.Ends.{out_view, in_view}
use Rattle.vmx_link.specs.Views.{LinkOutView}
use Rattle.vmx_model.specs.declared.journal.Entry.{Entry}
use Rattle.vmx_model.specs.declared.journal.Way.{Way}
use Rattle.vmx_model.specs.declared.journal.Entry.TheVariants as entry
use Rattle.vmx_model.specs.declared.journal.Way.TheVariants as way
use Rattle.vmx_device_looks.specs.Ports.{other, IsOther}
use Rattle.vmx_device_looks.specs.PortLaws.{is_other}
use Rattle.vmx_device_looks.specs.Links.{Pushed, SendsTo, PutsOut, PutsFrame, AreFew, PullsOne, PullsNone, pulled_one}
use Rattle.vmx_device_looks.specs.Queues.{get_at}

-- ------------------------------------------------------------ one packet to one link

module _ (out : List LinkOut) (i : ℕ) (x : LinkOut) (lt : i < length out) (is : x ≡ get_or out i x) where
  pub out_at : slice_get (map out_view out) i ≡ Some (out_view x)
  out_at = get_at (map out_view out) i (out_view x) (rw length-map lt) (sym (viewed out_view out i x lt is))

  pub sends_to : (port : ℕ) (t : Tag) (frame : List ℕ) (to : ℕ) (w : Way) (y : LinkOut) (p : Packet) → to ≡ other port i → p.tag ≡ t → p.frame ≡ frame → Pushed (out_view x) p w (out_view y) → SendsTo port t frame to w (map out_view out) (map out_view (set out i y))
  sends_to port t frame to w y p target tag same pushed = record { number = i; target = target; link = out_view x; at = out_at; packet = p; tagged = tag; holds = same; after = out_view y; pushed = pushed; is = map-set out_view out i y }

-- ------------------------------------------------------------ packets to several

pub puts_last : (port : ℕ) (t : Tag) (frame : List ℕ) (tos : List ℕ) (es : List Entry) (to : ℕ) (w : Way) (old mid new : List LinkOutView) → PutsOut port t frame tos es old mid → SendsTo port t frame to w mid new → PutsOut port t frame (tos ++ to ∷ []) (es ++ entry.Out t to w ∷ []) old new
puts_last port t frame [] es to w old mid new h s = (w, ([], (new, ap (λ (xs : List Entry). xs ++ entry.Out t to w ∷ []) h.0, subst (λ (ls : List LinkOutView). SendsTo port t frame to w ls new) h.1 s, (refl, refl))))
puts_last port t frame (x ∷ tos) es to w old mid new (v, (rest, (next, is, one, more))) s =
    (v, (rest ++ entry.Out t to w ∷ [], (next, ap (λ (xs : List Entry). xs ++ entry.Out t to w ∷ []) is, one, puts_last port t frame tos rest to w next mid new more s)))

-- one target more, the next of a list
pub puts_next : (port : ℕ) (t : Tag) (frame ports : List ℕ) (i : ℕ) (es es' es'' : List Entry) (old mid new : List LinkOutView) → i < length ports → ((more : List Entry) × PutsOut port t frame (take i ports) more old mid × (es' ≡ es ++ more))
    → ((w : Way) × SendsTo port t frame (get_or ports i 0) w mid new × (es'' ≡ es' ++ entry.Out t (get_or ports i 0) w ∷ [])) → (more : List Entry) × PutsOut port t frame (take (i + 1) ports) more old new × (es'' ≡ es ++ more)
puts_next port t frame ports i es es' es'' old mid new lt (more, puts, is) (w, sends, one) = (
  more ++ entry.Out t (get_or ports i 0) w ∷ [],
  subst (λ (tos : List ℕ). PutsOut port t frame tos (more ++ entry.Out t (get_or ports i 0) w ∷ []) old new) (sym (take_more ports i 0 lt)) (puts_last port t frame (take i ports) more (get_or ports i 0) w old mid new puts sends),
  one ∙ ap (λ (xs : List Entry). xs ++ entry.Out t (get_or ports i 0) w ∷ []) is ∙ append_assoc es more (entry.Out t (get_or ports i 0) w ∷ []),
)

pub puts_frame : (port : ℕ) (t : Tag) (frame tos : List ℕ) (es : List Entry) (old new : List LinkOutView) → (length tos ≡ 0 → ⊥) → PutsOut port t frame tos es old new → PutsFrame port t frame tos es old new
puts_frame port t frame [] es old new some h = absurd (some refl)
puts_frame port t frame (to ∷ tos) es old new some h = h

pub lost_frame : (port : ℕ) (t : Tag) (frame tos : List ℕ) (old : List LinkOutView) → length tos ≡ 0 → PutsFrame port t frame tos (entry.Lost t ∷ []) old old
lost_frame port t frame [] old none = (refl, refl)
lost_frame port t frame (to ∷ tos) old none = absurd (omega (arith, none))

-- ------------------------------------------------------------ how many packets

pushed_few : (o o' : LinkOutView) (x : Packet) (w : Way) (n : ℕ) → Pushed o x w o' → (length o.pushed < n) × (length o.full < n) → (length o'.pushed < n + 1) × (length o'.full < n + 1)
pushed_few o o' x (way.Link place) n is few =
    let p : length o'.pushed ≡ length o.pushed + 1 = ap (λ (v : LinkOutView). length v.pushed) is.1 ∙ length-append o.pushed (x ∷ []) in
    let f : length o'.full ≡ length o.full = ap (λ (v : LinkOutView). length v.full) is.1 in
    (omega (arith, p, few.0), omega (arith, f, few.1))
pushed_few o o' x (way.Full look) n is few =
    let p : length o'.pushed ≡ length o.pushed = ap (λ (v : LinkOutView). length v.pushed) is.1.3 in
    let f : length o'.full ≡ length o.full + 1 = ap (λ (v : LinkOutView). length v.full) is.1.3 ∙ length-append o.full ((length o.pushed, is.1.0) ∷ []) in
    (omega (arith, p, few.0), omega (arith, f, few.1))

set_few : (n : ℕ) (outs : List LinkOutView) (i : ℕ) (o : LinkOutView) → (length o.pushed < n) × (length o.full < n) → AreFew n outs → AreFew n (set outs i o)
set_few n [] i o here few k v at = absurd (cc at)
set_few n (x ∷ outs) zero o here few zero v at = let same : o ≡ v = cc at in subst (λ (u : LinkOutView). (length u.pushed < n) × (length u.full < n)) same here
set_few n (x ∷ outs) zero o here few (suc k) v at = few (suc k) v at
set_few n (x ∷ outs) (suc i) o here few zero v at = few zero v at
set_few n (x ∷ outs) (suc i) o here few (suc k) v at = set_few n outs i o here (λ j u a. few (suc j) u a) k v at

pub few_more : (n m : ℕ) (outs : List LinkOutView) → n ≤ m → AreFew n outs → AreFew m outs
few_more n m outs le few k v at = let f = few k v at in (omega (arith, f.0, le), omega (arith, f.1, le))

pub few_next : (port : ℕ) (t : Tag) (frame : List ℕ) (to : ℕ) (n : ℕ) (old new : List LinkOutView) → ((w : Way) × SendsTo port t frame to w old new) → AreFew n old → AreFew (n + 1) new
few_next port t frame to n old new (w, s) few =
    subst (AreFew (n + 1)) (sym s.is) (set_few (n + 1) old s.number s.after (pushed_few s.link s.after s.packet w n s.pushed (few s.number s.link s.at)) (few_more n (n + 1) old (omega arith) few))

-- ------------------------------------------------------------ targets

-- a target of the switch is another port that has a link
pub target_other : (w : Wiring) (port links count i : ℕ) (frame ports : List ℕ) → port < length w.macs → suc links ≡ length w.macs → count ≡ length (target_ports w port frame) → take count ports ≡ target_ports w port frame → i < count
    → IsOther port links (get_or ports i 0)
target_other w port links count i frame ports in_range many count_is are lt =
    let within : i < length (target_ports w port frame) = omega (arith, lt, count_is) in
    let same : get_or (target_ports w port frame) i 0 ≡ get_or ports i 0 = ap (λ (xs : List ℕ). get_or xs i 0) (sym are) ∙ get_or-take count ports i 0 lt in
    let below : get_or (target_ports w port frame) i 0 < length w.macs = targets_below w port frame i 0 within in
    let other_ : get_or (target_ports w port frame) i 0 ≢ port = targets_other w port frame i 0 within in
    subst (IsOther port links) same (is_other port links (get_or (target_ports w port frame) i 0) (omega (arith, in_range, many)) (omega (arith, below, many)) other_)

take_few : {X : Type 0} (n : ℕ) (xs : List X) → length (take n xs) ≤ length xs
take_few zero xs = omega arith
take_few (suc n) [] = omega arith
take_few (suc n) (x ∷ xs) = omega (arith, take_few n xs)

pub ports_within : (w : Wiring) (port count i : ℕ) (frame ports : List ℕ) → count ≡ length (target_ports w port frame) → take count ports ≡ target_ports w port frame → i < count → i < length ports
ports_within w port count i frame ports count_is are lt = omega (arith, lt, count_is, ap length are, take_few count ports)

-- ------------------------------------------------------------ links from other ports

module _ (ins : List LinkIn) (i : ℕ) (x : LinkIn) (lt : i < length ins) (is : x ≡ get_or ins i x) where
  pub in_at : slice_get (map in_view ins) i ≡ Some (in_view x)
  in_at = get_at (map in_view ins) i (in_view x) (rw length-map lt) (sym (viewed in_view ins i x lt is))

  pub pulls_one : (place : ℕ) (p : Packet) (y : LinkIn) → place ≡ length (in_view x).pulled → in_view y ≡ pulled_one (in_view x) p → PullsOne (map in_view ins) i place p (map in_view (set ins i y))
  pulls_one place p y at e = record { link = in_view x; at = in_at; place_is = at; is = map-set in_view ins i y ∙ ap (set (map in_view ins) i) e }

  pub pulls_none : (word : ℕ) (y : LinkIn) → word ≡ 2 * (length (in_view x).pulled / (in_view x).capacity) → length (in_view x).filled ≤ length (in_view x).pulled
      → in_view y ≡ record (in_view x) { empty = (in_view x).empty ++ (length (in_view x).pulled, word) ∷ [] } → PullsNone (map in_view ins) i (map in_view (set ins i y))
  pulls_none word y shows unheard e = record { link = in_view x; at = in_at; word = word; shows = shows; unheard = unheard; is = map-set in_view ins i y ∙ ap (set (map in_view ins) i) e }
