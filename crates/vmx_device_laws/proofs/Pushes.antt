-- One packet more on a link, and the entry that tells of it.
use Rattle.std.proofs.Common.{◌≡◌, ◌≢◌, ℕ, zero, suc, ◌+◌, ◌*◌, ◌/◌, ◌%◌, ◌<◌, ◌≤◌, true, nat_eq, List, [], ◌∷◌, ◌++◌, length, length-append, append-nil, append_assoc, map, set, refl, sym, ap, ◌∙◌, subst, arith, Some, None, Option}
use Rattle.std.specs.List.{filter_map, slice_get, AllByRecursion}
use Rattle.std.proofs.lemmas.List.Elements.{filter_map-append}
use Rattle.std.proofs.lemmas.List.{length-set}
use Rattle.std.proofs.lemmas.Bool.{eq-eqb, ne_eqb}
use Rattle.vmx_ends.specs.declared.packet.Packet.{Packet}
use Rattle.vmx_ends.specs.declared.packet.Tag.{Tag}
use Rattle.vmx_link.specs.Views.{LinkOutView}
use Rattle.vmx_machine_state.specs.Views.{EndsView}
use Rattle.vmx_model.specs.declared.journal.Entry.{Entry}
use Rattle.vmx_model.specs.declared.journal.Way.{Way}
use Rattle.vmx_model.specs.declared.journal.Entry.TheVariants as entry
use Rattle.vmx_model.specs.declared.journal.Way.TheVariants as way
use Rattle.vmx_model.specs.Lists.{upto}
use Rattle.vmx_model.specs.QueueSteps.{upto_push}
use Rattle.vmx_model.specs.Account.{tag_to, place_to, look_to}
use Rattle.vmx_model.specs.Bags.{EachQueue}
use Rattle.vmx_device_looks.specs.Ports.{other}
use Rattle.vmx_device_looks.specs.PortLaws.{other_once}
use Rattle.vmx_device_looks.specs.Links.{Pushed, PutsOut, PutsFrame, AreFew}
use Rattle.vmx_device_looks.specs.Queues.{each_set, each_at, each_map, all_push, all_set, all_at}
use Rattle.vmx_device_laws.specs.Keeps.{IsOwnFrame, AreOwn, OutSays}

-- what an entry adds to a list of what entries say
pub adds : {X : Type 0} (f : Entry → Option X) (es : List Entry) (e : Entry) (more : List X) → filter_map f (e ∷ []) ≡ more → filter_map f (es ++ e ∷ []) ≡ filter_map f es ++ more
adds {X} f es e more is = filter_map-append f es (e ∷ []) ∙ ap (λ (xs : List X). filter_map f es ++ xs) is

pub adds_none : {X : Type 0} (f : Entry → Option X) (es : List Entry) (e : Entry) → f e ≡ None → filter_map f (es ++ e ∷ []) ≡ filter_map f es
adds_none f es e is = adds f es e [] (rw is refl) ∙ append-nil (filter_map f es)

module _ (t : Tag) (to : ℕ) (w : Way) (to' : ℕ) (ne : to ≢ to') where
  pub tag_elsewhere : tag_to to' (entry.Out t to w) ≡ None
  tag_elsewhere = step w
    where
      step : (w : Way) → tag_to to' (entry.Out t to w) ≡ None
      step (way.Link place) = rw (ne_eqb to to' ne) refl
      step (way.Full look) = refl

  pub place_elsewhere : place_to to' (entry.Out t to w) ≡ None
  place_elsewhere = step w
    where
      step : (w : Way) → place_to to' (entry.Out t to w) ≡ None
      step (way.Link place) = rw (ne_eqb to to' ne) refl
      step (way.Full look) = refl

  pub look_elsewhere : look_to to' (entry.Out t to w) ≡ None
  look_elsewhere = step w
    where
      step : (w : Way) → look_to to' (entry.Out t to w) ≡ None
      step (way.Link place) = refl
      step (way.Full look) = rw (ne_eqb to to' ne) refl

-- a link to another port
out_elsewhere : (port : ℕ) (es : List Entry) (t : Tag) (to : ℕ) (w : Way) (k : ℕ) (o : LinkOutView) → to ≢ other port k → OutSays port es k o → OutSays port (es ++ entry.Out t to w ∷ []) k o
out_elsewhere port es t to w k o ne says =
    let ne' : to ≢ o.to = λ same. ne (same ∙ says.to) in record {
      from = says.from;
      to = says.to;
      capacity = says.capacity;
      tags = says.tags ∙ sym (adds_none (tag_to o.to) es (entry.Out t to w) (tag_elsewhere t to w o.to ne'));
      places = adds_none (place_to o.to) es (entry.Out t to w) (place_elsewhere t to w o.to ne') ∙ says.places;
      looks = adds_none (look_to o.to) es (entry.Out t to w) (look_elsewhere t to w o.to ne') ∙ says.looks;
      full = says.full;
    }

odd : (w n : ℕ) → w + 1 ≡ 2 * n → w % 2 ≡ 1
odd w n e = omega (arith, e)

-- one number more
pub counts_on : (xs : List ℕ) (n : ℕ) → xs ≡ upto 0 n → xs ++ n ∷ [] ≡ upto 0 (n + 1)
counts_on xs n e = let zero_n : 0 + n ≡ n = omega arith in ap (λ (ys : List ℕ). ys ++ n ∷ []) e ∙ ap (λ (m : ℕ). upto 0 n ++ m ∷ []) (sym zero_n) ∙ sym (upto_push 0 n)

-- the link that the packet was given to
out_here : (port : ℕ) (es : List Entry) (t : Tag) (w : Way) (k : ℕ) (o o' : LinkOutView) (x : Packet) → x.tag ≡ t → Pushed o x w o' → OutSays port es k o → OutSays port (es ++ entry.Out t (other port k) w ∷ []) k o'
out_here port es t (way.Link place) k o o' x tag is says =
    let same : nat_eq (other port k) o.to ≡ true = eq-eqb (other port k) o.to (sym says.to) in
    let e : Entry = entry.Out t (other port k) (way.Link place) in
    let many : length (o.pushed ++ x ∷ []) ≡ length o.pushed + 1 = length-append o.pushed (x ∷ []) in
    let o'' : LinkOutView = record o { pushed = o.pushed ++ x ∷ [] } in
    let says' : OutSays port (es ++ e ∷ []) k o'' = record {
      from = says.from;
      to = says.to;
      capacity = says.capacity;
      tags = rw (map_last (λ (y : Packet). y.tag) o.pushed x, tag, says.tags) (sym (adds (tag_to o.to) es e (t ∷ []) (rw same refl)));
      places = adds (place_to o.to) es e (place ∷ []) (rw same refl) ∙ ap (λ (p : ℕ). filter_map (place_to o.to) es ++ p ∷ []) is.0 ∙ counts_on (filter_map (place_to o.to) es) (length o.pushed) says.places ∙ ap (upto 0) (sym many);
      looks = adds_none (look_to o.to) es e refl ∙ says.looks;
      full = says.full;
    } in subst (OutSays port (es ++ e ∷ []) k) (sym is.1) says'
  where
    map_last : {X Y : Type 0} (f : X → Y) (xs : List X) (x : X) → map f (xs ++ x ∷ []) ≡ map f xs ++ f x ∷ []
    map_last f [] x = refl
    map_last f (y ∷ ys) x = ap (λ (zs : List _). f y ∷ zs) (map_last f ys x)
out_here port es t (way.Full look) k o o' x tag is says =
    let same : nat_eq (other port k) o.to ≡ true = eq-eqb (other port k) o.to (sym says.to) in
    let e : Entry = entry.Out t (other port k) (way.Full look) in
    let word : ℕ = is.1.0 in
    let found : ℕ × ℕ = (length o.pushed, word) in
    let many : length (o.full ++ found ∷ []) ≡ length o.full + 1 = length-append o.full (found ∷ []) in
    let late : 64 ≤ length o.pushed = omega (arith, says.capacity, is.1.2) in
    let o'' : LinkOutView = record o { full = o.full ++ found ∷ [] } in
    let says' : OutSays port (es ++ e ∷ []) k o'' = record {
      from = says.from;
      to = says.to;
      capacity = says.capacity;
      tags = says.tags ∙ sym (adds_none (tag_to o.to) es e refl);
      places = adds_none (place_to o.to) es e refl ∙ says.places;
      looks = adds (look_to o.to) es e (look ∷ []) (rw same refl) ∙ ap (λ (p : ℕ). filter_map (look_to o.to) es ++ p ∷ []) is.0 ∙ counts_on (filter_map (look_to o.to) es) (length o.full) says.looks ∙ ap (upto 0) (sym many);
      full = all_push (λ (y : ℕ × ℕ). (64 ≤ y.0) × (y.1 % 2 ≡ 1)) o.full found says.full (late, odd word (length o.pushed / o.capacity) is.1.1);
    } in subst (OutSays port (es ++ e ∷ []) k) (sym is.1.3) says'

-- all links after a packet was given to one
pub outs_say : (port : ℕ) (es : List Entry) (outs : List LinkOutView) (t : Tag) (to : ℕ) (w : Way) (k : ℕ) (o o' : LinkOutView) (x : Packet) → to ≡ other port k → slice_get outs k ≡ Some o → x.tag ≡ t → Pushed o x w o'
    → EachQueue (OutSays port es) 0 outs → EachQueue (OutSays port (es ++ entry.Out t to w ∷ [])) 0 (set outs k o')
outs_say port es outs t to w k o o' x target at tag is says =
    let es' : List Entry = es ++ entry.Out t to w ∷ [] in
    let zero_k : 0 + k ≡ k = omega arith in
    let here : OutSays port es k o = subst (λ (n : ℕ). OutSays port es n o) zero_k (each_at (OutSays port es) 0 outs k o at says) in
    let here' : OutSays port es' k o' = subst (λ (n : ℕ). OutSays port (es ++ entry.Out t n w ∷ []) k o') (sym target) (out_here port es t w k o o' x tag is here) in
    each_set (OutSays port es) (OutSays port es') 0 outs k o'
    (λ n y ne s. out_elsewhere port es t to w n y (λ same. ne (other_once port n k (sym same ∙ target) ∙ sym zero_k)) s)
    (subst (λ (n : ℕ). OutSays port es' n o') (sym zero_k) here') says

-- what was pushed are frames of the device
own_here : (port : ℕ) (all : List EndsView) (w : Way) (o o' : LinkOutView) (x : Packet) → IsOwnFrame port all x.tag x.frame → Pushed o x w o' → AreOwn port all o → AreOwn port all o'
own_here port all (way.Link place) o o' x own is are = subst (AreOwn port all) (sym is.1) (all_push (λ (y : Packet). IsOwnFrame port all y.tag y.frame) o.pushed x are own)
own_here port all (way.Full look) o o' x own is are = subst (AreOwn port all) (sym is.1.3) are

pub outs_own : (port : ℕ) (all : List EndsView) (outs : List LinkOutView) (w : Way) (k : ℕ) (o o' : LinkOutView) (x : Packet) → slice_get outs k ≡ Some o → IsOwnFrame port all x.tag x.frame → Pushed o x w o' → AllByRecursion (AreOwn port all) outs → AllByRecursion (AreOwn port all) (set outs k o')
outs_own port all outs w k o o' x at own is are = all_set (AreOwn port all) outs k o' (own_here port all w o o' x own is (all_at (AreOwn port all) outs k o at are)) are

-- no more packets or looks than entries
pub filter_few : {X : Type 0} (f : Entry → Option X) (es : List Entry) → length (filter_map f es) ≤ length es
filter_few f [] = omega arith
filter_few f (e ∷ es) = step (f e) refl (filter_few f es)
  where
    step : (o : Option _) → f e ≡ o → length (filter_map f es) ≤ length es → length (filter_map f (e ∷ es)) ≤ suc (length es)
    step None k ih = rw k (omega (arith, ih))
    step (Some x) k ih = rw k (omega (arith, ih))

length-upto : (n m : ℕ) → length (upto n m) ≡ m
length-upto n zero = refl
length-upto n (suc m) = ap suc (length-upto (n + 1) m)

pub few_pushed : (port : ℕ) (es : List Entry) (k : ℕ) (o : LinkOutView) → OutSays port es k o → (length o.pushed ≤ length es) × (length o.full ≤ length es)
few_pushed port es k o says =
    let p : length (filter_map (place_to o.to) es) ≡ length o.pushed = ap length says.places ∙ length-upto 0 (length o.pushed) in
    let l : length (filter_map (look_to o.to) es) ≡ length o.full = ap length says.looks ∙ length-upto 0 (length o.full) in
    (omega (arith, p, filter_few (place_to o.to) es), omega (arith, l, filter_few (look_to o.to) es))

-- an entry of a frame without target
lost_one : (port : ℕ) (es : List Entry) (t : Tag) (k : ℕ) (o : LinkOutView) → OutSays port es k o → OutSays port (es ++ entry.Lost t ∷ []) k o
lost_one port es t k o says = record {
  from = says.from;
  to = says.to;
  capacity = says.capacity;
  tags = says.tags ∙ sym (adds_none (tag_to o.to) es (entry.Lost t) refl);
  places = adds_none (place_to o.to) es (entry.Lost t) refl ∙ says.places;
  looks = adds_none (look_to o.to) es (entry.Lost t) refl ∙ says.looks;
  full = says.full;
}

pub lost_says : (port : ℕ) (es es' : List Entry) (t : Tag) (outs : List LinkOutView) → es' ≡ es ++ entry.Lost t ∷ [] → EachQueue (OutSays port es) 0 outs → EachQueue (OutSays port es') 0 outs
lost_says port es es' t outs are says = subst (λ (xs : List Entry). EachQueue (OutSays port xs) 0 outs) (sym are)
    (each_map (OutSays port es) (OutSays port (es ++ entry.Lost t ∷ [])) 0 outs (λ k o le lt h. lost_one port es t k o h) says)

-- ------------------------------------------------------------ all packets of a frame

puts_say : (port : ℕ) (t : Tag) (frame tos : List ℕ) (es more : List Entry) (old new : List LinkOutView) → PutsOut port t frame tos more old new → EachQueue (OutSays port es) 0 old → EachQueue (OutSays port (es ++ more)) 0 new
puts_say port t frame [] es more old new h says = subst (λ (x : List Entry × List LinkOutView). EachQueue (OutSays port x.0) 0 x.1) (λ i. ((sym (append-nil es) ∙ ap (λ (xs : List Entry). es ++ xs) (sym h.0)) i, sym h.1 i)) says
puts_say port t frame (to ∷ tos) es more old new (w, (rest, (mid, is, one, next))) says =
    let said : EachQueue (OutSays port (es ++ entry.Out t to w ∷ [])) 0 mid = subst (λ (ls : List LinkOutView). EachQueue (OutSays port (es ++ entry.Out t to w ∷ [])) 0 ls) (sym one.is)
    (outs_say port es old t to w one.number one.link one.after one.packet one.target one.at one.tagged one.pushed says) in
    subst (λ (xs : List Entry). EachQueue (OutSays port xs) 0 new) (append_assoc es (entry.Out t to w ∷ []) rest ∙ ap (λ (xs : List Entry). es ++ xs) (sym is)) (puts_say port t frame tos (es ++ entry.Out t to w ∷ []) rest mid new next said)

puts_own : (port : ℕ) (all : List EndsView) (t : Tag) (frame tos : List ℕ) (more : List Entry) (old new : List LinkOutView) → IsOwnFrame port all t frame → PutsOut port t frame tos more old new → AllByRecursion (AreOwn port all) old → AllByRecursion (AreOwn port all) new
puts_own port all t frame [] more old new own h are = subst (AllByRecursion (AreOwn port all)) (sym h.1) are
puts_own port all t frame (to ∷ tos) more old new own (w, (rest, (mid, is, one, next))) are =
    let own' : IsOwnFrame port all one.packet.tag one.packet.frame = subst (λ (f : List ℕ). IsOwnFrame port all one.packet.tag f) (sym one.holds) (subst (λ (u : Tag). IsOwnFrame port all u frame) (sym one.tagged) own) in
    let are' : AllByRecursion (AreOwn port all) mid = subst (AllByRecursion (AreOwn port all)) (sym one.is) (outs_own port all old w one.number one.link one.after one.packet one.at own' one.pushed are) in
    puts_own port all t frame tos rest mid new own next are'

puts_many : (port : ℕ) (t : Tag) (frame tos : List ℕ) (more : List Entry) (old new : List LinkOutView) → PutsOut port t frame tos more old new → length new ≡ length old
puts_many port t frame [] more old new h = ap length h.1
puts_many port t frame (to ∷ tos) more old new (w, (rest, (mid, is, one, next))) = puts_many port t frame tos rest mid new next ∙ ap length one.is ∙ length-set old one.number one.after

-- the links after a frame was given to its targets
pub frame_says : (port : ℕ) (t : Tag) (frame tos : List ℕ) (es more : List Entry) (old new : List LinkOutView) → PutsFrame port t frame tos more old new → EachQueue (OutSays port es) 0 old → EachQueue (OutSays port (es ++ more)) 0 new
frame_says port t frame [] es more old new h says = subst (λ (ls : List LinkOutView). EachQueue (OutSays port (es ++ more)) 0 ls) (sym h.1) (lost_says port es (es ++ more) t old (ap (λ (xs : List Entry). es ++ xs) h.0) says)
frame_says port t frame (to ∷ tos) es more old new h says = puts_say port t frame (to ∷ tos) es more old new h says

pub frame_own : (port : ℕ) (all : List EndsView) (t : Tag) (frame tos : List ℕ) (more : List Entry) (old new : List LinkOutView) → IsOwnFrame port all t frame → PutsFrame port t frame tos more old new → AllByRecursion (AreOwn port all) old → AllByRecursion (AreOwn port all) new
frame_own port all t frame [] more old new own h are = subst (AllByRecursion (AreOwn port all)) (sym h.1) are
frame_own port all t frame (to ∷ tos) more old new own h are = puts_own port all t frame (to ∷ tos) more old new own h are

pub frame_many : (port : ℕ) (t : Tag) (frame tos : List ℕ) (more : List Entry) (old new : List LinkOutView) → PutsFrame port t frame tos more old new → length new ≡ length old
frame_many port t frame [] more old new h = ap length h.1
frame_many port t frame (to ∷ tos) more old new h = puts_many port t frame (to ∷ tos) more old new h

each_few : (port : ℕ) (es : List Entry) (k : ℕ) (outs : List LinkOutView) → EachQueue (OutSays port es) k outs → AreFew (length es + 1) outs
each_few port es k [] says j o at = absurd (cc at)
each_few port es k (x ∷ outs) says zero o at = let same : x ≡ o = cc at in let f = few_pushed port es k o (subst (OutSays port es k) same says.0) in (omega (arith, f.0), omega (arith, f.1))
each_few port es k (x ∷ outs) says (suc j) o at = each_few port es (suc k) outs says.1 j o at

-- no more packets and looks than entries
pub are_few : (port : ℕ) (es : List Entry) (outs : List LinkOutView) (n : ℕ) → length es < n → EachQueue (OutSays port es) 0 outs → AreFew n outs
are_few port es outs n lt says k o at = let f = each_few port es 0 outs says k o at in (omega (arith, f.0, lt), omega (arith, f.1, lt))
