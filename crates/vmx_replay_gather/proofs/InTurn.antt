-- The ends of links meet one after the other.
use Rattle.std.proofs.Common.{◌≡◌, ◌≢◌, ℕ, ◌<◌, List, [], ◌∷◌, ◌++◌, length, map, set, get_or, refl, ap, sym, ◌∙◌, subst, arith, append_assoc, append-nil, Option, Some, inl, inr}
use Rattle.std.specs.List.{filter, slice_get}
use Rattle.std.proofs.lemmas.List.{length-map, length-set, map-append, map-set}
use Rattle.std.proofs.lemmas.Bool.Decides.{eqb_tells}
use Rattle.std.proofs.lemmas.Bool.{eq-eqb}
use Rattle.vmx_ends.specs.LinkView.{LinkView}
use Rattle.vmx_link.specs.declared.ends.LinkOut.{LinkOut}
use Rattle.vmx_link.specs.declared.ends.LinkIn.{LinkIn}
use Rattle.vmx_link.specs.declared.ends.LinkFacts.{LinkFacts}
use Rattle.vmx_link.specs.Views.{LinkOutView, LinkInView}
use Rattle.vmx_link.specs.Ends.{out_view, in_view, facts_view, met_view}
use Rattle.vmx_model.proofs.Sends.{some_there}
use Rattle.vmx_device_looks.specs.Queues.{all_map, get_lt}
use Rattle.vmx_device_laws.proofs.Pairing.{get_set_other}
use Rattle.vmx_device_laws.proofs.PairingIn.{some_same}
use Rattle.vmx_replay_worlds.specs.Worlds.{goes_to, pulled_by}
use Rattle.vmx_replay_worlds.proofs.Lists.{get_set}
use Rattle.vmx_replay_start.specs.Linking.{outs_view, ins_view}
use Rattle.vmx_replay_start.proofs.Pushed.{view_at}
use Rattle.vmx_replay_gather.specs.Records.{link_by}
use Rattle.vmx_replay_gather.specs.Meeting.{ComeInOrder, AreEnds, MeetsOf, AreOfLinks, HasFirstAt, TakesFirst}

-- where the links so far have met: the ends that are left may meet, and the facts go on with theirs
pub record MetSo (all : List (List LinkInView)) (outs os : List LinkOutView) (ins : List (List LinkInView)) (ls : List LinkView) : Type 0 where
  pub order : ComeInOrder os ins
  pub links : AreOfLinks all os ins
  pub so_far : ls ++ map (link_by all) os ≡ map (link_by all) outs

-- the first end at a port comes from the first sender that has a link to it
first_from : (i : LinkInView) (rest : List LinkInView) (n : ℕ) (ns : List ℕ) → map (λ (x : LinkInView). x.from) (i ∷ rest) ≡ n ∷ ns → (i.from ≡ n) × (map (λ (x : LinkInView). x.from) rest ≡ ns)
first_from i rest n ns e = (cc e, cc e)

module _ (all : List (List LinkInView)) (outs : List LinkOutView) (o : LinkOutView) (os : List LinkOutView) (ins : List (List LinkInView)) (ls : List LinkView) (m : MetSo all outs (o ∷ os) ins ls) where
  -- its own is the first sender
  own : filter (goes_to o.to) (o ∷ os) ≡ o ∷ filter (goes_to o.to) os
  own = rw (eq-eqb o.to o.to refl) refl

  first_here : (is : List LinkInView) → slice_get ins o.to ≡ Some is → map (λ (i : LinkInView). i.from) is ≡ o.from ∷ map (λ (x : LinkOutView). x.from) (filter (goes_to o.to) os)
  first_here is at = m.order.senders o.to is at ∙ ap (map (λ (x : LinkOutView). x.from)) own

  pub has_first : HasFirstAt o.to ins
  has_first = let is = some_there ins o.to m.order.within.0 in by_list is.0 is.1
    where
      by_list : (is : List LinkInView) → slice_get ins o.to ≡ Some is → HasFirstAt o.to ins
      by_list [] at = absurd (cc (first_here [] at))
      by_list (i ∷ rest) at = (i, rest, record { at = at })

  module _ (i : LinkInView) (ins' : List (List LinkInView)) (t : TakesFirst o.to i ins ins') where
    from : (i.from ≡ o.from) × (map (λ (x : LinkInView). x.from) t.rest ≡ map (λ (x : LinkOutView). x.from) (filter (goes_to o.to) os))
    from = first_from i t.rest o.from (map (λ (x : LinkOutView). x.from) (filter (goes_to o.to) os)) (first_here (i ∷ t.rest) t.first.at)

    -- the two are the ends of one link
    pub are_ends : AreEnds all o i
    are_ends = (m.links.0 (i ∷ t.rest) t.first.at).0 from.0

    here : slice_get ins' o.to ≡ Some t.rest
    here = ap (λ (xs : List (List LinkInView)). slice_get xs o.to) t.is ∙ get_set ins o.to (i ∷ t.rest) t.rest t.first.at

    elsewhere : (to : ℕ) → to ≢ o.to → slice_get ins' to ≡ slice_get ins to
    elsewhere to away = ap (λ (xs : List (List LinkInView)). slice_get xs to) t.is ∙ get_set_other ins o.to t.rest to away

    long : length ins' ≡ length ins
    long = ap length t.is ∙ length-set ins o.to t.rest

    senders_left : (to : ℕ) (is : List LinkInView) → slice_get ins' to ≡ Some is → map (λ (x : LinkInView). x.from) is ≡ map (λ (x : LinkOutView). x.from) (filter (goes_to to) os)
    senders_left to is at = elim (eqb_tells o.to to) [
      | inl same ↦ (
          let rest : is ≡ t.rest = some_same (slice_get ins' to) is t.rest at (ap (slice_get ins') (sym same.1) ∙ here) in
          ap (map (λ (x : LinkInView). x.from)) rest ∙ from.1 ∙ ap (λ (n : ℕ). map (λ (x : LinkOutView). x.from) (filter (goes_to n) os)) same.1
          )
      | inr away ↦ (
          let none : filter (goes_to to) (o ∷ os) ≡ filter (goes_to to) os = rw away.0 refl in
          m.order.senders to is (sym (elsewhere to (λ e. away.1 (sym e))) ∙ at) ∙ ap (map (λ (x : LinkOutView). x.from)) none
          )
    ]

    links_left : (x : LinkOutView) → ((is : List LinkInView) → slice_get ins x.to ≡ Some is → MeetsOf all x is) → (is : List LinkInView) → slice_get ins' x.to ≡ Some is → MeetsOf all x is
    links_left x h is at = elim (eqb_tells o.to x.to) [
      | inl same ↦ (
          let rest : is ≡ t.rest = some_same (slice_get ins' x.to) is t.rest at (ap (slice_get ins') (sym same.1) ∙ here) in
          subst (MeetsOf all x) (sym rest) (h (i ∷ t.rest) (ap (slice_get ins) (sym same.1) ∙ t.first.at)).1
          )
      | inr away ↦ h is (sym (elsewhere x.to (λ e. away.1 (sym e))) ∙ at)
    ]

    met_here : met_view o i ≡ link_by all o
    met_here = ap (λ (y : Option LinkInView). record { from = o.from; to = o.to; pushed = o.pushed; pulled = pulled_by y; full = o.full }) (sym are_ends.only)

    -- one link more has met
    pub met_next : (ls' : List LinkView) → ls' ≡ ls ++ met_view o i ∷ [] → MetSo all outs os ins' ls'
    met_next ls' e = record {
      order = record {
        within = all_map (λ (x : LinkOutView). x.to < length ins) (λ (x : LinkOutView). x.to < length ins') (λ x lt. (let l = long in omega (arith, l, lt))) os m.order.within.1;
        senders = senders_left;
      };
      links = all_map (λ (x : LinkOutView). (is : List LinkInView) → slice_get ins x.to ≡ Some is → MeetsOf all x is) (λ (x : LinkOutView). (is : List LinkInView) → slice_get ins' x.to ≡ Some is → MeetsOf all x is) links_left os m.links.1;
      so_far = ap (λ (xs : List LinkView). xs ++ map (link_by all) os) (e ∙ ap (λ (l : LinkView). ls ++ l ∷ []) met_here) ∙ append_assoc ls (link_by all o ∷ []) (map (link_by all) os) ∙ m.so_far;
    }

-- none has met yet
pub met_none : (all : List (List LinkInView)) (outs : List LinkOutView) (ls : List LinkView) → ComeInOrder outs all → AreOfLinks all outs all → ls ≡ [] → MetSo all outs outs all ls
met_none all outs ls order links e = record { order = order; links = links; so_far = ap (λ (xs : List LinkView). xs ++ map (link_by all) outs) e }

-- all have met
pub met_whole : (all : List (List LinkInView)) (outs os : List LinkOutView) (ins : List (List LinkInView)) (ls : List LinkView) → MetSo all outs os ins ls → os ≡ [] → ls ≡ map (link_by all) outs
met_whole all outs os ins ls m e = sym (append-nil ls) ∙ ap (λ (xs : List LinkOutView). ls ++ map (link_by all) xs) (sym e) ∙ m.so_far

-- ------------------------------------------------------------ the calls

-- the first end at a port was taken out
pub taken_first : (gs : List (List LinkIn)) (port : ℕ) (x x' : List LinkIn) (i : LinkIn) → HasFirstAt port (map ins_view gs) → x ≡ get_or gs port x → x ≡ i ∷ x' → TakesFirst port (in_view i) (map ins_view gs) (map ins_view (set gs port x'))
taken_first gs port x x' i has is e =
    let far = get_lt (map ins_view gs) port (has.0 ∷ has.1) has.2.at in let long = length-map gs ins_view in
    record { rest = ins_view x'; first = record { at = view_at ins_view gs port x (omega (arith, far, long)) is ∙ ap (λ (z : List LinkIn). Some (ins_view z)) e }; is = map-set ins_view gs port x' }

module _ (all : List (List LinkInView)) (outs : List LinkOutView) (out out' : List LinkOut) (o : LinkOut) (to : ℕ) (input : List (List LinkIn)) (fs : List LinkFacts) (h : MetSo all outs (outs_view out) (map ins_view input) (map facts_view fs)) (e : out ≡ o ∷ out') (at : to ≡ (out_view o).to) where
  now : MetSo all outs (out_view o ∷ outs_view out') (map ins_view input) (map facts_view fs)
  now = subst (λ (l : List LinkOut). MetSo all outs (outs_view l) (map ins_view input) (map facts_view fs)) e h

  pub first_there : HasFirstAt to (map ins_view input)
  first_there = subst (λ (n : ℕ). HasFirstAt n (map ins_view input)) (sym at) (has_first all outs (out_view o) (outs_view out') (map ins_view input) (map facts_view fs) now)

  module _ (i : LinkIn) (input' : List (List LinkIn)) (t : TakesFirst to (in_view i) (map ins_view input) (map ins_view input')) where
    took : TakesFirst (out_view o).to (in_view i) (map ins_view input) (map ins_view input')
    took = subst (λ (n : ℕ). TakesFirst n (in_view i) (map ins_view input) (map ins_view input')) at t

    -- both are the ends of one link
    pub both_ends : AreEnds all (out_view o) (in_view i)
    both_ends = are_ends all outs (out_view o) (outs_view out') (map ins_view input) (map facts_view fs) now (in_view i) (map ins_view input') took

    -- they met
    pub both_met : (f : LinkFacts) (fs' : List LinkFacts) → facts_view f ≡ met_view (out_view o) (in_view i) → fs' ≡ fs ++ f ∷ [] → MetSo all outs (outs_view out') (map ins_view input') (map facts_view fs')
    both_met f fs' is put = met_next all outs (out_view o) (outs_view out') (map ins_view input) (map facts_view fs) now (in_view i) (map ins_view input') took (map facts_view fs')
        (ap (map facts_view) put ∙ map-append facts_view fs (f ∷ []) ∙ ap (λ (l : LinkView). map facts_view fs ++ l ∷ []) is)
