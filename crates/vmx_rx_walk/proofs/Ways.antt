-- The parts of a walk put together.
use Rattle.std.proofs.Common.{◌≡◌, ℕ, suc, ◌+◌, ◌-◌, ◌<◌, ◌≤◌, inr, [], ◌∷◌, ◌++◌, sym, refl, ap, ◌∙◌, subst, arith, append-nil, length-append}
use Rattle.std.proofs.lemmas.List.Elements.{All-nil}
use Rattle.vmx_ends.specs.Receive.{posted2}
use Rattle.vmx_ends.specs.ReceiveClauses.{made_of}
use Rattle.vmx_ends.specs.Walk.{at_head, further, IsHead}
use Rattle.vmx_ends.specs.Core.{head_from}
use Rattle.vmx_ends.specs.HeadNear.{head_soon}
use Rattle.vmx_ends.specs.WalkLaws.{head_is}
use Rattle.vmx_ends.specs.ExactWalk.{one_head}
use Rattle.vmx_ends.specs.declared.made.RxMade.{RxMade}
use Rattle.vmx_ends.specs.declared.made.RxShape.{RxShape}
use Rattle.vmx_rx_ring.specs.declared.known.DeviceKnows.{DeviceKnows}
use Rattle.vmx_rx_walk.specs.declared.walking.HeadEnd.TheVariants as head
use Rattle.vmx_rx_walk.specs.declared.walking.More.TheVariants as on
use Rattle.vmx_rx_ring.specs.declared.known.Spot.{Spot}
use Rattle.vmx_rx_walk.specs.declared.walking.Plan.{Plan}
use Rattle.vmx_rx_walk.specs.declared.walking.Plan.TheVariants as plan
use Rattle.vmx_rx_ring.specs.Tells.{Seated, with_device}
use Rattle.vmx_rx_ring.specs.Shapes.{IsShape}
use Rattle.vmx_rx_ring.specs.Words.{spot_of}
use Rattle.vmx_rx_walk.specs.Walking.{HeadSearched, IsPast, Walking, LooksOn, WalkEnds, WalkStops, WalksOn, chain_of, FirstsAre, FirstIs, IsResting, Planned}

-- the head is among the next three positions
pub head_bound : (s : RxShape) (c : ℕ) → IsShape s → head_from (made_of s) s.size1 c ≤ c + 2
head_bound s c t = let b = head_soon (made_of s) s.bodies c refl (let z = t.0 in omega arith) in let few = t.4 in omega arith

pub head_reach : (s : RxShape) (c : ℕ) → IsShape s → head_from (made_of s) s.size1 c < c + s.size1
head_reach s c t = let b = head_bound s c t in let z = t.0 in omega arith

pub head_soonest : (s : RxShape) (m : RxMade) (c p : ℕ) → IsShape s → m ≡ made_of s → IsHead m c p → p ≤ c + 2
head_soonest s m c p t same h = let b = head_bound s c t in let is = one_head (made_of s) c p (head_from (made_of s) s.size1 c) (subst (λ (z : RxMade). IsHead z c p) same h) (head_is (made_of s) s.bodies c refl (let z = t.0 in omega arith)) in omega arith

ways_here : (m : Seated) (d1 : DeviceKnows) (m2 : Seated) (n ring p : ℕ) (first second : Spot) (r : Plan) → 1 ≤ n → spot_of second ≡ (ring, p) → LooksOn m (on.Ring ring p) (with_device m.0 d1, [])
    → WalksOn (with_device m.0 d1, []) (n - 1) (spot_of first ∷ spot_of second ∷ []) (λ _ third. chain_of n first second third) r m2 → FirstsAre first second r → WalksOn m n (spot_of first ∷ []) (λ second third. chain_of n first second third) r m2
ways_here m d1 m2 n ring p first second (plan.Goes f s t n1 n2) some is l w same = (
  w.0,
  λ e0 h a found walking chain.
      let r = l.3 e0 h a found walking in let longer = length-append found (r.0 ∷ []) in
      let ends = w.1 e0 h (further m.0.made a r.0) (found ++ r.0 ∷ []) r.1 (r.2 ∙ (λ i. chain i ++ sym is i ∷ [])) in let counts = ends.count_is in
      record { stand = ends.stand; found = ends.found; walking = ends.walking; count_is = omega arith; chain_is = ends.chain_is ∙ ap (λ (z : Spot). chain_of n first z t) (sym same.1); nexts = ends.nexts },
)
ways_here m d1 m2 n ring p first second (plan.Missing g q word) some is l w same = (
  w.0,
  w.1,
  w.2,
  subst (λ ds. posted2 m.0.made ds ≤ q) l.2.3 w.3,
  λ e0 h a found walking.
      let r = l.3 e0 h a found walking in let longer = length-append found (r.0 ∷ []) in let stops = w.4 e0 h (further m.0.made a r.0) (found ++ r.0 ∷ []) r.1 in let few = stops.few in
      record { stand = stops.stand; found = stops.found; missed = stops.missed; few = omega arith; last = stops.last },
)

pub ways_more : (m m1 m2 : Seated) (n ring p : ℕ) (first second : Spot) (r : Plan) → 1 ≤ n → spot_of second ≡ (ring, p) → LooksOn m (on.Ring ring p) m1
    → WalksOn m1 (n - 1) (spot_of first ∷ spot_of second ∷ []) (λ _ third. chain_of n first second third) r m2 → FirstsAre first second r → WalksOn m n (spot_of first ∷ []) (λ second third. chain_of n first second third) r m2
ways_more m m1 m2 n ring p first second r some is l w same = ways_here m m1.0.device m2 n ring p first second r some is
    (subst (LooksOn m (on.Ring ring p)) l.0 l) (subst (λ (z : Seated). WalksOn z (n - 1) (spot_of first ∷ spot_of second ∷ []) (λ _ third. chain_of n first second third) r m2) l.0 w) same

-- the head and the further pieces
pub planned : (m m1 m2 : Seated) (n p : ℕ) (first : Spot) (r : Plan) → first ≡ record { ring = 1; position = p } → IsResting m.0.device → HeadSearched m (head.Found p) m1
    → WalksOn m1 n (spot_of first ∷ []) (λ second third. chain_of n first second third) r m2 → FirstIs first r → Planned m n r m2
planned m m1 m2 n p first r is rest h w same = by_plan r (subst (λ (z : Seated). WalksOn z n (spot_of first ∷ []) (λ second third. chain_of n first second third) r m2) h.1 w) same
  where
    e : DeviceKnows
    e = m.0.device

    none_before : 0 + n ≡ n
    none_before = omega arith

    d1 : DeviceKnows
    d1 = record e { next1 = suc p; head = p; seen1 = h.0 }

    found : IsHead m.0.made e.gone1 p
    found = subst (λ (c : ℕ). IsHead m.0.made c p) rest.0 h.4

    begins : Walking m.0.made e d1 p (at_head p e.gone2) []
    begins = record {
      is = λ i. record e { next1 = suc p; next2 = rest.1 i; head = p; looks = sym (append-nil e.looks) i; seen1 = h.0; seen2 = e.seen2 };
      walked = refl;
      was = (h.2, omega arith);
      seen = (h.3, rest.3);
      looked = All-nil (IsPast m.0.made e);
    }

    by_plan : (r : Plan) → WalksOn (with_device m.0 d1, []) n (spot_of first ∷ []) (λ second third. chain_of n first second third) r m2 → FirstIs first r → Planned m n r m2
    by_plan (plan.Goes f s t n1 n2) w same = (
      w.0,
      record {
        is_first = ap (λ (z : Spot). z.ring) (same ∙ is);
        head = subst (IsHead m.0.made e.gone1) (sym (ap (λ (z : Spot). z.position) (same ∙ is))) found;
        ends = subst (λ (z : Spot × ℕ × ℕ). WalkEnds m.0.made e m2.0.device z.1 (chain_of n z.0 s t) z.2 n1 n2) (λ i. (sym same i, sym (ap (λ (z : Spot). z.position) (same ∙ is)) i, none_before i)) (w.1 e p (at_head p e.gone2) [] begins (λ i. (sym (ap (λ (z : Spot). z.ring) is) i, sym (ap (λ (z : Spot). z.position) is) i) ∷ []));
      },
    )
    by_plan (plan.Missing g q word) w same = inr (w.1, w.0, record { h = p; head = found; missed = w.2; unheard = w.3; stops = subst (λ (c : ℕ). WalkStops m.0.made e m2.0.device p q word c) none_before (w.4 e p (at_head p e.gone2) [] begins) })
