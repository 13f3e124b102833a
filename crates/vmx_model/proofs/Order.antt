-- What comes up keeps its order: places rise in the journal, tags rise along the sender's journal, its link and the target's journal.
use Rattle.std.proofs.Common.{◌≡◌, ℕ, ◌+◌, ◌<◌, ◌≤◌, List, [], ◌∷◌, ◌++◌, refl, ap, sym, ◌∙◌, arith, nat_eq, true, subst, inl, inr, ◌⊎◌, Some}
use Rattle.std.proofs.lemmas.Bool.Decides.{eqb_tells, nat_tests}
use Rattle.std.proofs.lemmas.List.Elements.{filter_map-append}
use Rattle.std.specs.List.{filter, filter_map, AllByRecursion}
use Rattle.vmx_model.specs.Types.{Packet, Entry, Setup, Verdict}
use Rattle.vmx_device_state.specs.SetupView.{SetupView}
use Rattle.vmx_model.specs.Setups.{admits}
use Rattle.vmx_model.specs.declared.journal.Entry.TheVariants as entry
use Rattle.vmx_model.specs.declared.journal.Fate.TheVariants as fate
use Rattle.vmx_filters.specs.declared.answer.Verdict.TheVariants as verdict
use Rattle.vmx_model.specs.Lists.{count, Rises, EachAfter}
use Rattle.vmx_ends.specs.LinkView.{LinkView}
use Rattle.vmx_model.specs.Journal.{Beside, IsLawful, IsShown, IsAdmitted, state_at, activation_of, is_activation, ups, is_up, fate_in, packet_at}
use Rattle.vmx_device_state.specs.DeviceState.{DeviceState, Idle, Active}
use Rattle.vmx_model.specs.Order.{CameUp, came_up, on_rx, IsBefore, LiesBefore}
use Rattle.vmx_model.proofs.Lists.{all_weaker, count-append}

-- ------------------------------------------------------------ places

up_by : (b : Beside) (before : List Entry) (s : SetupView) (frame : List ℕ) (a q k : ℕ) (w : Verdict) → IsAdmitted b before s frame (fate.Up a q k) w → (a ≡ activation_of before) × (k ≡ ups a q before)
up_by b before s frame a q k verdict.Yes h = (h.0, h.2)
up_by b before s frame a q k (verdict.No r) h = absurd (cc h)

-- a frame that came up has the activation at its entry, and as place the number of those before it
pub up_shown : (b : Beside) (before : List Entry) (frame : List ℕ) (a q k : ℕ) (state : DeviceState) → IsShown b before frame (fate.Up a q k) state → (a ≡ activation_of before) × (k ≡ ups a q before)
up_shown b before frame a q k Idle h = absurd (cc h)
up_shown b before frame a q k (Active s) h = up_by b before s frame a q k (admits s b.mac frame) h

-- nothing behind these entries lies before what they count
abbrev IsPast : List Entry → ℕ → CameUp → Type 0
IsPast before q u = (activation_of before < u.activation) ⊎ ((activation_of before ≡ u.activation) × (ups u.activation q before ≤ u.place))

pub activation_more : (before : List Entry) (e : Entry) → activation_of before ≤ activation_of (before ++ e ∷ [])
activation_more before e = omega (arith, count-append is_activation before (e ∷ []))

ups_more : (a q : ℕ) (before : List Entry) (e : Entry) → ups a q before ≤ ups a q (before ++ e ∷ [])
ups_more a q before e = let h = ap (count (is_up a q)) (filter_map-append fate_in before (e ∷ [])) in omega (arith, h, count-append (is_up a q) (filter_map fate_in before) (filter_map fate_in (e ∷ [])))

past_less : (q : ℕ) (before : List Entry) (e : Entry) (u : CameUp) → IsPast (before ++ e ∷ []) q u → IsPast before q u
past_less q before e u (inl h) = inl (omega (arith, activation_more before e))
past_less q before e u (inr h) = elim (eqb_tells (activation_of before) u.activation) [
  | inl p ↦ inr (p.1, omega (arith, h.1, ups_more u.activation q before e))
  | inr p ↦ inl (omega (arith, activation_more before e, h.0, p.1))
]

abbrev rx_list : List LinkView → ℕ → ℕ → List Entry → List CameUp
rx_list links port q es = filter (on_rx q) (came_up links port es)

abbrev PlacesRise : List LinkView → ℕ → ℕ → List Entry → List Entry → Type 0
PlacesRise links port q before es = AllByRecursion (IsPast before q) (rx_list links port q es) × Rises LiesBefore (rx_list links port q es)

-- an entry that brings nothing up on the queue
skipped : (links : List LinkView) (port q : ℕ) (before : List Entry) (e : Entry) (es : List Entry) → rx_list links port q (e ∷ es) ≡ rx_list links port q es → PlacesRise links port q (before ++ e ∷ []) es → PlacesRise links port q before (e ∷ es)
skipped links port q before e es same ih = rw same (all_weaker (IsPast (before ++ e ∷ []) q) (IsPast before q) (past_less q before e) (rx_list links port q es) ih.0, ih.1)

lies_before : (q a k from place : ℕ) (p : Packet) (before : List Entry) (u : CameUp) → a ≡ activation_of before → k ≡ ups a q before → IsPast (before ++ entry.In from place (fate.Up a q k) ∷ []) q u → IsBefore a k u.activation u.place
lies_before q a k from place p before u ea ek past = step past
  where
    e : Entry
    e = entry.In from place (fate.Up a q k)

    same : activation_of (before ++ entry.In from place (fate.Up a q k) ∷ []) ≡ a
    same = omega (arith, count-append is_activation before (entry.In from place (fate.Up a q k) ∷ []), ea)

    one : count (is_up a q) (fate.Up a q k ∷ []) ≡ 1
    one = let h : nat_eq a a ≡ true = grind (arith, nat_tests) in let h' : nat_eq q q ≡ true = grind (arith, nat_tests) in rw (h, h') refl

    more : ups a q (before ++ entry.In from place (fate.Up a q k) ∷ []) ≡ ups a q before + 1
    more = ap (count (is_up a q)) (filter_map-append fate_in before (entry.In from place (fate.Up a q k) ∷ [])) ∙ count-append (is_up a q) (filter_map fate_in before) (fate.Up a q k ∷ []) ∙ rw one refl

    step : IsPast (before ++ entry.In from place (fate.Up a q k) ∷ []) q u → IsBefore a k u.activation u.place
    step (inl h) = inl (omega (arith, same))
    step (inr h) =
        let ea' : a ≡ u.activation = sym same ∙ h.0 in
        let le : ups a q (before ++ entry.In from place (fate.Up a q k) ∷ []) ≤ u.place = subst (λ (x : ℕ). ups x q (before ++ entry.In from place (fate.Up a q k) ∷ []) ≤ u.place) (sym ea') h.1 in
        inr (ea', omega (arith, le, more, ek))

came_up_here : (links : List LinkView) (port q : ℕ) (before : List Entry) (from place a q' k : ℕ) (p : Packet) (es : List Entry) → packet_at links from port place ≡ Some p → a ≡ activation_of before → k ≡ ups a q' before →
    PlacesRise links port q (before ++ entry.In from place (fate.Up a q' k) ∷ []) es → PlacesRise links port q before (entry.In from place (fate.Up a q' k) ∷ es)
came_up_here links port q before from place a q' k p es at ea ek ih = elim (eqb_tells q' q) [
  | inl h ↦
      let same : rx_list links port q (entry.In from place (fate.Up a q' k) ∷ es) ≡ record { activation = a; queue = q'; place = k; packet = p } ∷ rx_list links port q es = rw (at, h.0) refl in
      let ek' : k ≡ ups a q before = ek ∙ ap (λ (x : ℕ). ups a x before) h.1 in
      let ih' : PlacesRise links port q (before ++ entry.In from place (fate.Up a q k) ∷ []) es = subst (λ (x : ℕ). PlacesRise links port q (before ++ entry.In from place (fate.Up a x k) ∷ []) es) h.1 ih in
      rw same (
        (inr (sym ea, omega (arith, ek')), all_weaker (IsPast (before ++ entry.In from place (fate.Up a q k) ∷ []) q) (IsPast before q) (past_less q before (entry.In from place (fate.Up a q k))) (rx_list links port q es) ih'.0),
        (all_weaker (IsPast (before ++ entry.In from place (fate.Up a q k) ∷ []) q) (λ u. IsBefore a k u.activation u.place) (λ u past. lies_before q a k from place p before u ea ek' past) (rx_list links port q es) ih'.0, ih'.1),
      )
  | inr h ↦ skipped links port q before (entry.In from place (fate.Up a q' k)) es (rw (at, h.0) refl) ih
]

-- the places on each receive queue rise along the journal
pub places_rise : (b : Beside) (setups : List Setup) (q : ℕ) (before es : List Entry) → EachAfter (IsLawful b setups) before es → PlacesRise b.links b.port q before es
places_rise b setups q before [] h = (tt, tt)
places_rise b setups q before (entry.Setting number answer setup ∷ es) h = skipped b.links b.port q before (entry.Setting number answer setup) es refl (places_rise b setups q (before ++ entry.Setting number answer setup ∷ []) es h.1)
places_rise b setups q before (entry.Out tag target w ∷ es) h = skipped b.links b.port q before (entry.Out tag target w) es refl (places_rise b setups q (before ++ entry.Out tag target w ∷ []) es h.1)
places_rise b setups q before (entry.Lost tag ∷ es) h = skipped b.links b.port q before (entry.Lost tag) es refl (places_rise b setups q (before ++ entry.Lost tag ∷ []) es h.1)
places_rise b setups q before (entry.In from place (fate.Up a q' k) ∷ es) h =
    let shown = up_shown b before h.0.0.frame a q' k (state_at b.told before) h.0.2 in
    came_up_here b.links b.port q before from place a q' k h.0.0 es h.0.1 shown.0 shown.1 (places_rise b setups q (before ++ entry.In from place (fate.Up a q' k) ∷ []) es h.1)
places_rise b setups q before (entry.In from place f ∷ es) h = skipped b.links b.port q before (entry.In from place f) es (rw h.0.1 refl) (places_rise b setups q (before ++ entry.In from place f ∷ []) es h.1)
