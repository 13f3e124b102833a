-- What came up, one entry longer, and while commands and packets are added: for the invariants of a device.
use Rattle.std.proofs.Common.{◌≡◌, ℕ, ◌≤◌, List, [], ◌∷◌, ◌++◌, length, refl, ap, ◌∙◌, sym, arith, append-nil, append_assoc, Option, Some, None}
use Rattle.std.specs.List.{filter_map}
use Rattle.std.proofs.lemmas.List.Elements.{filter_map-append}
use Rattle.vmx_model.specs.declared.journal.Entry.TheVariants as entry
use Rattle.vmx_model.specs.declared.journal.Fate.TheVariants as fate
use Rattle.vmx_model.specs.Types.{Entry, Setup}
use Rattle.vmx_model.specs.Lists.{EachAfter, count}
use Rattle.vmx_model.specs.Meta.{Arrival}
use Rattle.vmx_model.specs.Journal.{Beside, IsLawful, is_setting, state_at, packet_at, needs, need_in, fate_in}
use Rattle.vmx_model.specs.Order.{CameUp, came_up, up_in}
use Rattle.vmx_model.specs.Account.{deliveries, arrival_in}
use Rattle.vmx_model.specs.JournalSteps.{Extends, told_taken, fewer}

-- one entry more
pub deliveries_push : (b : Beside) (a q : ℕ) (before es : List Entry) (e : Entry) → deliveries b a q before (es ++ e ∷ []) ≡ deliveries b a q before es ++ arrival_in b a q (before ++ es) e
deliveries_push b a q before [] e = append-nil (arrival_in b a q before e) ∙ ap (λ (xs : List Entry). arrival_in b a q xs e) (sym (append-nil before))
deliveries_push b a q before (x ∷ es) e =
    ap (λ (xs : List Arrival). arrival_in b a q before x ++ xs) (deliveries_push b a q (before ++ x ∷ []) es e ∙ ap (λ (xs : List Entry). deliveries b a q (before ++ x ∷ []) es ++ arrival_in b a q xs e) (append_assoc before (x ∷ []) es))
    ∙ sym (append_assoc (arrival_in b a q before x) (deliveries b a q (before ++ x ∷ []) es) (arrival_in b a q (before ++ x ∷ es) e))

pub needs_push : (a q : ℕ) (es : List Entry) (e : Entry) → needs a q (es ++ e ∷ []) ≡ needs a q es ++ needs a q (e ∷ [])
needs_push a q es e = ap (filter_map (need_in a q)) (filter_map-append fate_in es (e ∷ [])) ∙ filter_map-append (need_in a q) (filter_map fate_in es) (filter_map fate_in (e ∷ []))

-- a lawful entry brings up the same while commands and packets are added
arrival_grows : (old new : Beside) → Extends old new → (setups : List Setup) (a q : ℕ) (before : List Entry) (e : Entry) → count is_setting (before ++ e ∷ []) ≤ length old.told → IsLawful old setups before e → arrival_in new a q before e ≡ arrival_in old a q before e
arrival_grows old new x setups a q before (entry.Setting number answer setup) le h = refl
arrival_grows old new x setups a q before (entry.Out tag target w) le h = refl
arrival_grows old new x setups a q before (entry.Lost tag) le h = refl
arrival_grows old new x setups a q before (entry.In from place (fate.Up activation queue k)) le h =
    let at : packet_at old.links from old.port place ≡ Some h.0 = h.1 in
    let at' : packet_at new.links from new.port place ≡ Some h.0 = x.links from place h.0 h.1 in
    let state : state_at new.told before ≡ state_at old.told before = told_taken old new x before (entry.In from place (fate.Up activation queue k)) le in
    rw (at, at', state) refl
arrival_grows old new x setups a q before (entry.In from place f) le h = refl

pub deliveries_grow : (old new : Beside) → Extends old new → (setups : List Setup) (a q : ℕ) (before es : List Entry) → count is_setting (before ++ es) ≤ length old.told → EachAfter (IsLawful old setups) before es → deliveries new a q before es ≡ deliveries old a q before es
deliveries_grow old new x setups a q before [] le h = refl
deliveries_grow old new x setups a q before (e ∷ es) le h =
    let here : count is_setting (before ++ e ∷ []) ≤ length old.told = omega (arith, le, fewer before e es) in
    let rest : count is_setting ((before ++ e ∷ []) ++ es) ≤ length old.told = rw (append_assoc before (e ∷ []) es) le in
    λ i. arrival_grows old new x setups a q before e here h.0 i ++ deliveries_grow old new x setups a q (before ++ e ∷ []) es rest h.1 i

pub came_up_push : (b : Beside) (es : List Entry) (e : Entry) → came_up b.links b.port (es ++ e ∷ []) ≡ came_up b.links b.port es ++ came_up b.links b.port (e ∷ [])
came_up_push b es e = filter_map-append (up_in b.links b.port) es (e ∷ [])

came_grows : (old new : Beside) → Extends old new → (setups : List Setup) (before : List Entry) (e : Entry) → IsLawful old setups before e → up_in new.links new.port e ≡ up_in old.links old.port e
came_grows old new x setups before (entry.Setting number answer setup) h = refl
came_grows old new x setups before (entry.Out tag target w) h = refl
came_grows old new x setups before (entry.Lost tag) h = refl
came_grows old new x setups before (entry.In from place f) h =
    let at : packet_at old.links from old.port place ≡ Some h.0 = h.1 in
    let at' : packet_at new.links from new.port place ≡ Some h.0 = x.links from place h.0 h.1 in
    rw (at, at') refl

pub came_up_grows : (old new : Beside) → Extends old new → (setups : List Setup) (before es : List Entry) → EachAfter (IsLawful old setups) before es → came_up new.links new.port es ≡ came_up old.links old.port es
came_up_grows old new x setups before [] h = refl
came_up_grows old new x setups before (e ∷ es) h = step (up_in old.links old.port e) refl (came_up_grows old new x setups (before ++ e ∷ []) es h.1)
  where
    same : up_in new.links new.port e ≡ up_in old.links old.port e
    same = came_grows old new x setups before e h.0

    step : (o : Option CameUp) → up_in old.links old.port e ≡ o → came_up new.links new.port es ≡ came_up old.links old.port es → came_up new.links new.port (e ∷ es) ≡ came_up old.links old.port (e ∷ es)
    step None k ih = let k' : up_in new.links new.port e ≡ None = same ∙ k in rw (k, k') ih
    step (Some u) k ih = let k' : up_in new.links new.port e ≡ Some u = same ∙ k in rw (k, k', ih) refl
