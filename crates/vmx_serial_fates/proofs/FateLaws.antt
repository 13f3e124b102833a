-- The fates of copies, one step at a time.
use Rattle.std.proofs.Common.{◌≡◌, ℕ, zero, suc, ◌+◌, ◌<◌, ◌≤◌, List, [], ◌∷◌, ◌++◌, length, map, take, get_or, refl, sym, ap, subst, ◌∙◌, arith, Option, Some, None}
use Rattle.std.specs.List.{slice_get, flat_map}
use Rattle.std.proofs.lemmas.List.{take_more, flat_map_more}
use Rattle.vmx_pcap.specs.declared.records.Stamped.{Stamped}
use Rattle.vmx_model.specs.declared.guest.GuestPlan.{GuestPlan}
use Rattle.vmx_model.specs.declared.plan.Plan.{Plan}
use Rattle.vmx_model.specs.declared.journal.Fate.{Fate}
use Rattle.vmx_model.specs.declared.sending.Sending.{Sending}
use Rattle.vmx_model.specs.declared.sending.Sending.TheVariants as sending
use Rattle.vmx_model.specs.Plan.{Captured, captured, wire, verdict_on}
use Rattle.vmx_model.specs.Views.{RecordView}
use Rattle.vmx_model.specs.Wire.{targets, posted_form, wire_form}
use Rattle.vmx_model.specs.Totals.{wiring, records_of}
use Rattle.vmx_model.specs.Fates.{sent_fates, tag_at, verdict_fates, fates_of}
use Rattle.vmx_serial_seats.specs.declared.seat.Seat.{Seat}
use Rattle.vmx_serial_seats.specs.Seats.{seat_of}
use Rattle.vmx_serial_fates.specs.Fates.{guest_facts}
use Rattle.vmx_model.specs.Turns.{IsVerdict}
use Rattle.vmx_model.proofs.Sends.{captured_is, verdict_at}

-- the facts of the guest at a port, and of a port without one
pub facts_there : (ss : List Seat) (i : ℕ) (s : Seat) → i < length ss → s ≡ get_or ss i s → slice_get (map guest_facts (map seat_of ss)) i ≡ Some (guest_facts (seat_of s))
facts_there [] i s lt is = absurd (omega arith)
facts_there (x ∷ xs) zero s lt is = ap (λ (y : Seat). Some (guest_facts (seat_of y))) (sym is)
facts_there (x ∷ xs) (suc i) s lt is = facts_there xs i s (omega arith) is

pub facts_past : (ss : List Seat) (i : ℕ) → length ss ≤ i → slice_get (map guest_facts (map seat_of ss)) i ≡ None
facts_past [] i le = refl
facts_past (x ∷ xs) zero le = absurd (omega arith)
facts_past (x ∷ xs) (suc i) le = facts_past xs i (omega arith)

first_least : (a b : ℕ) → a ≤ a + b
first_least a b = omega arith

rest_least : (a b c : ℕ) → c ≤ b → c ≤ a + b
rest_least a b c h = omega arith

abbrev or_first : GuestPlan → Option GuestPlan → GuestPlan
or_first d None = d
or_first d (Some g) = g

pub records_get : (gs : List GuestPlan) (i : ℕ) (g : GuestPlan) → slice_get gs i ≡ Some g → length g.capture.records ≤ records_of gs
records_get [] i g at = absurd (cc at)
records_get (h ∷ hs) zero g at =
    subst (λ (x : GuestPlan). length x.capture.records ≤ length h.capture.records + records_of hs) (ap (or_first h) at) (first_least (length h.capture.records) (records_of hs))
records_get (h ∷ hs) (suc i) g at = rest_least (length h.capture.records) (records_of hs) (length g.capture.records) (records_get hs i g at)

module _ (plan : Plan) (r : RecordView) (g : ℕ) (p : GuestPlan) where
  -- a frame that is not sent has one fate
  pub idle_fates : (n : ℕ) (c : Captured) (s : Sending) (f : Fate) (old new : List (List Fate)) (one : List Fate) → n < length p.capture.records → IsVerdict p n s → slice_get (captured p) n ≡ Some c → new ≡ old ++ one ∷ [] → one ≡ f ∷ []
      → verdict_fates plan r g (wire c) s ≡ (f ∷ []) ∷ [] → new ≡ old ++ fates_of plan r g p c
  idle_fates n c s f old new one lt is at push e idle = push ∙ ap (λ (x : List Fate). old ++ x ∷ []) e ∙ ap (λ (xs : List (List Fate)). old ++ xs) (sym idle ∙ ap (verdict_fates plan r g (wire c)) (verdict_at p n c s lt is at))

  -- one that is sent has those of its copies
  pub sent_on_fates : (n : ℕ) (c : Captured) (record_ : Stamped) (a q k : ℕ) (frame tos : List ℕ) (old new : List (List Fate)) → slice_get p.capture.records n ≡ Some record_ → IsVerdict p n (sending.Sent a q k) → slice_get (captured p) n ≡ Some c
      → frame ≡ wire_form (posted_form p record_.frame) → tos ≡ targets (wiring plan.guests) g frame → new ≡ old ++ sent_fates r (tag_at g a q k) tos → new ≡ old ++ fates_of plan r g p c
  sent_on_fates n c record_ a q k frame tos old new at is there_ same aim e =
      let framed : frame ≡ wire c = same ∙ ap wire (sym (captured_is p n c record_ there_ at)) in
      let verdict : sending.Sent a q k ≡ verdict_on p c = is record_ at ∙ ap (verdict_on p) (sym (captured_is p n c record_ there_ at)) in
      e ∙ ap (λ (ts : List ℕ). old ++ sent_fates r (tag_at g a q k) ts) (aim ∙ ap (targets (wiring plan.guests) g) framed) ∙ ap (λ (s : Sending). old ++ verdict_fates plan r g (wire c) s) verdict

-- one captured frame more
pub fates_next : (f : Captured → List (List Fate)) (cs : List Captured) (n : ℕ) (old now new : List (List Fate)) → n < length cs → now ≡ old ++ flat_map f (take n cs) → ((c : Captured) → slice_get cs n ≡ Some c → new ≡ now ++ f c) → new ≡ old ++ flat_map f (take (n + 1) cs)
fates_next f cs n old now new lt was step = let found = some_at cs n lt in
    step found.0 found.1.0 ∙ ap (λ (xs : List (List Fate)). xs ++ f found.0) was ∙ flat_map_more f old (take n cs) found.0
    ∙ ap (λ (c : Captured). old ++ flat_map f (take n cs ++ c ∷ [])) found.1.1 ∙ ap (λ (xs : List Captured). old ++ flat_map f xs) (sym (take_more cs n found.0 lt))
  where
    some_at : (xs : List Captured) (i : ℕ) → i < length xs → (x : Captured) × ((slice_get xs i ≡ Some x) × (x ≡ get_or xs i x))
    some_at [] i lt = absurd (omega arith)
    some_at (y ∷ ys) zero lt = (y, (refl, refl))
    some_at (y ∷ ys) (suc i) lt = some_at ys i (omega arith)
