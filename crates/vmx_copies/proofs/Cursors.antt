-- The queue of a frame that is sent: its list, and where its cursor stands.
use Rattle.std.proofs.Common.{◌≡◌, ℕ, ◌+◌, ◌*◌, ◌<◌, ◌≤◌, List, [], length, get_or, set, ap, sym, ◌∙◌, arith, Some}
use Rattle.std.specs.List.{slice_get}
use Rattle.std.proofs.lemmas.List.{get_or_default}
use Rattle.vmx_layout.specs.declared.register.TheConstants.{MAX_QUEUES}
use Rattle.vmx_pcap.specs.declared.records.Stamped.{Stamped}
use Rattle.vmx_model.specs.declared.guest.GuestPlan.{GuestPlan}
use Rattle.vmx_model.specs.declared.journal.Entry.{Entry}
use Rattle.vmx_model.specs.declared.sending.Sending.{Sending}
use Rattle.vmx_model.specs.declared.sending.Sending.TheVariants as sending
use Rattle.vmx_model.specs.Plan.{captured_as, verdict_on}
use Rattle.vmx_model.specs.Account.{activations}
use Rattle.vmx_model.proofs.Sends.{some_there}
use Rattle.vmx_buckets.specs.declared.sends.Switched.{Switched}
use Rattle.vmx_buckets.specs.Buckets.{key, at_key, switched_on, HasSwitched}
use Rattle.vmx_copies.specs.Join.{AreInOrder, IsInOrder, IsPassed, before}
use Rattle.vmx_copies.proofs.Verdict.{sent_parts}
use Rattle.vmx_copies.proofs.Steps.{there_is, key_within, PassesBy, passed_next}

-- the list of a queue
list_of : (es : List Entry) (count : ℕ) (lists : List (List Switched)) (a q n : ℕ) (x : List Switched) → HasSwitched es count lists → n ≡ key a q → q < MAX_QUEUES → key a q < count → x ≡ get_or lists n x → x ≡ switched_on a q es
list_of es count lists a q n x h e low lt at =
    let long = h.long in
    at ∙ ap (λ (m : ℕ). get_or lists m x) e ∙ get_or_default lists (key a q) x [] (omega (arith, lt, long)) ∙ h.each a q low lt

module _ (p : GuestPlan) (es : List Entry) (i : ℕ) (s : Sending) (lt : i < length p.capture.records) (is : (r : Stamped) → slice_get p.capture.records i ≡ Some r → s ≡ verdict_on p (captured_as p i r)) where
  -- one frame on
  pub passed_on : (old new : List ℕ) (x : Sending) → s ≡ x → PassesBy es old new x → IsPassed p es i old → IsPassed p es (i + 1) new
  passed_on old new x e h was = let r = some_there p.capture.records i lt in passed_next p es i r.0 r.1 old new was x (sym e ∙ is r.0 r.1) h

  module _ (a q k : ℕ) (e : s ≡ sending.Sent a q k) where
    pub sent_key : (q < MAX_QUEUES) × (key a q < (length p.script + 1) * MAX_QUEUES)
    sent_key = let r = some_there p.capture.records i lt in key_within p (captured_as p i r.0) a q k (sym e ∙ is r.0 r.1)

    sent_there : (a < activations p) × (q < p.setup.tx_queues)
    sent_there = let r = some_there p.capture.records i lt in there_is p (captured_as p i r.0) a q k (sym e ∙ is r.0 r.1)

    pub sent_header : (r : Stamped) → slice_get p.capture.records i ≡ Some r → 14 ≤ length r.frame
    sent_header r at = (sent_parts p (captured_as p i r) a q k (sym e ∙ is r at)).3

    pub sent_list : (lists : List (List Switched)) (n : ℕ) (x : List Switched) → HasSwitched es ((length p.script + 1) * MAX_QUEUES) lists → n ≡ key a q → x ≡ get_or lists n x → x ≡ switched_on a q es
    sent_list lists n x h on at = list_of es ((length p.script + 1) * MAX_QUEUES) lists a q n x h on sent_key.0 sent_key.1 at

    pub sent_order : AreInOrder p es → IsInOrder (switched_on a q es)
    sent_order ord = ord a q sent_there.0 sent_there.1

    -- where its cursor stands
    pub sent_cursor : (old : List ℕ) (n begun : ℕ) → length old ≡ (length p.script + 1) * MAX_QUEUES → n ≡ key a q → begun ≡ get_or old n begun → IsPassed p es i old → begun ≡ length (before k (switched_on a q es))
    sent_cursor old n begun long on at was =
        let r = some_there p.capture.records i lt in
        let place = (sent_parts p (captured_as p i r.0) a q k (sym e ∙ is r.0 r.1)).2 in
        let within = sent_key.1 in
        at ∙ ap (λ (m : ℕ). get_or old m begun) on ∙ get_or_default old (key a q) begun 0 (omega (arith, within, long)) ∙ was.each a q sent_there.0 sent_there.1
        ∙ ap (λ (m : ℕ). length (before m (switched_on a q es))) (sym place)

    -- and behind the frame
    pub sent_passes : (old : List ℕ) (n end : ℕ) → length old ≡ (length p.script + 1) * MAX_QUEUES → n ≡ key a q → end ≡ length (before (k + 1) (switched_on a q es)) → IsPassed p es i old → IsPassed p es (i + 1) (set old n end)
    sent_passes old n end long on is_end was =
        let within = sent_key.1 in
        passed_on old (set old n end) (sending.Sent a q k) e (omega (arith, within, long), (λ j. set old (on j) (is_end j))) was
