-- A driver before its first act, and one that posts a frame.
use Rattle.std.proofs.Common.{◌≡◌, ℕ, zero, suc, ◌+◌, ◌<◌, ◌≤◌, Bool, true, false, ◌&&◌, List, [], ◌∷◌, ◌++◌, length, map, get_or, set, refl, ap, sym, ◌∙◌, subst, arith, Option, Some, None, All}
use Rattle.std.proofs.lemmas.List.{length-map}
use Rattle.std.specs.Prelude.{option_map}
use Rattle.std.specs.List.{slice_get}
use Rattle.vmx_pcap.specs.declared.records.Stamped.{Stamped}
use Rattle.vmx_device_state.specs.SetupView.{SetupView}
use Rattle.vmx_ends.specs.Transmit.{TxDriverView}
use Rattle.vmx_ends.specs.declared.answers.Post.TheVariants.{Done as Posted_}
use Rattle.vmx_ends.specs.TransmitClauses.{Posts}
use Rattle.vmx_regs.specs.declared.known.Calls.{Calls}
use Rattle.vmx_regs.specs.declared.known.Masks.{Masks}
use Rattle.vmx_ends.specs.Frames.{sent_as}
use Rattle.vmx_ends.specs.declared.frames.Sent.{Sent}
use Rattle.vmx_model.specs.declared.guest.GuestPlan.{GuestPlan}
use Rattle.vmx_model.specs.declared.deeds.Action.{Action}
use Rattle.vmx_model.specs.Totals.{records_of}
use Rattle.vmx_model.specs.Plan.{first_setup}
use Rattle.vmx_model.specs.PlanSteps.{place_low}
use Rattle.vmx_model.specs.QueueSteps.{sent_before}
use Rattle.vmx_model.specs.Wire.{tx_queue, posted_form}
use Rattle.vmx_driver_steps.specs.declared.progress.Progress.{Progress}
use Rattle.vmx_driver_steps.specs.Progress.{IsUnderway, passes_by, is_later, setup_now}
use Rattle.vmx_driver_steps.specs.Driver.{DriverView, Keeps, Runs, SendsPlan, posted_as}
use Rattle.vmx_driver_steps.specs.Driving.{new_driver, new_progress, PostsNext}
use Rattle.vmx_driver_steps.specs.Dues.{FrameDue}
use Rattle.vmx_driver_steps.specs.Hints.{index_of, rung_tx}
use Rattle.vmx_driver_steps.specs.Queues.{PostsThere, IsSmallTx}
use Rattle.vmx_driver_steps.specs.Each.{each_at}
use Rattle.vmx_driver_steps.specs.Keeping.{posts, moves}

settled_by : (p : GuestPlan) (a : Option Action) (o : Option Stamped) → passes_by p new_progress a o ≡ false
settled_by p a None = refl
settled_by p a (Some r) = step (is_later 0 a)
  where
    step : (b : Bool) → (b && false) ≡ false
    step true = refl
    step false = refl

-- one guest's capture is no longer than all of them
pub short_enough : (gs : List GuestPlan) (g : ℕ) (p : GuestPlan) → slice_get gs g ≡ Some p → length p.capture.records ≤ records_of gs
short_enough [] g p h = let none : None ≡ Some (length p.capture.records) = ap (option_map (λ (y : GuestPlan). length y.capture.records)) h in absurd (cc none)
short_enough (x ∷ gs) zero p h = let some : Some (length x.capture.records) ≡ Some (length p.capture.records) = ap (option_map (λ (y : GuestPlan). length y.capture.records)) h in let e : length x.capture.records ≡ length p.capture.records = cc some in omega (arith, e)
short_enough (x ∷ gs) (suc g) p h = let r = short_enough gs g p h in omega (arith, r)

pub starts : (g : ℕ) (p : GuestPlan) (key : List ℕ) (calls : Calls) (masks : Masks) → calls.turns ≡ [] → calls.asked ≡ None → length p.capture.records ≤ 262144 → 16 < calls.interrupts → Runs (new_driver g p key calls masks) (first_setup p)
starts g p key calls masks turns asked short interrupts = record {
  keeps = record {
    under = record { done = omega arith; next = omega arith; reached = λ lt. tt; counted = refl; quiet = λ b e. cc e; whole = λ e. absurd (cc e); closed = λ e. absurd (cc e) };
    tx_count = refl;
    rx_count = refl;
    tx = tt;
    rx = tt;
    held = (refl, refl);
    parting = tt;
    commands = record {
      sent = rw (turns, asked) refl;
      zero = rw turns tt;
      leads = rw (turns, asked) (refl, refl);
      gives = asked;
    };
    bags = [];
    bags_are = refl;
    gifts_are = rw turns refl;
    got_back = (refl, refl);
    tx_names = refl;
    rx_names = refl;
    tx_facts = tt;
    rx_facts = tt;
    owned = tt;
    rising = tt;
    none_yet = λ a q le. refl;
  };
  settled = settled_by p (slice_get p.script 0) (slice_get p.capture.records 0);
  setup = refl;
  short = short;
  interrupts = interrupts;
}

-- the next frame is posted
pub posts_runs : (v : DriverView) (s : SetupView) (at' : Progress) (m' : Masks) (tx' : List TxDriverView) → Runs v s → FrameDue v.plan v.at → PostsThere v.plan v.calls.interrupts v.at v.masks v.tx at' m' tx' → Runs (record v { at = at'; tx = tx' }) s
posts_runs v s at' m' tx' k due t =
    let frame_is : t.frame ≡ due.record_.frame = (t.there due.record_ due.there).0 in
    let marked : sent_as due.record_.frame t.mark ≡ posted_form v.plan due.record_.frame = ap (λ (f : List ℕ). sent_as f t.mark) (sym frame_is) ∙ (t.there due.record_ due.there).1 in
    let q_is : tx_queue t.frame v.plan.setup.tx_queues ≡ tx_queue due.record_.frame v.plan.setup.tx_queues = ap (λ (f : List ℕ). tx_queue f v.plan.setup.tx_queues) frame_is in
    let told : Posts t.end due.record_.frame t.mark (Posted_ t.place) t.end' = subst (λ (f : List ℕ). Posts t.end f t.mark (Posted_ t.place) t.end') frame_is t.told in
    let once = posts v k.keeps due.record_ due.there due.later due.active due.fit t.end t.end' t.mark t.place
    (subst (λ (n : ℕ). t.end ≡ get_or v.tx n t.end) q_is t.at) (subst (λ (n : ℕ). n < length v.tx) q_is t.below) marked told t.grows in
    let under : IsUnderway v.plan (record v.at { next = at'.next }) = subst (IsUnderway v.plan) t.kept t.under in
    let then_ = moves (record v { at = record v.at { next = v.at.next + 1 }; tx = set v.tx (tx_queue due.record_.frame v.plan.setup.tx_queues) t.end' }) at'.next once under t.frames in
    let tx_is : set v.tx (tx_queue due.record_.frame v.plan.setup.tx_queues) t.end' ≡ tx' = ap (λ (n : ℕ). set v.tx n t.end') (sym q_is) ∙ sym t.is in record {
      keeps = subst (λ (x : Progress × List TxDriverView). Keeps (record v { at = x.0; tx = x.1 })) (λ i. (sym t.kept i, tx_is i)) then_;
      settled = t.settled;
      setup = k.setup ∙ ap (λ (x : Progress). setup_now v.plan x) (sym t.kept);
      short = k.short;
      interrupts = k.interrupts;
    }

pub posts_next : (v : DriverView) (at' : Progress) (m' : Masks) (tx' : List TxDriverView) (key' : List ℕ) (calls' : Calls) → FrameDue v.plan v.at → key' ≡ v.key → calls' ≡ v.calls → PostsThere v.plan v.calls.interrupts v.at v.masks v.tx at' m' tx' → PostsNext v (record v { at = at'; key = key'; calls = calls'; masks = m'; tx = tx' })
posts_next v at' m' tx' key' calls' due key calls t =
    let f : t.frame ≡ due.record_.frame = (t.there due.record_ due.there).0 in
    let q : tx_queue t.frame v.plan.setup.tx_queues ≡ tx_queue due.record_.frame v.plan.setup.tx_queues = ap (λ (x : List ℕ). tx_queue x v.plan.setup.tx_queues) f in
    let end_is : t.end' ≡ record t.end { sent = t.end.sent ++ posted_form v.plan due.record_.frame ∷ [] } = t.told.2 ∙ ap (λ (x : Sent). record t.end { sent = t.end.sent ++ x ∷ [] }) (t.there due.record_ due.there).1 in
    let tx_is : tx' ≡ set v.tx (tx_queue due.record_.frame v.plan.setup.tx_queues) (record t.end { sent = t.end.sent ++ posted_form v.plan due.record_.frame ∷ [] }) =
    t.is ∙ (λ i. set v.tx (q i) (end_is i)) in
    let bell_is : m' ≡ rung_tx v.calls.interrupts (tx_queue due.record_.frame v.plan.setup.tx_queues) (index_of (length t.end.sent + 1)) v.masks = t.bell ∙ ap (λ (n : ℕ). rung_tx v.calls.interrupts n (index_of (length t.end.sent + 1)) v.masks) q in record {
      frame = due.record_;
      there = due.there;
      end = t.end;
      at = subst (λ (n : ℕ). t.end ≡ get_or v.tx n t.end) q t.at;
      is = λ i. record v { at = t.kept i; key = key i; calls = calls i; masks = bell_is i; tx = tx_is i };
      over = record { up = t.up; none = t.frames };
    }

short_list : (p : GuestPlan) (a q n : ℕ) → length (map posted_as (sent_before p a q n)) ≤ n
short_list p a q n = let low = place_low p a q n in let one = length-map (sent_before p a q n) posted_as in omega (arith, low, one)

-- there is room for numbers
pub all_small : (v : DriverView) (s : SetupView) → Runs v s → All IsSmallTx v.tx
all_small v s k i d lt =
    let h = each_at (SendsPlan v.guest v.plan v.at.ended v.at.next) 0 v.tx i d lt k.keeps.tx in
    let n = short_list v.plan v.at.ended (0 + i) v.at.next in let len = ap length h.sent in let few = h.posted in let next = k.keeps.under.next in let short = k.short in
    (omega (arith, n, len, next, short), omega (arith, n, len, next, short, few))
