-- The device is told another filter or another indirection table.
use Rattle.std.proofs.Common.{◌≡◌, ℕ, zero, suc, ◌+◌, Bool, true, false, true≢false, List, [], ◌∷◌, ◌++◌, length, map, take, drop, refl, ap, sym, ◌∙◌, subst, arith, Option, Some, None, append-nil}
use Rattle.std.specs.Prelude.{option_map, unwrap_or, is_some}
use Rattle.std.specs.List.{slice_get, filter}
use Rattle.std.proofs.lemmas.Bool.{and_parts}
use Rattle.std.proofs.lemmas.Option.{slice_get_within}
use Rattle.std.proofs.lemmas.List.Elements.{filter-append}
use Rattle.vmx_shared_area.specs.Layout.{image_of}
use Rattle.vmx_shared_area.specs.ReadsBack.{image_reads}
use Rattle.vmx_shared_area.specs.declared.rss.Rss.{Rss as RssSetting}
use Rattle.vmx_shared_area.specs.declared.setup.Setup.{Setup}
use Rattle.vmx_device_state.specs.SetupView.{SetupView, RssView, rss_view, setup_view}
use Rattle.vmx_device_state.specs.DeviceState as state
use Rattle.vmx_device_state.specs.ImageSetup.{image_setup}
use Rattle.vmx_device_state.specs.Orders.{order_of}
use Rattle.vmx_device_state.specs.Taken.{mode_taken, macs_taken, vlans_taken, table_taken}
use Rattle.vmx_device_state.specs.declared.order.Order.TheVariants.{Stop, Update}
use Rattle.vmx_device_state.specs.declared.order.Part.{Part}
use Rattle.vmx_device_state.specs.declared.order.Part.TheVariants.{Mode, Macs, Vlans, Table}
use Rattle.vmx_device_state.specs.declared.turn.CommandView.{CommandView}
use Rattle.vmx_model.specs.declared.deeds.Action.{Action}
use Rattle.vmx_model.specs.declared.deeds.Deed.{Deed}
use Rattle.vmx_model.specs.declared.deeds.Deed.TheVariants as deed
use Rattle.vmx_model.specs.declared.guest.GuestPlan.{GuestPlan}
use Rattle.vmx_model.specs.Deeds.{begins, quiet_after, is_quiet}
use Rattle.vmx_model.specs.Lists.{count}
use Rattle.vmx_model.specs.Plan.{Ask, changed, new_table, deed_commands, deed_asks, after_script, first_setup, update_rx_mode, update_mac_filters, update_vlan_filters, update_rssidt}
use Rattle.vmx_model.specs.QueueSteps.{sent_before}
use Rattle.vmx_model.specs.Ranges.{fits_deed, fits_from, is_within, is_in_turn}
use Rattle.vmx_driver_steps.specs.declared.progress.Stage.{Stage}
use Rattle.vmx_driver_steps.specs.declared.progress.Stage.TheVariants.{Fresh, Active, Stopping, Held, Quiet, Ended}
use Rattle.vmx_driver_steps.specs.declared.progress.Progress.{Progress}
use Rattle.vmx_driver_steps.specs.Progress.{begun_actions, actions_left, setup_now, asks_left, closing, left_in, passes, IsUnderway}
use Rattle.vmx_driver_steps.specs.Driver.{DriverView, Keeps, Runs, Leads, GivesBack, ask_by, state_in, held_in, other_ends}
use Rattle.vmx_driver_steps.specs.Sending.{says, update_leads}
use Rattle.vmx_driver_steps.specs.Making.{queues_stay}
use Rattle.vmx_driver_steps.specs.Asking.{Waits, waits_free, sends}
use Rattle.vmx_driver_steps.specs.Keeping.{moves}
use Rattle.vmx_driver_steps.specs.Acting.{ActionDue, begun_is, setup_is, rest_is, reached_is, done_is}

-- a deed that the device is told by an update
abbrev pub is_update : Deed → Bool
is_update deed.Quiesce = false
is_update deed.Activate = false
is_update deed.Reset = false
is_update (deed.Mode m) = true
is_update (deed.Multicast t) = true
is_update (deed.Vlans t) = true
is_update (deed.Rss n t) = true

-- the number of its command; 0 for other deeds
abbrev pub update_number : Deed → ℕ
update_number deed.Quiesce = 0
update_number deed.Activate = 0
update_number deed.Reset = 0
update_number (deed.Mode m) = update_rx_mode
update_number (deed.Multicast t) = update_mac_filters
update_number (deed.Vlans t) = update_vlan_filters
update_number (deed.Rss n t) = update_rssidt

-- what it changes
update_part : Deed → Part
update_part deed.Quiesce = Mode
update_part deed.Activate = Mode
update_part deed.Reset = Mode
update_part (deed.Mode m) = Mode
update_part (deed.Multicast t) = Macs
update_part (deed.Vlans t) = Vlans
update_part (deed.Rss n t) = Table

order_is : (d : Deed) → is_update d ≡ true → order_of (update_number d) ≡ Update (update_part d)
unfolding update_part
order_is deed.Quiesce e = absurd (true≢false (sym e))
order_is deed.Activate e = absurd (true≢false (sym e))
order_is deed.Reset e = absurd (true≢false (sym e))
order_is (deed.Mode m) e = refl
order_is (deed.Multicast t) e = refl
order_is (deed.Vlans t) e = refl
order_is (deed.Rss n t) e = refl

-- ------------------------------------------------------------ RSS

-- deeds keep whether there is an RSS setting
rss_stays : (s : SetupView) (acts : List Action) → is_some (after_script s acts).rss ≡ is_some s.rss
rss_stays s [] = refl
rss_stays s (a ∷ rest) = rss_stays (changed s a.deed) rest ∙ step a.deed
  where
    table_stays : (n : ℕ) (t : List ℕ) (o : Option RssView) → is_some (new_table n t o) ≡ is_some o
    table_stays n t None = refl
    table_stays n t (Some r) = refl

    step : (d : Deed) → is_some (changed s d).rss ≡ is_some s.rss
    step deed.Quiesce = refl
    step deed.Activate = refl
    step deed.Reset = refl
    step (deed.Mode m) = refl
    step (deed.Multicast t) = refl
    step (deed.Vlans t) = refl
    step (deed.Rss n t) = table_stays n t s.rss

-- an action of a script fits
fits_at : (queues : ℕ) (rss quiet : Bool) (at : ℕ) (script : List Action) → fits_from queues rss quiet at script ≡ true → (i : ℕ) (a : Action) → slice_get script i ≡ Some a → fits_deed queues rss a.deed ≡ true
fits_at queues rss quiet at [] h i a e = absurd (cc e)
fits_at queues rss quiet at (x ∷ rest) h zero a e = let same : x ≡ a = cc e in subst (λ (y : Action). fits_deed queues rss y.deed ≡ true) same (and_parts _ _ (and_parts _ _ h).1).0
fits_at queues rss quiet at (x ∷ rest) h (suc i) a e =
    let tail : fits_from queues rss (quiet_after quiet x.deed) x.at rest ≡ true = (and_parts (is_in_turn quiet x.deed) _ (and_parts (fits_deed queues rss x.deed) _ (and_parts (is_within at 262144 x.at) _ h).1).1).1 in
    fits_at queues rss (quiet_after quiet x.deed) x.at rest tail i a e

fits_any : (queues : ℕ) (rss : Bool) (d : Deed) → fits_deed queues rss d ≡ true → fits_deed queues true d ≡ true
fits_any queues rss deed.Quiesce h = refl
fits_any queues rss deed.Activate h = refl
fits_any queues rss deed.Reset h = refl
fits_any queues rss (deed.Mode m) h = h
fits_any queues rss (deed.Multicast t) h = h
fits_any queues rss (deed.Vlans t) h = refl
fits_any queues true (deed.Rss n t) h = h
fits_any queues false (deed.Rss n t) h = absurd (cc h)

-- the deed that is due fits a setup with as many receive queues
pub deed_fits : (p : GuestPlan) (i : ℕ) (a : Action) (queues : ℕ) → slice_get p.script i ≡ Some a → queues ≡ p.setup.rx_queues → fits_deed queues true a.deed ≡ true
deed_fits p i a queues there same = ap (λ (n : ℕ). fits_deed n true a.deed) same ∙ fits_any p.setup.rx_queues _ a.deed (fits_at p.setup.rx_queues _ false 0 p.script p.script_fits i a there)

-- a deed on RSS comes only where there is an RSS setting
has_rss : (p : GuestPlan) (s : Progress) (a : Action) (n : ℕ) (t : List ℕ) → slice_get p.script s.done ≡ Some a → a.deed ≡ deed.Rss n t → is_some (setup_now p s).rss ≡ true
has_rss p s a n t there is =
    let fits = fits_at p.setup.rx_queues (is_some p.setup.rss) false 0 p.script p.script_fits s.done a there in
    let on : is_some p.setup.rss ≡ true = (and_parts (is_some p.setup.rss) _ (ap (fits_deed p.setup.rx_queues (is_some p.setup.rss)) (sym is) ∙ fits)).0 in
    rss_stays (first_setup p) (begun_actions p s) ∙ seen p.setup.rss ∙ on
  where
    seen : (o : Option RssSetting) → is_some (option_map rss_view o) ≡ is_some o
    seen None = refl
    seen (Some r) = refl

-- ------------------------------------------------------------ what the device takes

the_rss : (o : Option RssSetting) (r : RssView) → option_map rss_view o ≡ Some r → (q : RssSetting) × (o ≡ Some q) × (rss_view q ≡ r)
the_rss None r e = absurd (cc e)
the_rss (Some q) r e = (q, refl, cc e)

some_rss : (o : Option RssView) → is_some o ≡ true → (r : RssView) × (o ≡ Some r)
some_rss None e = absurd (true≢false (sym e))
some_rss (Some r) e = (r, refl)

-- an active device takes what the deed changed
taken : (d : Deed) (old : SetupView) (s : Setup) → is_update d ≡ true → setup_view s ≡ changed old d → old.rx_queues ≡ s.rx_queues → ((n : ℕ) (t : List ℕ) → d ≡ deed.Rss n t → is_some old.rss ≡ true) → state.updated (update_part d) old (image_of s) ≡ Some (changed old d)
unfolding update_part
taken deed.Quiesce old s u is same rss = absurd (true≢false (sym u))
taken deed.Activate old s u is same rss = absurd (true≢false (sym u))
taken deed.Reset old s u is same rss = absurd (true≢false (sym u))
taken (deed.Mode m) old s u is same rss = mode_taken old (image_of s) s (image_reads s) ∙ ap (λ (x : SetupView). Some (record old { mode = x.mode })) is
taken (deed.Multicast t) old s u is same rss = macs_taken old (image_of s) s (image_reads s) ∙ ap (λ (x : SetupView). Some (record old { macs = x.macs })) is
taken (deed.Vlans t) old s u is same rss = vlans_taken old (image_of s) s (image_reads s) ∙ ap (λ (x : SetupView). Some (record old { vlans = x.vlans })) is
taken (deed.Rss n t) old s u is same rss =
    let r = some_rss old.rss (rss n t refl) in
    let told : option_map rss_view s.rss ≡ Some (record (r.0) { size = n; table = t }) = ap (λ (x : SetupView). x.rss) is ∙ ap (new_table n t) r.1 in
    let q = the_rss s.rss (record (r.0) { size = n; table = t }) told in
    table_taken old r.0 (image_of s) s q.0 (image_reads s) same r.1 q.1
    ∙ ap (λ (x : RssView). Some (record old { rss = Some (record (r.0) { size = x.size; table = x.table }) })) q.2
    ∙ ap (λ (o : Option RssView). Some (record old { rss = new_table n t o })) (sym r.1)

-- ------------------------------------------------------------ the step

-- an update begins nothing, and leaves the guest as it is
no_begin : (d : Deed) → is_update d ≡ true → begins d ≡ false
no_begin deed.Quiesce e = refl
no_begin deed.Activate e = absurd (true≢false (sym e))
no_begin deed.Reset e = absurd (true≢false (sym e))
no_begin (deed.Mode m) e = refl
no_begin (deed.Multicast t) e = refl
no_begin (deed.Vlans t) e = refl
no_begin (deed.Rss n t) e = refl

no_quiet : (q : Bool) (d : Deed) → is_update d ≡ true → quiet_after q d ≡ q
no_quiet q deed.Quiesce e = absurd (true≢false (sym e))
no_quiet q deed.Activate e = absurd (true≢false (sym e))
no_quiet q deed.Reset e = absurd (true≢false (sym e))
no_quiet q (deed.Mode m) e = refl
no_quiet q (deed.Multicast t) e = refl
no_quiet q (deed.Vlans t) e = refl
no_quiet q (deed.Rss n t) e = refl

one_command : (d : Deed) → is_update d ≡ true → deed_commands d ≡ update_number d ∷ []
one_command deed.Quiesce e = absurd (true≢false (sym e))
one_command deed.Activate e = absurd (true≢false (sym e))
one_command deed.Reset e = absurd (true≢false (sym e))
one_command (deed.Mode m) e = refl
one_command (deed.Multicast t) e = refl
one_command (deed.Vlans t) e = refl
one_command (deed.Rss n t) e = refl

quiet_last : (q : Bool) (acts : List Action) (a : Action) → is_quiet q (acts ++ a ∷ []) ≡ quiet_after (is_quiet q acts) a.deed
quiet_last q [] a = refl
quiet_last q (x ∷ acts) a = quiet_last (quiet_after q x.deed) acts a

-- what is in hand and to come does not rest on the numbers
left_is : (g : Stage) → Waits g → (s t : SetupView) (rest : List Ask) → left_in g s rest ≡ rest
left_is Active w s t rest = refl
left_is Quiet w s t rest = refl
left_is Fresh w s t rest = absurd w
left_is (Stopping x) w s t rest = absurd w
left_is (Held x) w s t rest = absurd w
left_is Ended w s t rest = absurd w

-- an update may be sent
pub record MayUpdate (v : DriverView) (s : Setup) (a : Action) : Type 0 where
  pub waits : Waits v.at.stage
  pub none : v.calls.asked ≡ None
  pub due : ActionDue v.plan v.at a
  pub deed : is_update a.deed ≡ true
  pub setup : setup_view s ≡ changed (setup_now v.plan v.at) a.deed

module _ (v : DriverView) (old : SetupView) (s : Setup) (a : Action) (k : Runs v old) (m : MayUpdate v s a) where
  abbrev then_at : Progress
  then_at = record v.at { done = v.at.done + 1 }

  setup_then : setup_now v.plan then_at ≡ setup_view s
  setup_then = setup_is v.plan v.at a m.due ∙ sym m.setup

  under_then : IsUnderway v.plan then_at
  under_then = record {
    done = done_is v.plan v.at a m.due;
    next = k.keeps.under.next;
    reached = reached_is v.plan v.at a m.due k.keeps.under;
    counted = let e = k.keeps.under.counted in let n = as_many in omega (arith, e, n);
    quiet = λ b e. ap (is_quiet false) (begun_is v.plan v.at a m.due) ∙ quiet_last false (begun_actions v.plan v.at) a ∙ no_quiet (is_quiet false (begun_actions v.plan v.at)) a.deed m.deed ∙ k.keeps.under.quiet b e;
    whole = λ e. let n = (k.keeps.under.whole e).0 in let lt = slice_get_within v.plan.script v.at.done a m.due.there in absurd (omega (arith, n, lt));
    closed = λ e. let n = (k.keeps.under.closed e).0 in let lt = slice_get_within v.plan.script v.at.done a m.due.there in absurd (omega (arith, n, lt));
  }
    where
      as_many : count (λ (x : Action). begins x.deed) (take (v.at.done + 1) v.plan.script) ≡ count (λ (x : Action). begins x.deed) (begun_actions v.plan v.at)
      as_many = ap (count (λ (x : Action). begins x.deed)) (begun_is v.plan v.at a m.due) ∙ ap length (filter-append (λ (x : Action). begins x.deed) (begun_actions v.plan v.at) (a ∷ []))
          ∙ (let b : begins a.deed ≡ false = no_begin a.deed m.deed in rw b (ap length (append-nil (filter (λ (x : Action). begins x.deed) (begun_actions v.plan v.at)))))

  pub under_update : IsUnderway v.plan (record v.at { done = v.at.done + 1 })
  under_update = under_then

  same_queues : (setup_now v.plan v.at).rx_queues ≡ s.rx_queues
  same_queues = (queues_stay (first_setup v.plan) (begun_actions v.plan v.at)).1 ∙ sym (queues_stay (first_setup v.plan) (take (v.at.done + 1) v.plan.script)).1 ∙ ap (λ (x : SetupView). x.rx_queues) setup_then

  module _ (c : CommandView) (number : c.number ≡ update_number a.deed) (image : c.image ≡ image_of s) (ends : c.ends ≡ None) where
    taken_is : state.updated (update_part a.deed) (setup_now v.plan v.at) c.image ≡ Some (setup_view s)
    taken_is = ap (state.updated (update_part a.deed) (setup_now v.plan v.at)) image ∙ taken a.deed (setup_now v.plan v.at) s m.deed m.setup same_queues (λ n t e. has_rss v.plan v.at a n t m.due.there e) ∙ ap Some (sym m.setup)

    leads_then : (g : Stage) → Waits g → Leads v.calls.turns None (state_in g (setup_now v.plan v.at)) (held_in g (other_ends v.tx v.rx)) → Leads v.calls.turns (Some c) (state_in g (setup_view s)) (held_in g (other_ends v.tx v.rx))
    leads_then Active w l = update_leads v.calls.turns (state.Active (setup_now v.plan v.at)) (state.Active (setup_view s)) (Some (other_ends v.tx v.rx)) (update_part a.deed) c l (ap order_of number ∙ order_is a.deed m.deed)
        (ap (state.taken_or (state.check_of (update_part a.deed))) taken_is) (ap (λ (o : Option SetupView). state.Active (unwrap_or o (setup_now v.plan v.at))) taken_is)
    leads_then Quiet w l = update_leads v.calls.turns state.Idle state.Idle None (update_part a.deed) c l (ap order_of number ∙ order_is a.deed m.deed) refl refl
    leads_then Fresh w l = absurd w
    leads_then (Stopping t) w l = absurd w
    leads_then (Held t) w l = absurd w
    leads_then Ended w l = absurd w

    no_stop : order_of c.number ≡ Stop → ⊥
    no_stop e = absurd (cc (sym (ap order_of number ∙ order_is a.deed m.deed) ∙ e))

    gives_then : (g : Stage) → Waits g → GivesBack g v.calls.turns (Some c) (other_ends v.tx v.rx)
    gives_then Active w = no_stop
    gives_then Quiet w = no_stop
    gives_then Fresh w = absurd w
    gives_then (Stopping t) w = absurd w
    gives_then (Held t) w = absurd w
    gives_then Ended w = absurd w

    led : Leads v.calls.turns None (state_in v.at.stage (setup_now v.plan v.at)) (held_in v.at.stage (other_ends v.tx v.rx))
    led = subst (λ (o : Option CommandView). Leads v.calls.turns o (state_in v.at.stage (setup_now v.plan v.at)) (held_in v.at.stage (other_ends v.tx v.rx))) m.none k.keeps.commands.leads

    ask_is : record { number = update_number a.deed; setup = changed (setup_now v.plan v.at) a.deed } ≡ ask_by c
    ask_is = λ i. record { number = sym number i; setup = (sym m.setup ∙ sym (says s) ∙ ap image_setup (sym image)) i }

    left_then : asks_left v.plan v.at ≡ ask_by c ∷ asks_left v.plan then_at
    left_then = left_is v.at.stage m.waits (setup_now v.plan v.at) (setup_now v.plan v.at) (deed_asks (setup_now v.plan v.at) (actions_left v.plan v.at) ++ closing v.plan) ∙ rest_is v.plan v.at a m.due
        ∙ ap (λ (ns : List ℕ). map (λ (n : ℕ). record { number = n; setup = changed (setup_now v.plan v.at) a.deed }) ns ++ (deed_asks (setup_now v.plan then_at) (drop (v.at.done + 1) v.plan.script) ++ closing v.plan)) (one_command a.deed m.deed)
        ∙ (λ i. ask_is i ∷ sym (left_is v.at.stage m.waits (setup_now v.plan then_at) (setup_now v.plan then_at) (deed_asks (setup_now v.plan then_at) (drop (v.at.done + 1) v.plan.script) ++ closing v.plan)) i)

    pub updates_keep : Keeps (record v { at = record v.at { done = v.at.done + 1 }; calls = record v.calls { asked = Some c } })
    updates_keep = sends v v.at.stage (v.at.done + 1) c k.keeps m.none under_then left_then
        (subst (λ (x : SetupView). Leads v.calls.turns (Some c) (state_in v.at.stage x) (held_in v.at.stage (other_ends v.tx v.rx))) (sym setup_then) (leads_then v.at.stage m.waits led))
        (gives_then v.at.stage m.waits) (λ n. refl) refl (waits_free v.at.stage m.waits) (waits_free v.at.stage m.waits) k.keeps.parting

    -- the update is sent, and frames that are not sent are passed over
    pub updates_run : (at' : Progress) → at' ≡ record v.at { done = v.at.done + 1; next = at'.next } → IsUnderway v.plan at' → passes v.plan at' ≡ false → ((x q : ℕ) → sent_before v.plan x q at'.next ≡ sent_before v.plan x q v.at.next)
        → Runs (record v { at = at'; calls = record v.calls { asked = Some c } }) (setup_view s)
    updates_run at' is under settled frames =
        let next_ = moves (record v { at = record v.at { done = v.at.done + 1 }; calls = record v.calls { asked = Some c } }) at'.next updates_keep (subst (IsUnderway v.plan) is under) frames in record {
          keeps = subst (λ (x : Progress). Keeps (record v { at = x; calls = record v.calls { asked = Some c } })) (sym is) next_;
          settled = settled;
          setup = sym setup_then ∙ ap (setup_now v.plan) (sym is);
          short = k.short;
          interrupts = k.interrupts;
        }

    pub update_told : (at' : Progress) → at' ≡ record v.at { done = v.at.done + 1; next = at'.next } → image_setup c.image ≡ setup_now v.plan at'
    update_told at' is = ap image_setup image ∙ says s ∙ sym setup_then ∙ ap (setup_now v.plan) (sym is)
