-- An action of the script is begun.
use Rattle.std.proofs.Common.{◌≡◌, ℕ, zero, suc, ◌+◌, ◌<◌, ◌≤◌, Bool, true, false, List, [], ◌∷◌, ◌++◌, length, length-append, map, take, drop, refl, ap, sym, ◌∙◌, subst, arith, Some, None, append_assoc, append-nil, add-one, ⊎_elim}
use Rattle.std.specs.List.{AllByRecursion, slice_get, filter}
use Rattle.std.proofs.lemmas.Option.{slice_get_within}
use Rattle.std.proofs.lemmas.List.Elements.{filter-append}
use Rattle.std.specs.Prelude.{not, if◌then◌else◌, ◌⊎◌}
use Rattle.vmx_device_state.specs.SetupView.{SetupView}
use Rattle.vmx_ends.specs.Transmit.{TxDriverView}
use Rattle.vmx_model.specs.declared.deeds.Action.{Action}
use Rattle.vmx_model.specs.declared.deeds.Deed.{Deed}
use Rattle.vmx_model.specs.declared.deeds.Deed.TheVariants as deed
use Rattle.vmx_model.specs.declared.guest.GuestPlan.{GuestPlan}
use Rattle.vmx_model.specs.Deeds.{begins, is_reset, quiet_after, is_quiet}
use Rattle.vmx_model.specs.Lists.{count}
use Rattle.vmx_model.specs.Plan.{changed, deed_commands, deed_asks, after_script, first_setup, activate_dev, quiesce_dev, reset_dev, is_reset_there, ends_by_reset}
use Rattle.vmx_model.specs.QueueSteps.{take_more}
use Rattle.vmx_driver_steps.specs.declared.progress.Then.{Then}
use Rattle.vmx_driver_steps.specs.declared.progress.Then.TheVariants.{Rest, Renew, End}
use Rattle.vmx_driver_steps.specs.declared.progress.Stage.{Stage}
use Rattle.vmx_driver_steps.specs.declared.progress.Stage.TheVariants.{Active, Stopping}
use Rattle.vmx_driver_steps.specs.declared.progress.Progress.{Progress}
use Rattle.vmx_driver_steps.specs.Progress.{in_hand, to_come, is_down_in, begun_actions, actions_left, setup_now, closing, left_in, IsUnderway}
use Rattle.vmx_driver_steps.specs.Driver.{DriverView, Runs}
use Rattle.vmx_driver_steps.specs.Stopping.{MayStop}

drop_here : (xs : List Action) (i : ℕ) (x : Action) → slice_get xs i ≡ Some x → drop i xs ≡ x ∷ drop (i + 1) xs
drop_here xs i x h = rw add-one (here xs i x h)
  where
    here : (xs : List Action) (i : ℕ) (x : Action) → slice_get xs i ≡ Some x → drop i xs ≡ x ∷ drop (suc i) xs
    here [] i x h = absurd (cc h)
    here (y ∷ xs) zero x h = let e : y ≡ x = cc h in ap (λ (z : Action). z ∷ xs) e
    here (y ∷ xs) (suc i) x h = here xs i x h

script_last : (s : SetupView) (acts : List Action) (a : Action) → after_script s (acts ++ a ∷ []) ≡ changed (after_script s acts) a.deed
script_last s [] a = refl
script_last s (x ∷ acts) a = script_last (changed s x.deed) acts a

quiet_last : (q : Bool) (acts : List Action) (a : Action) → is_quiet q (acts ++ a ∷ []) ≡ quiet_after (is_quiet q acts) a.deed
quiet_last q [] a = refl
quiet_last q (x ∷ acts) a = quiet_last (quiet_after q x.deed) acts a

all_last : (P : Action → Type 0) (acts : List Action) (a : Action) → AllByRecursion P acts → P a → AllByRecursion P (acts ++ a ∷ [])
all_last P [] a h p = (p, tt)
all_last P (x ∷ acts) a h p = (h.0, all_last P acts a h.1 p)

-- the action that is due, and the actions after it
pub record ActionDue (p : GuestPlan) (s : Progress) (a : Action) : Type 0 where
  pub there : slice_get p.script s.done ≡ Some a
  pub now : s.next < length p.capture.records → a.at ≤ s.next

module _ (p : GuestPlan) (s : Progress) (a : Action) (d : ActionDue p s a) where
  pub begun_is : take (s.done + 1) p.script ≡ begun_actions p s ++ a ∷ []
  begun_is = take_more p.script s.done a d.there

  pub setup_is : after_script (first_setup p) (take (s.done + 1) p.script) ≡ changed (setup_now p s) a.deed
  setup_is = ap (after_script (first_setup p)) begun_is ∙ script_last (first_setup p) (begun_actions p s) a

  -- its commands are the next, and then those of the others
  pub rest_is : deed_asks (setup_now p s) (actions_left p s) ++ closing p ≡ map (λ (n : ℕ). record { number = n; setup = changed (setup_now p s) a.deed }) (deed_commands a.deed) ++ (deed_asks (after_script (first_setup p) (take (s.done + 1) p.script)) (drop (s.done + 1) p.script) ++ closing p)
  rest_is = ap (λ (acts : List Action). deed_asks (setup_now p s) acts ++ closing p) (drop_here p.script s.done a d.there)
      ∙ append_assoc (map (λ (n : ℕ). record { number = n; setup = changed (setup_now p s) a.deed }) (deed_commands a.deed)) (deed_asks (changed (setup_now p s) a.deed) (drop (s.done + 1) p.script)) (closing p)
      ∙ ap (λ (x : SetupView). map (λ (n : ℕ). record { number = n; setup = changed (setup_now p s) a.deed }) (deed_commands a.deed) ++ (deed_asks x (drop (s.done + 1) p.script) ++ closing p)) (sym setup_is)

  pub reached_is : IsUnderway p s → s.next < length p.capture.records → AllByRecursion (λ (x : Action). x.at ≤ s.next) (take (s.done + 1) p.script)
  reached_is u lt = subst (AllByRecursion (λ (x : Action). x.at ≤ s.next)) (sym begun_is) (all_last (λ (x : Action). x.at ≤ s.next) (begun_actions p s) a (u.reached lt) (d.now lt))

  pub done_is : s.done + 1 ≤ length p.script
  done_is = let lt = slice_get_within p.script s.done a d.there in omega (arith, lt)

-- a scripted quiesce may be sent, where all frames are reaped
pub may_quiesce : (v : DriverView) (s : SetupView) (a : Action) → Runs v s → v.at.stage ≡ Active → v.calls.asked ≡ None → ActionDue v.plan v.at a → a.deed ≡ deed.Quiesce → AllByRecursion (λ (d : TxDriverView). d.reaped ≡ length d.sent) v.tx → MayStop v quiesce_dev Rest (v.at.done + 1)
may_quiesce v s a k on none d is reaped = record {
  active = on;
  none = none;
  order = refl;
  under = record {
    done = done_is v.plan v.at a d;
    next = k.keeps.under.next;
    reached = reached_is v.plan v.at a d k.keeps.under;
    counted = let e = k.keeps.under.counted in let h = ap in_hand on in let c = ap to_come on in let m = same_count in omega (arith, e, h, c, m);
    quiet = λ b e. ap (is_quiet false) (begun_is v.plan v.at a d) ∙ quiet_last false (begun_actions v.plan v.at) a ∙ ap (quiet_after (is_quiet false (begun_actions v.plan v.at))) is ∙ cc e;
    whole = λ e. absurd (cc e);
    closed = λ e. let n = (k.keeps.under.closed e).0 in let lt = slice_get_within v.plan.script v.at.done a d.there in absurd (omega (arith, n, lt));
  };
  same = setup_is v.plan v.at a d ∙ ap (changed (setup_now v.plan v.at)) is;
  left = ap (λ (g : Stage). left_in g (setup_now v.plan v.at) (deed_asks (setup_now v.plan v.at) (actions_left v.plan v.at) ++ closing v.plan)) on ∙ rest_is v.plan v.at a d
      ∙ ap (λ (x : Deed). map (λ (n : ℕ). record { number = n; setup = changed (setup_now v.plan v.at) x }) (deed_commands x) ++ (deed_asks (after_script (first_setup v.plan) (take (v.at.done + 1) v.plan.script)) (drop (v.at.done + 1) v.plan.script) ++ closing v.plan)) is;
  ready = reaped;
}
  where
    picked : (x : Deed) → x ≡ deed.Quiesce → begins x ≡ false
    picked x e = ap begins e

    same_count : count (λ (x : Action). begins x.deed) (take (v.at.done + 1) v.plan.script) ≡ count (λ (x : Action). begins x.deed) (begun_actions v.plan v.at)
    same_count = ap (count (λ (x : Action). begins x.deed)) (begun_is v.plan v.at a d) ∙ ap length (filter-append (λ (x : Action). begins x.deed) (begun_actions v.plan v.at) (a ∷ []))
        ∙ (let b : begins a.deed ≡ false = picked a.deed is in rw b (ap length (append-nil (filter (λ (x : Action). begins x.deed) (begun_actions v.plan v.at)))))

-- ------------------------------------------------------------ a reset, and the closing quiesce

take_drop : {X : Type 0} (n : ℕ) (xs : List X) → take n xs ++ drop n xs ≡ xs
take_drop zero xs = refl
take_drop (suc n) [] = refl
take_drop (suc n) (x ∷ xs) = ap (λ (ys : List _). x ∷ ys) (take_drop n xs)

there_after : {X : Type 0} (xs ys : List X) (x : X) → slice_get (xs ++ x ∷ ys) (length xs) ≡ Some x
there_after [] ys x = refl
there_after (y ∷ xs) ys x = there_after xs ys x

-- the deed that begins the next activation is this one
pub ends_so : (p : GuestPlan) (s : Progress) (a : Action) → slice_get p.script s.done ≡ Some a → a.deed ≡ deed.Reset → s.ended ≡ count (λ (x : Action). begins x.deed) (begun_actions p s) → ends_by_reset p s.ended ≡ true
ends_so p s a there is n =
    let acts : List Action = filter (λ (x : Action). begins x.deed) (begun_actions p s) in
    let rest : List Action = filter (λ (x : Action). begins x.deed) (drop (s.done + 1) p.script) in
    let here : begins a.deed ≡ true = ap begins is in
    let all : filter (λ (x : Action). begins x.deed) p.script ≡ acts ++ a ∷ rest =
    ap (filter (λ (x : Action). begins x.deed)) (sym (take_drop s.done p.script) ∙ ap (λ (xs : List Action). begun_actions p s ++ xs) (drop_here p.script s.done a there))
    ∙ filter-append (λ (x : Action). begins x.deed) (begun_actions p s) (a ∷ drop (s.done + 1) p.script) ∙ rw here refl in
    (λ i. is_reset_there (slice_get (all i) (n i))) ∙ ap is_reset_there (there_after acts rest a) ∙ ap is_reset is

module _ (v : DriverView) (s : SetupView) (a : Action) (k : Runs v s) (on : v.at.stage ≡ Active) (none : v.calls.asked ≡ None) (d : ActionDue v.plan v.at a) (is : a.deed ≡ deed.Reset) where
  begun_more : count (λ (x : Action). begins x.deed) (take (v.at.done + 1) v.plan.script) ≡ count (λ (x : Action). begins x.deed) (begun_actions v.plan v.at) + 1
  begun_more = ap (count (λ (x : Action). begins x.deed)) (begun_is v.plan v.at a d) ∙ ap length (filter-append (λ (x : Action). begins x.deed) (begun_actions v.plan v.at) (a ∷ []))
      ∙ (let b : begins a.deed ≡ true = ap begins is in rw b (length-append (filter (λ (x : Action). begins x.deed) (begun_actions v.plan v.at)) (a ∷ [])))

  same_setup : setup_now v.plan (record v.at { stage = Stopping Renew; done = v.at.done + 1 }) ≡ setup_now v.plan v.at
  same_setup = setup_is v.plan v.at a d ∙ ap (changed (setup_now v.plan v.at)) is

  -- a scripted reset may be sent at once
  pub may_reset : MayStop v reset_dev Renew (v.at.done + 1)
  may_reset = record {
    active = on;
    none = none;
    order = refl;
    under = record {
      done = done_is v.plan v.at a d;
      next = k.keeps.under.next;
      reached = reached_is v.plan v.at a d k.keeps.under;
      counted = let e = k.keeps.under.counted in let h = ap in_hand on in let c = ap to_come on in let m = begun_more in omega (arith, e, h, c, m);
      quiet = λ b e. ap (is_quiet false) (begun_is v.plan v.at a d) ∙ quiet_last false (begun_actions v.plan v.at) a ∙ ap (quiet_after (is_quiet false (begun_actions v.plan v.at))) is ∙ k.keeps.under.quiet false (ap is_down_in on) ∙ cc e;
      whole = λ e. absurd (cc e);
      closed = λ e. let n = (k.keeps.under.closed e).0 in let lt = slice_get_within v.plan.script v.at.done a d.there in absurd (omega (arith, n, lt));
    };
    same = same_setup;
    left = ap (λ (g : Stage). left_in g (setup_now v.plan v.at) (deed_asks (setup_now v.plan v.at) (actions_left v.plan v.at) ++ closing v.plan)) on ∙ rest_is v.plan v.at a d
        ∙ ap (λ (x : Deed). map (λ (n : ℕ). record { number = n; setup = changed (setup_now v.plan v.at) x }) (deed_commands x) ++ (deed_asks (after_script (first_setup v.plan) (take (v.at.done + 1) v.plan.script)) (drop (v.at.done + 1) v.plan.script) ++ closing v.plan)) is
        ∙ ap (λ (x : SetupView). record { number = reset_dev; setup = setup_now v.plan v.at } ∷ record { number = activate_dev; setup = x } ∷ (deed_asks (after_script (first_setup v.plan) (take (v.at.done + 1) v.plan.script)) (drop (v.at.done + 1) v.plan.script) ++ closing v.plan)) (sym same_setup);
    ready = ends_so v.plan v.at a d.there is (let e = k.keeps.under.counted in let h = ap in_hand on in let c = ap to_come on in omega (arith, e, h, c));
  }

take_all : {X : Type 0} (xs : List X) → take (length xs) xs ≡ xs
take_all [] = refl
take_all (x ∷ xs) = ap (λ (ys : List _). x ∷ ys) (take_all xs)

drop_all : {X : Type 0} (xs : List X) → drop (length xs) xs ≡ []
drop_all [] = refl
drop_all (x ∷ xs) = drop_all xs

-- a driver that was closed may send the last quiesce, where all frames are reaped
pub may_close : (v : DriverView) (s : SetupView) → Runs v s → v.at.stage ≡ Active → v.calls.asked ≡ None → v.at.closed ≡ true → AllByRecursion (λ (d : TxDriverView). d.reaped ≡ length d.sent) v.tx → MayStop v quiesce_dev End v.at.done
may_close v s k on none shut reaped = record {
  active = on;
  none = none;
  order = refl;
  under = record {
    done = k.keeps.under.done;
    next = k.keeps.under.next;
    reached = k.keeps.under.reached;
    counted = let e = k.keeps.under.counted in let h = ap in_hand on in let c = ap to_come on in omega (arith, e, h, c);
    quiet = λ b e. absurd (cc e);
    whole = λ e. k.keeps.under.closed shut;
    closed = k.keeps.under.closed;
  };
  same = refl;
  left = ap (λ (g : Stage). left_in g (setup_now v.plan v.at) (deed_asks (setup_now v.plan v.at) (actions_left v.plan v.at) ++ closing v.plan)) on
      ∙ ap (λ (acts : List Action). deed_asks (setup_now v.plan v.at) acts ++ closing v.plan) none_left
      ∙ ap (λ (b : Bool). if not b then record { number = quiesce_dev; setup = after_script (first_setup v.plan) v.plan.script } ∷ [] else []) quiet
      ∙ ap (λ (acts : List Action). record { number = quiesce_dev; setup = after_script (first_setup v.plan) acts } ∷ []) (sym all_begun);
  ready = reaped;
}
  where
    all_begun : take v.at.done v.plan.script ≡ v.plan.script
    all_begun = ap (λ (n : ℕ). take n v.plan.script) (k.keeps.under.closed shut).0 ∙ take_all v.plan.script

    none_left : drop v.at.done v.plan.script ≡ []
    none_left = ap (λ (n : ℕ). drop n v.plan.script) (k.keeps.under.closed shut).0 ∙ drop_all v.plan.script

    quiet : is_quiet false v.plan.script ≡ false
    quiet = ap (is_quiet false) (sym all_begun) ∙ k.keeps.under.quiet false (ap is_down_in on)

-- ------------------------------------------------------------ which stop is due

-- A quiesce that closes, one of the script, or a reset of the script; before a quiesce all frames are reaped.
abbrev pub Closes : DriverView → ℕ → Then → ℕ → Type 0
Closes v number t done = (number ≡ quiesce_dev) × (t ≡ End) × (done ≡ v.at.done) × (v.at.closed ≡ true) × AllByRecursion (λ (d : TxDriverView). d.reaped ≡ length d.sent) v.tx

abbrev pub Quiesces : DriverView → ℕ → Then → ℕ → Type 0
Quiesces v number t done = (a : Action) × (number ≡ quiesce_dev) × (t ≡ Rest) × (done ≡ v.at.done + 1) × ActionDue v.plan v.at a × (a.deed ≡ deed.Quiesce) × AllByRecursion (λ (d : TxDriverView). d.reaped ≡ length d.sent) v.tx

abbrev pub Resets : DriverView → ℕ → Then → ℕ → Type 0
Resets v number t done = (a : Action) × (number ≡ reset_dev) × (t ≡ Renew) × (done ≡ v.at.done + 1) × ActionDue v.plan v.at a × (a.deed ≡ deed.Reset)

pub record StopDue (v : DriverView) (number : ℕ) (t : Then) (done : ℕ) : Type 0 where
  pub active : v.at.stage ≡ Active
  pub none : v.calls.asked ≡ None
  pub which : Closes v number t done ⊎ Quiesces v number t done ⊎ Resets v number t done

pub may_stop : (v : DriverView) (s : SetupView) (number : ℕ) (t : Then) (done : ℕ) → Runs v s → StopDue v number t done → MayStop v number t done
may_stop v s number t done k d = ⊎_elim
    (λ (c : Closes v number t done). subst (λ (x : ℕ × Then × ℕ). MayStop v x.0 x.1 x.2) (λ i. (sym c.0 i, sym c.1 i, sym c.2 i)) (may_close v s k d.active d.none c.3 c.4))
    (λ (r : Quiesces v number t done ⊎ Resets v number t done). ⊎_elim
    (λ (c : Quiesces v number t done). subst (λ (x : ℕ × Then × ℕ). MayStop v x.0 x.1 x.2) (λ i. (sym c.1 i, sym c.2 i, sym c.3 i)) (may_quiesce v s c.0 k d.active d.none c.4 c.5 c.6))
    (λ (c : Resets v number t done). subst (λ (x : ℕ × Then × ℕ). MayStop v x.0 x.1 x.2) (λ i. (sym c.1 i, sym c.2 i, sym c.3 i)) (may_reset v s c.0 k d.active d.none c.4 c.5))
    r)
    d.which
