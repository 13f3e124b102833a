-- One element of a list is replaced.
use Rattle.std.proofs.Common.{◌≡◌, ◌≢◌, ℕ, zero, suc, ◌+◌, ◌<◌, Bool, List, [], ◌∷◌, length, set, get_or, refl, sym, ap, ◌∙◌, Option, Some, None, if◌then◌else◌, inl, inr}
use Rattle.std.specs.Option.{option_map}
use Rattle.std.specs.List.{slice_get}
use Rattle.std.proofs.lemmas.Bool.Decides.{eqb_tells}
use Rattle.std.proofs.lemmas.List.{get_or-set_same, get_or-set_other}
use Rattle.vmx_device_laws.proofs.Pairing.{get_set_other}
use Rattle.vmx_driver_steps.specs.declared.progress.Progress.{Progress}
use Rattle.vmx_replay_worlds.specs.Guests.{GuestView}
use Rattle.vmx_replay_worlds.proofs.Lists.{get_set, get_map}
use Rattle.vmx_replay_runs.specs.Runs.{one_more}
use Rattle.vmx_replay_calls.specs.Results.{progress_of}
use Rattle.vmx_replay_actors.specs.Runs.{done_in, passed_of, reached_of}

-- what stands where an element was replaced is the new one
pub set_only : {X : Type 0} (xs : List X) (n : ℕ) (y z : X) → slice_get (set xs n y) n ≡ Some z → z ≡ y
set_only [] n y z e = absurd (cc e)
set_only (x ∷ xs) zero y z e = cc e
set_only (x ∷ xs) (suc n) y z e = set_only xs n y z e

-- ------------------------------------------------------------ numbers by port

pub number_else : (ns : List ℕ) (port h v : ℕ) → h ≢ port → get_or (set ns port v) h 0 ≡ get_or ns h 0
number_else ns port h v ne = get_or-set_other ns port h v 0 ne

pub number_here : (ns : List ℕ) (port v : ℕ) → port < length ns → get_or (set ns port v) port 0 ≡ v
number_here ns port v lt = get_or-set_same ns port v 0 lt

-- a count by port that is one more at a port, and else the same
more_by : (port : ℕ) (old new : ℕ → ℕ) → new port ≡ old port + 1 → ((h : ℕ) → h ≢ port → new h ≡ old h) → (h : ℕ) → new h ≡ one_more port old h
more_by port old new here else_ h = elim (eqb_tells h port) [
  | inl same ↦ ap new same.1 ∙ here ∙ ap (λ (k : ℕ). old k + 1) (sym same.1) ∙ sym (ap (λ (b : Bool). if b then old h + 1 else old h) same.0)
  | inr away ↦ else_ h away.1 ∙ sym (ap (λ (b : Bool). if b then old h + 1 else old h) away.0)
]

pub more_is : (port : ℕ) (old new : ℕ → ℕ) → new port ≡ old port + 1 → ((h : ℕ) → h ≢ port → new h ≡ old h) → new ≡ one_more port old
more_is port old new here else_ = λ i h. more_by port old new here else_ h i

-- the number to which a guest has come
pub passed_more : (ns : List ℕ) (port number : ℕ) → port < length ns → get_or ns port 0 ≡ number → passed_of (set ns port (number + 1)) ≡ one_more port (passed_of ns)
passed_more ns port number lt is = more_is port (passed_of ns) (passed_of (set ns port (number + 1))) (number_here ns port (number + 1) lt ∙ ap (λ (k : ℕ). k + 1) (sym is)) (λ h ne. number_else ns port h (number + 1) ne)

-- ------------------------------------------------------------ actions by port

abbrev done_at : Option Progress → ℕ
done_at None = 0
done_at (Some s) = s.done

done_is : (o : Option GuestView) → done_in o ≡ done_at (option_map (λ (r : GuestView). r.driver.at) o)
done_is None = refl
done_is (Some r) = refl

by_progress : (rs : List GuestView) (h : ℕ) → done_in (slice_get rs h) ≡ done_at (slice_get (progress_of rs) h)
by_progress rs h = done_is (slice_get rs h) ∙ ap done_at (sym (get_map (λ (r : GuestView). r.driver.at) rs h))

module _ (rs rs' : List GuestView) where
  -- the drivers are as far as they were
  pub reached_same : progress_of rs' ≡ progress_of rs → reached_of rs' ≡ reached_of rs
  reached_same e = λ i h. (by_progress rs' h ∙ ap (λ (ps : List Progress). done_at (slice_get ps h)) e ∙ sym (by_progress rs h)) i

  -- or one of them is where it is now
  module _ (port : ℕ) (x : GuestView) (s : Progress) (at : slice_get rs port ≡ Some x) (e : progress_of rs' ≡ set (progress_of rs) port s) where
    progress_there : slice_get (progress_of rs) port ≡ Some x.driver.at
    progress_there = get_map (λ (r : GuestView). r.driver.at) rs port ∙ ap (option_map (λ (r : GuestView). r.driver.at)) at

    now_here : done_in (slice_get rs' port) ≡ s.done
    now_here = by_progress rs' port ∙ ap (λ (ps : List Progress). done_at (slice_get ps port)) e ∙ ap done_at (get_set (progress_of rs) port x.driver.at s progress_there)

    was_here : done_in (slice_get rs port) ≡ x.driver.at.done
    was_here = ap done_in at

    now_else : (h : ℕ) → h ≢ port → done_in (slice_get rs' h) ≡ done_in (slice_get rs h)
    now_else h ne = by_progress rs' h ∙ ap (λ (ps : List Progress). done_at (slice_get ps h)) e ∙ ap done_at (get_set_other (progress_of rs) port s h ne) ∙ sym (by_progress rs h)

    pub reached_more : s.done ≡ x.driver.at.done + 1 → reached_of rs' ≡ one_more port (reached_of rs)
    reached_more more = more_is port (reached_of rs) (reached_of rs') (now_here ∙ more ∙ ap (λ (k : ℕ). k + 1) (sym was_here)) now_else

    kept_by : s.done ≡ x.driver.at.done → (h : ℕ) → done_in (slice_get rs' h) ≡ done_in (slice_get rs h)
    kept_by same h = elim (eqb_tells h port) [
      | inl here ↦ ap (λ (k : ℕ). done_in (slice_get rs' k)) here.1 ∙ now_here ∙ same ∙ sym was_here ∙ ap (λ (k : ℕ). done_in (slice_get rs k)) (sym here.1)
      | inr away ↦ now_else h away.1
    ]

    pub reached_kept : s.done ≡ x.driver.at.done → reached_of rs' ≡ reached_of rs
    reached_kept same = λ i h. kept_by same h i
