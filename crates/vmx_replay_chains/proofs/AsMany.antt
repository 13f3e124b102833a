-- The numbers of guests stay over the calls on frames and commands, and links stay in.
use Rattle.std.proofs.Common.{◌≡◌, ℕ, true, true≢false, List, length, refl, sym, ◌∙◌}
use Rattle.vmx_driver_steps.specs.declared.progress.Due.{Due}
use Rattle.vmx_driver_steps.specs.declared.progress.Due.TheVariants as due
use Rattle.vmx_replay_due.specs.Standing.{is_frame}
use Rattle.vmx_replay_worlds.specs.Guests.{GuestView}
use Rattle.vmx_replay_settled.specs.Linked.{HasLinksIn}
use Rattle.vmx_replay_chains.specs.Chains.{SendsOn, LooksOn, AnswersOn, devices_of}
use Rattle.vmx_replay_chains.proofs.Stays.{acts_links, turns_links, long_on}
use Rattle.vmx_replay_chains.proofs.Told.{links_told, long_told, long_link}

pub sends_long : (port : ℕ) (rs rs' : List GuestView) → SendsOn port rs rs' → length rs' ≡ length rs
sends_long port rs rs' s = long_told port s.turned rs' s.links ∙ long_on port _ s.posted s.turned s.turns ∙ long_on port _ rs s.posted s.posts

pub looks_long : (from to : ℕ) (rs rs' : List GuestView) → LooksOn from to rs rs' → length rs' ≡ length rs
looks_long from to rs rs' s = long_told to s.turned rs' s.links ∙ long_on to _ s.told s.turned s.turns ∙ long_link from to rs s.told s.tells

pub answers_long : (port : ℕ) (rs rs' : List GuestView) → AnswersOn port rs rs' → length rs' ≡ length rs
answers_long port rs rs' a = long_on port _ a.told rs' a.acts ∙ long_told port a.turned a.told a.links ∙ long_on port _ rs a.turned a.turns

pub answers_links : (port : ℕ) (rs rs' : List GuestView) → AnswersOn port rs rs' → HasLinksIn port (devices_of rs) → HasLinksIn port (devices_of rs')
answers_links port rs rs' a h = acts_links port a.told rs' a.acts (links_told port a.turned a.told a.links (turns_links port rs a.turned a.turns h))

-- where the frame of a number is due, a frame is due
pub frame_is : (n : ℕ) (d : Due) → is_frame n d ≡ true → (i : ℕ) × (d ≡ due.Frame i)
frame_is n (due.Frame i) e = (i, refl)
frame_is n (due.Action at) e = absurd (true≢false (sym e))
frame_is n due.Nothing e = absurd (true≢false (sym e))
frame_is n due.Activate e = absurd (true≢false (sym e))
frame_is n due.Answer e = absurd (true≢false (sym e))
frame_is n due.Meet e = absurd (true≢false (sym e))
frame_is n due.Close e = absurd (true≢false (sym e))
