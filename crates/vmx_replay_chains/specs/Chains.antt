-- What the calls of the actors do to the guests, step by step.
use Rattle.std.specs.Prelude.{◌≡◌, ◌≤◌, ℕ, Bool, true, false, not, ◌&&◌, nat_lt, List, [], ◌∷◌, map, length, Option, Some, None, slice_get, slice_set, is_some}
use Rattle.std.specs.List.{AllByRecursion}
use Rattle.vmx_model.specs.declared.journal.Entry.{Entry}
use Rattle.vmx_device_laws.specs.Views.{DeviceView}
use Rattle.vmx_driver_steps.specs.declared.progress.Due.{Due}
use Rattle.vmx_driver_steps.specs.declared.progress.Due.TheVariants as due
use Rattle.vmx_driver_steps.specs.Driver.{DriverView, Keeps as DriverKeeps}
use Rattle.vmx_driver_steps.specs.Progress.{due_of, is_over}
use Rattle.vmx_driver.specs.declared.driver.Act.{Act}
use Rattle.vmx_driver.specs.Acts.{Acts}
use Rattle.vmx_driver.specs.Stocked.{IsClosable, closed_as}
use Rattle.vmx_actor_laws.specs.Joint.{AreCaughtUp}
use Rattle.vmx_replay_worlds.specs.Guests.{GuestView}
use Rattle.vmx_replay_settled.specs.Settled.{ArePaired, ActsSettled, TurnsSettled, PollsSettled, PostsSettled, Settles, BothKeep}
use Rattle.vmx_replay_settled.specs.Linked.{LinkPassedOn, LinksPassedTo}

-- the devices of guests, and their drivers
abbrev pub devices_of : List GuestView → List DeviceView
devices_of rs = map (λ (r : GuestView). r.device) rs

abbrev pub drivers_of : List GuestView → List DriverView
drivers_of rs = map (λ (r : GuestView). r.driver) rs

-- the guest at a port changed, and no other
pub record ChangesOn (port : ℕ) (P : GuestView → GuestView → Type 0) (rs rs' : List GuestView) : Type 0 where
  pub before : GuestView
  pub after : GuestView
  pub at : slice_get rs port ≡ Some before
  pub does : P before after
  pub keeps : BothKeep after.driver after.device
  pub is : rs' ≡ slice_set rs port after

-- the two actors at a port, each of whose ends heard as many notes as it gave, with few entries and commands behind them
pub record IsPairedOn (entries commands port : ℕ) (rs : List GuestView) : Type 0 where
  pub guest : GuestView
  pub at : slice_get rs port ≡ Some guest
  pub paired : ArePaired guest.driver guest.device
  pub entries_ : length guest.device.entries ≤ entries
  pub commands_ : length guest.device.calls.served ≤ commands

-- the two sides of the registers at a port know the same commands, and none is outstanding
pub record IsAlikeOn (port : ℕ) (rs : List GuestView) : Type 0 where
  pub guest : GuestView
  pub at : slice_get rs port ≡ Some guest
  pub alike : AreCaughtUp guest.driver guest.device

-- both actors of each guest have one pair of registers, and each end heard as many notes as it gave
abbrev pub AllPaired : List GuestView → Type 0
AllPaired rs = AllByRecursion (λ (r : GuestView). ArePaired r.driver r.device) rs

-- its driver acted, or its device had a turn
abbrev pub ActsOn : ℕ → List GuestView → List GuestView → Type 0
ActsOn port rs rs' = ChangesOn port (λ (r r' : GuestView). (a : Act) × ActsSettled r.driver r.device a r'.driver r'.device) rs rs'

abbrev pub TurnsOn : ℕ → List GuestView → List GuestView → Type 0
TurnsOn port rs rs' = ChangesOn port (λ (r r' : GuestView). TurnsSettled r.driver r.device r'.driver r'.device) rs rs'

abbrev pub PostsOn : ℕ → List GuestView → List GuestView → Type 0
PostsOn port rs rs' = ChangesOn port (λ (r r' : GuestView). (a : Act) × PostsSettled r.driver r.device a r'.driver r'.device) rs rs'

abbrev pub PollsOn : ℕ → ℕ → List GuestView → List GuestView → Type 0
PollsOn port n rs rs' = ChangesOn port (λ (r r' : GuestView). PollsSettled r.driver r.device n r'.driver r'.device) rs rs'

-- notes went both ways over all links to it, or over one
pub record LinksOn (port : ℕ) (rs rs' : List GuestView) : Type 0 where
  pub devices : LinksPassedTo port (devices_of rs) (devices_of rs')
  pub drivers : drivers_of rs' ≡ drivers_of rs

pub record LinkOn (from to : ℕ) (rs rs' : List GuestView) : Type 0 where
  pub devices : LinkPassedOn from to (devices_of rs) (devices_of rs')
  pub drivers : drivers_of rs' ≡ drivers_of rs

-- ------------------------------------------------------------ a frame goes out, a packet comes in

-- the driver acted where a frame is due, and the device had a turn
pub record SendsOn (port : ℕ) (rs rs' : List GuestView) : Type 0 where
  pub posted : List GuestView
  pub posts : PostsOn port rs posted
  pub turned : List GuestView
  pub turns : TurnsOn port posted turned
  pub links : LinksOn port turned rs'

-- the device was told of the link from a port, and had a turn
pub record LooksOn (from to : ℕ) (rs rs' : List GuestView) : Type 0 where
  pub told : List GuestView
  pub tells : LinkOn from to rs told
  pub turned : List GuestView
  pub turns : TurnsOn to told turned
  pub links : LinksOn to turned rs'

-- a frame that is due goes out, and else nothing happens
abbrev pub PutsBy : Bool → ℕ → List GuestView → List GuestView → Type 0
PutsBy true port rs rs' = SendsOn port rs rs'
PutsBy false port rs rs' = rs' ≡ rs

-- the journal of the device at a port
abbrev pub entries_in : Option GuestView → List Entry
entries_in None = []
entries_in (Some r) = r.device.entries

abbrev pub entries_on : ℕ → List GuestView → List Entry
entries_on port rs = entries_in (slice_get rs port)

-- it has more entries than before
abbrev pub has_more_on : ℕ → List GuestView → List GuestView → Bool
has_more_on port rs rs' = nat_lt (length (entries_on port rs)) (length (entries_on port rs'))

-- ------------------------------------------------------------ commands

-- the device had a turn, and the driver acted again
pub record AnswersOn (port : ℕ) (rs rs' : List GuestView) : Type 0 where
  pub turned : List GuestView
  pub turns : TurnsOn port rs turned
  pub told : List GuestView
  pub links : LinksOn port turned told
  pub acts : ActsOn port told rs'

-- what is due with a driver
abbrev pub due_now : DriverView → Due
due_now v = due_of v.plan v.at (is_some v.calls.asked)

abbrev pub is_meeting : Due → Bool
is_meeting due.Meet = true
is_meeting due.Nothing = false
is_meeting due.Activate = false
is_meeting due.Answer = false
is_meeting (due.Action at) = false
is_meeting (due.Frame i) = false
is_meeting due.Close = false

abbrev pub is_activating : Due → Bool
is_activating due.Activate = true
is_activating due.Nothing = false
is_activating due.Meet = false
is_activating due.Answer = false
is_activating (due.Action at) = false
is_activating (due.Frame i) = false
is_activating due.Close = false

abbrev pub is_closing : Due → Bool
is_closing due.Close = true
is_closing due.Nothing = false
is_closing due.Activate = false
is_closing due.Answer = false
is_closing due.Meet = false
is_closing (due.Action at) = false
is_closing (due.Frame i) = false

-- the same of the guest at a port
abbrev pub due_in : Option GuestView → Due
due_in None = due.Nothing
due_in (Some r) = due_now r.driver

abbrev pub due_at : ℕ → List GuestView → Due
due_at port rs = due_in (slice_get rs port)

-- it acted while ends were to meet
abbrev pub MeetsBy : DriverView → List DriverView → DriverView → Type 0
MeetsBy v [] v' = v' ≡ v
MeetsBy v (m ∷ ms) v' = (is_meeting (due_now v) ≡ true) × ((a : Act) × Acts v a m) × DriverKeeps m × MeetsBy m ms v'

pub record HasMet (v v' : DriverView) : Type 0 where
  pub steps : List DriverView
  pub meets : MeetsBy v steps v'
  pub met : is_meeting (due_now v') ≡ false

-- and then notes went both ways
pub record Meets (r r' : GuestView) : Type 0 where
  pub last : DriverView
  pub met : HasMet r.driver last
  pub settles : Settles last r.device r'.driver r'.device

-- an activation that is due
abbrev pub RenewsBy : Bool → ℕ → List GuestView → List GuestView → Type 0
RenewsBy true port rs rs' = (asked : List GuestView) × ActsOn port rs asked × AnswersOn port asked rs'
RenewsBy false port rs rs' = rs' ≡ rs

-- a command, its answer, the meeting of all ends where they came back, and the next activation where one is due
pub record FollowsOn (port : ℕ) (rs rs' : List GuestView) : Type 0 where
  pub asked : List GuestView
  pub acts : ActsOn port rs asked
  pub answered : List GuestView
  pub answers : AnswersOn port asked answered
  pub met : List GuestView
  pub meets : ChangesOn port Meets answered met
  pub renews : RenewsBy (is_activating (due_at port met)) port met rs'

-- ------------------------------------------------------------ the end

-- nothing is due with the driver at a port
pub record IsClosableOn (port : ℕ) (rs : List GuestView) : Type 0 where
  pub guest : GuestView
  pub at : slice_get rs port ≡ Some guest
  pub closable : IsClosable guest.driver

-- it was told that nothing more comes
pub record ToldClosed (r r' : GuestView) : Type 0 where
  pub driver : r'.driver ≡ closed_as r.driver
  pub device : r'.device ≡ r.device

-- and quiesces where it is to
abbrev pub QuiescesBy : Bool → ℕ → List GuestView → List GuestView → Type 0
QuiescesBy true port rs rs' = FollowsOn port rs rs'
QuiescesBy false port rs rs' = rs' ≡ rs

pub record ClosesOn (port : ℕ) (rs rs' : List GuestView) : Type 0 where
  pub told : List GuestView
  pub tells : ChangesOn port ToldClosed rs told
  pub quiesces : QuiescesBy (is_closing (due_at port told)) port told rs'

-- whether a driver is over
abbrev pub is_over_in : Option GuestView → Bool
is_over_in None = true
is_over_in (Some r) = is_over r.driver.at && not (is_some r.driver.calls.asked)

abbrev pub is_over_on : ℕ → List GuestView → Bool
is_over_on port rs = is_over_in (slice_get rs port)

-- one that is over stays as it is
abbrev pub ClosesBy : Bool → ℕ → List GuestView → List GuestView → Type 0
ClosesBy true port rs rs' = rs' ≡ rs
ClosesBy false port rs rs' = ClosesOn port rs rs'
