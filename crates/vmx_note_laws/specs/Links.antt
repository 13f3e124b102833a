-- What notes tell the two ends of a link of each other, and what an end that was told all does next.
use Rattle.std.specs.Prelude.{◌≡◌, suc, List, ◌∷◌, ◌++◌, length, ◌≤◌}
use mathlib.Core.List.{IsPrefix}
use Rattle.vmx_ends.specs.declared.packet.Packet.{Packet}
use Rattle.vmx_link.specs.Views.{LinkOutView, LinkInView}
use Rattle.vmx_link.specs.Ends.{sender's_note, receiver's_note, out_after, in_after}

-- Each end was told all that the other did.
pub record IsToldLink (o : LinkOutView) (i : LinkInView) : Type 0 where
  pub key : o.key ≡ i.key
  pub pushed : length o.pushed ≤ length i.filled
  pub pulled : length i.pulled ≤ length o.freed
  pub within : IsPrefix i.pulled o.pushed

-- the receiver after it heard a note of the sender, and gave one
abbrev pub receiver_passed : LinkOutView → LinkInView → LinkInView
receiver_passed o i = record (in_after i (sender's_note o)) { notes_given = suc i.notes_given }

-- the sender after it gave a note, and heard one of the receiver
abbrev pub sender_passed : LinkOutView → LinkInView → LinkOutView
sender_passed o i = out_after (record o { notes_given = suc o.notes_given }) (receiver's_note (in_after i (sender's_note o)))

-- notes went both ways, and nothing else happened
pub record PassesLink (o : LinkOutView) (i : LinkInView) (o' : LinkOutView) (i' : LinkInView) : Type 0 where
  pub sender : o' ≡ sender_passed o i
  pub receiver : i' ≡ receiver_passed o i
  pub within : IsPrefix i.pulled o.pushed

-- a receiver pulls the packet that its sender pushed behind those pulled
pub record PullsNext (o : LinkOutView) (i : LinkInView) (x : Packet) : Type 0 where
  pub more : List Packet
  pub next : o.pushed ≡ i.pulled ++ x ∷ more
