-- Notes both ways over a link, call by call.
use Rattle.std.proofs.Common.{◌≡◌, ℕ, suc, List, length, set, refl, sym, ap, ap₂, ◌∙◌, subst, Some}
use Rattle.std.specs.List.{slice_get}
use Rattle.std.proofs.lemmas.List.{set-set, length-set}
use mathlib.Core.List.{IsPrefix}
use Rattle.vmx_ends.specs.declared.packet.Packet.{Packet}
use Rattle.vmx_link.specs.Views.{LinkOutView, LinkInView, LinkNoteView}
use Rattle.vmx_link.specs.Ends.{sender's_note, receiver's_note, out_after, in_after}
use Rattle.vmx_device_looks.specs.Ports.{other, IsOther}
use Rattle.vmx_device_looks.specs.PortLaws.{other_once}
use Rattle.vmx_device_laws.specs.Views.{DeviceView}
use Rattle.vmx_device_laws.specs.LinkNotes.{NotesLink, FitsLink, HearsLink, NotesOut, NotesIn, HearsOut, HearsIn}
use Rattle.vmx_device_laws.specs.declared.side.LinkSide.TheVariants as side
use Rattle.vmx_note_laws.specs.Links.{sender_passed, receiver_passed}
use Rattle.vmx_replay_guests.specs.Passing.{LinkAt, LinkPassed}
use Rattle.vmx_replay_guests.proofs.Ends.{set_there, below_length, one_there}

module _ (s r : DeviceView) (t : LinkAt s r) (from to : ℕ) (from_port : from ≡ s.port) (to_port : to ≡ r.port) where
  to_at : to ≡ other s.port t.j
  to_at = to_port ∙ t.to_is

  from_at : from ≡ other r.port t.k
  from_at = from_port ∙ t.from_is

  pub is_target : IsOther s.port (length s.out) to
  is_target = (t.j, below_length s.out t.j t.out t.out_at, to_at)

  pub is_source : IsOther r.port (length r.out) from
  is_source = (t.k, t.k_below, from_at)

  abbrev gave : LinkOutView
  gave = record t.out { notes_given = suc t.out.notes_given }

  abbrev told : LinkInView
  told = in_after t.input (sender's_note t.out)

  -- the sender gave a note
  module _ (note : LinkNoteView) (s1 : DeviceView) (n : NotesLink side.Out to note s s1) where
    at_j : n.0 ≡ t.j
    at_j = other_once s.port n.0 t.j (sym n.2 ∙ to_at)

    noted : NotesOut t.j note s.out n.1
    noted = subst (λ (k : ℕ). NotesOut k note s.out n.1) at_j n.3

    out_is : noted.link ≡ t.out
    out_is = one_there s.out t.j noted.link t.out noted.at t.out_at

    note_is : note ≡ sender's_note t.out
    note_is = noted.tells ∙ ap sender's_note out_is

    s1_is : s1 ≡ record s { out = set s.out t.j gave }
    s1_is = n.4 ∙ ap (λ (os : List LinkOutView). record s { out = os }) (noted.is ∙ ap (λ (o : LinkOutView). set s.out t.j (record o { notes_given = suc o.notes_given })) out_is)

    pub fits_in : FitsLink side.In from note r
    fits_in = (t.k, from_at, record { link = t.input; at = t.input_at; key = ap (λ (x : LinkNoteView). x.key) note_is ∙ t.key; side = ap (λ (x : LinkNoteView). x.of_sender) note_is })

    -- the receiver heard it
    module _ (r1 : DeviceView) (h : HearsLink side.In from note r r1) where
      at_k : h.0 ≡ t.k
      at_k = other_once r.port h.0 t.k (sym h.2 ∙ from_at)

      heard : HearsIn t.k note r.input h.1
      heard = subst (λ (k : ℕ). HearsIn k note r.input h.1) at_k h.3

      in_is : heard.link ≡ t.input
      in_is = one_there r.input t.k heard.link t.input heard.at t.input_at

      r1_is : r1 ≡ record r { input = set r.input t.k told }
      r1_is = h.4 ∙ ap (λ (xs : List LinkInView). record r { input = xs }) (heard.is ∙ ap₂ (λ (x : LinkInView) (y : LinkNoteView). set r.input t.k (in_after x y)) in_is note_is)

      pub is_still_source : IsOther r1.port (length r1.out) from
      is_still_source = subst (λ (x : DeviceView). IsOther x.port (length x.out) from) (sym r1_is) is_source

      -- it gave one
      module _ (back : LinkNoteView) (r2 : DeviceView) (m : NotesLink side.In from back r1 r2) where
        at_k2 : m.0 ≡ t.k
        at_k2 = other_once r.port m.0 t.k (ap (λ (x : DeviceView). other x.port m.0) (sym r1_is) ∙ sym m.2 ∙ from_at)

        noted2 : NotesIn t.k back (set r.input t.k told) m.1
        noted2 = subst (λ (x : ℕ × List LinkInView). NotesIn x.0 back x.1 m.1) (λ i. (at_k2 i, ap (λ (x : DeviceView). x.input) r1_is i)) m.3

        told_is : noted2.link ≡ told
        told_is = one_there (set r.input t.k told) t.k noted2.link told noted2.at (set_there r.input t.k t.input told t.input_at)

        back_is : back ≡ receiver's_note told
        back_is = noted2.tells ∙ ap receiver's_note told_is

        r2_is : r2 ≡ record r { input = set r.input t.k (receiver_passed t.out t.input) }
        r2_is = m.4 ∙ ap (λ (x : DeviceView). record x { input = m.1 }) r1_is ∙ ap (λ (xs : List LinkInView). record r { input = xs })
            (noted2.is ∙ ap (λ (x : LinkInView). set (set r.input t.k told) t.k (record x { notes_given = suc x.notes_given })) told_is ∙ set-set r.input t.k told (receiver_passed t.out t.input))

        gave_at : slice_get s1.out t.j ≡ Some gave
        gave_at = subst (λ (x : DeviceView). slice_get x.out t.j ≡ Some gave) (sym s1_is) (set_there s.out t.j t.out gave t.out_at)

        pub is_still_target : IsOther s1.port (length s1.out) to
        is_still_target = subst (λ (x : DeviceView). IsOther x.port (length x.out) to) (sym s1_is) (t.j, rw (length-set s.out t.j gave) (below_length s.out t.j t.out t.out_at), to_at)

        pub fits_out : FitsLink side.Out to back s1
        fits_out = (t.j, subst (λ (x : DeviceView). to ≡ other x.port t.j) (sym s1_is) to_at, record { link = gave; at = gave_at; key = ap (λ (x : LinkNoteView). x.key) back_is ∙ sym t.key; side = ap (λ (x : LinkNoteView). x.of_sender) back_is })

        -- and the sender heard it
        module _ (s2 : DeviceView) (l : HearsLink side.Out to back s1 s2) where
          at_j2 : l.0 ≡ t.j
          at_j2 = other_once s.port l.0 t.j (ap (λ (x : DeviceView). other x.port l.0) (sym s1_is) ∙ sym l.2 ∙ to_at)

          heard2 : HearsOut t.j back (set s.out t.j gave) l.1
          heard2 = subst (λ (x : ℕ × List LinkOutView). HearsOut x.0 back x.1 l.1) (λ i. (at_j2 i, ap (λ (x : DeviceView). x.out) s1_is i)) l.3

          gave_is : heard2.link ≡ gave
          gave_is = one_there (set s.out t.j gave) t.j heard2.link gave heard2.at (set_there s.out t.j t.out gave t.out_at)

          s2_is : s2 ≡ record s { out = set s.out t.j (sender_passed t.out t.input) }
          s2_is = l.4 ∙ ap (λ (x : DeviceView). record x { out = l.1 }) s1_is ∙ ap (λ (os : List LinkOutView). record s { out = os })
              (heard2.is ∙ ap₂ (λ (o : LinkOutView) (y : LinkNoteView). set (set s.out t.j gave) t.j (out_after o y)) gave_is back_is ∙ set-set s.out t.j gave (sender_passed t.out t.input))

          pub passed_link : LinkPassed s r s2 r2
          passed_link = record {
            link = t;
            out' = sender_passed t.out t.input;
            input' = receiver_passed t.out t.input;
            passes = record { sender = refl; receiver = refl; within = subst (λ (x : List Packet × List Packet). IsPrefix x.0 x.1) (λ i. (ap (λ (y : LinkNoteView). y.pulled) back_is i, ap (λ (o : LinkOutView). o.pushed) gave_is i)) heard2.pulled };
            sender = s2_is;
            receiver = r2_is;
          }
