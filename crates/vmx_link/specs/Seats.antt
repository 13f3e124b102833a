-- What a seat knows at the start, after the table's seats part and meet, and after notes are given and heard.
use Rattle.std.specs.Prelude.{suc, List, [], ◌∷◌, true, false}
use Rattle.vmx_link.specs.declared.known.Known.{Known}
use Rattle.vmx_ring_laws.specs.Lists.{longer}

-- a seat that has no part in the link any more
abbrev pub nobody : Known
nobody = record {
  sends = false;
  receives = false;
  busy = false;
  pushed = [];
  pulled = [];
  full = [];
  empty = [];
  heard_pushed = [];
  heard_pulled = [];
  last_pushed = [];
  last_pulled = [];
  tells_pushed = false;
  tells_pulled = false;
  sender_gave = 0;
  sender_heard = 0;
  receiver_gave = 0;
  receiver_heard = 0;
}

-- the seat that the table is made with, which has both ends, and each end's part of it
abbrev pub newcomer : Known
newcomer = record nobody { sends = true; receives = true }

abbrev pub sender_part : Known → Known
sender_part v = record v { receives = false }

abbrev pub receiver_part : Known → Known
receiver_part v = record v { sends = false }

-- both ends' parts in one seat
abbrev pub together : Known → Known → Known
together v w = record v { receives = true; pulled = w.pulled; empty = w.empty; receiver_gave = w.receiver_gave; receiver_heard = w.receiver_heard }

-- the sender after it gave a note, and the note; then the same for the receiver
abbrev pub sender_told : Known → Known
sender_told v = record v { sender_gave = suc v.sender_gave }

abbrev pub sender_note : Known → Known
sender_note v = record nobody { heard_pushed = v.pushed; heard_pulled = v.heard_pulled; tells_pushed = true }

abbrev pub receiver_told : Known → Known
receiver_told v = record v { receiver_gave = suc v.receiver_gave }

abbrev pub receiver_note : Known → Known
receiver_note v = record nobody { heard_pushed = v.heard_pushed; heard_pulled = v.pulled; tells_pulled = true }

-- the receiver after it heard a note of the sender, and the sender after it heard one of the receiver
abbrev pub hears_sender : Known → Known → Known
hears_sender v w = record v { heard_pushed = longer v.heard_pushed w.heard_pushed; last_pushed = w.heard_pushed; last_pulled = w.heard_pulled; receiver_heard = suc v.receiver_heard }

abbrev pub hears_receiver : Known → Known → Known
hears_receiver v w = record v { heard_pulled = longer v.heard_pulled w.heard_pulled; last_pushed = w.heard_pushed; last_pulled = w.heard_pulled; sender_heard = suc v.sender_heard }

-- what the seat of a badge knows
abbrev pub known : List Known → Known
known [] = nobody
known (v ∷ vs) = v
