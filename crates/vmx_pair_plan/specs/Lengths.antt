-- Frames by their lengths, which alone decide where a guest has one transmit queue and no script.
use Rattle.std.specs.Prelude.{ℕ, ◌+◌, Bool, ◌&&◌, nat_lt, nat_le, if◌then◌else◌, length}
use Rattle.vmx_frame.specs.declared.ethernet.TheConstants.{HEADER_LEN}
use Rattle.vmx_pcap.specs.declared.records.Stamped.{Stamped}
use Rattle.vmx_model.specs.declared.limits.TheConstants.{ABOVE_MTU}
use Rattle.vmx_model.specs.declared.sending.Sending.{Sending}
use Rattle.vmx_model.specs.declared.sending.Sending.TheVariants as sending

-- a frame below an Ethernet header's 14 bytes
abbrev pub is_short : Stamped → Bool
is_short r = nat_lt (length r.frame) HEADER_LEN

-- a frame of more than 18 bytes above the MTU
abbrev pub is_too_long : ℕ → Stamped → Bool
is_too_long mtu r = nat_lt (mtu + ABOVE_MTU) (length r.frame)

-- neither, so that it is sent
abbrev pub is_sent : ℕ → Stamped → Bool
is_sent mtu r = nat_le HEADER_LEN (length r.frame) && nat_le (length r.frame) (mtu + ABOVE_MTU)

-- the verdict on a frame of so many bytes with so many sent frames before it
abbrev pub sending_of : ℕ → ℕ → ℕ → Sending
sending_of mtu earlier len = if nat_lt len HEADER_LEN then sending.Short else if nat_lt (mtu + ABOVE_MTU) len then sending.TooLong else sending.Sent 0 0 earlier
