-- What is known of a link once its two ends have met.
use Rattle.std.specs.Prelude.{ℕ, List}
use Rattle.vmx_ends.specs.declared.packet.Packet.{Packet}

-- the ports at its two sides, the packets that were pushed and pulled, and the looks that found it full, each with the number of packets pushed before it and the word found
pub record LinkView : Type 0 where
  pub from : ℕ
  pub to : ℕ
  pub pushed : List Packet
  pub pulled : List Packet
  pub full : List (ℕ × ℕ)
