-- What the filling of a capture leaves: OUT, the line, and the queue through which its frames went.
use Rattle.std.specs.Prelude.{◌≡◌, ℕ, false, List, length}
use Rattle.vmx_pcap.specs.declared.records.Capture.{Capture}
use Rattle.vmx_pcap.specs.declared.records.Stamped.{Stamped}
use Rattle.vmx_pcap.specs.Written.{capture_bytes}
use Rattle.vmx_ends.specs.Frames.{sent_of}
use Rattle.vmx_ends.specs.Transmit.{TxView}
use Rattle.vmx_ends.specs.Queues.{queue_name, made_tx}
use Rattle.vmx_offload_queue.specs.declared.counts.Counts.{Counts}
use Rattle.vmx_offload_queue.specs.Records.{SentFor, FilledFrom}
use Rattle.vmx_offload.specs.declared.filled.TheConstants.{QUEUE_SIZE, PIECE}
use Rattle.vmx_offload.specs.Lines.{filled_line}

-- a queue of 32 descriptors through which the frames of these records with a TCP segment went: seeded, with their marks, in
-- order, and all of them taken, completed and reaped
pub record WentThrough (records : List Stamped) (queue : TxView) : Type 0 where
  pub made : queue.made ≡ made_tx (queue_name 0 0 0) QUEUE_SIZE PIECE false
  pub sent : SentFor records queue.sent
  pub taken : sent_of queue.taken ≡ queue.sent
  pub completed : queue.completed ≡ length queue.taken
  pub reaped : queue.reaped ≡ length queue.sent

-- OUT is the capture of the records that stay, each with its stamp and its checksum, and the line says how many had which fate
pub record Fills (capture : Capture) (file line : List ℕ) (queue : TxView) : Type 0 where
  pub out : List Stamped
  pub counts : Counts
  pub filled : FilledFrom capture.records out counts
  pub file_is : file ≡ capture_bytes out
  pub line_is : line ≡ filled_line counts capture.tail
  pub queue_is : WentThrough capture.records queue
