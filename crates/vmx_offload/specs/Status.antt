-- The numbers that the program ends with.
use Rattle.std.specs.Prelude.{ℕ}
use Rattle.vmx_offload.specs.declared.status.OffloadStatus.{OffloadStatus}
use Rattle.vmx_offload.specs.declared.status.OffloadStatus.TheVariants as status

-- the number of a status; 1 and 3 stand for none
abbrev pub number_of : OffloadStatus → ℕ
number_of status.Ok = 0
number_of status.Usage = 2
number_of status.Capture = 4
number_of status.TooLong = 5
number_of status.ReadFault = 6
number_of status.WriteFault = 7
number_of status.NoMemory = 8
