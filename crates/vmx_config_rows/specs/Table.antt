-- The table of numbers and truth values: key, least, most, step, default (own to this project).
use Rattle.std.specs.Prelude.{ℕ, ◌%◌, ◌==◌, ◌&&◌, Bool, false, nat_le, if◌then◌else◌, ℤ, pos, negsuc, List, codes, Option, Some, None, Result, Ok, Err}
use Rattle.toml.specs.Data.{Data, Members, get_member, as_integer, as_bool}
use Rattle.vmx_config_rows.specs.declared.spot.Spot.{Spot}
use Rattle.vmx_config_rows.specs.declared.rows.NumberKey.{NumberKey}
use Rattle.vmx_config_rows.specs.declared.rows.NumberKey.TheVariants.{PollEvery, Vlan, Mtu, TxQueues, RxQueues, TxRing, RxRing1, RxRing2, Bodies, Piece, At}
use Rattle.vmx_config_rows.specs.declared.rows.TruthKey.{TruthKey}
use Rattle.vmx_config_rows.specs.declared.rows.TruthKey.TheVariants.{Sniffer, Strip, TxData, RxData}
use Rattle.vmx_config_rows.specs.declared.fault.ConfigFault.{ConfigFault}
use Rattle.vmx_config_rows.specs.declared.fault.ConfigFault.TheVariants.{Range}
use Rattle.vmx_config_rows.specs.Reading.{◌>>=◌, required, or_kind}

-- a key, the least and the greatest number, the step, and the number where the key is not there
pub record Row : Type 0 where
  pub key : List ℕ
  pub least : ℕ
  pub most : ℕ
  pub step : ℕ
  pub default : Option ℕ

abbrev pub row : List ℕ → ℕ → ℕ → ℕ → Option ℕ → Row
row key least most step default = record { key = key; least = least; most = most; step = step; default = default }

abbrev pub number_row : NumberKey → Row
number_row PollEvery = row (codes "poll_every") 1 4096 1 (Some 1)
number_row Vlan = row (codes "vlan") 1 4094 1 None
number_row Mtu = row (codes "mtu") 60 9000 1 (Some 1500)
number_row TxQueues = row (codes "tx_queues") 1 8 1 (Some 1)
number_row RxQueues = row (codes "rx_queues") 1 8 1 (Some 1)
number_row TxRing = row (codes "tx_ring") 32 4096 32 (Some 512)
number_row RxRing1 = row (codes "rx_ring1") 32 4096 32 (Some 256)
number_row RxRing2 = row (codes "rx_ring2") 32 4096 32 (Some 256)
number_row Bodies = row (codes "bodies") 0 2 1 (Some 0)
number_row (Piece tx_data) = row (codes "piece") (if tx_data then 640 else 576) 4096 1 (Some 4096)
number_row (At from) = row (codes "at") from 262144 1 None

-- the keys of truth values, each false where it is not there
abbrev pub truth_key : TruthKey → List ℕ
truth_key Sniffer = codes "sniffer"
truth_key Strip = codes "strip"
truth_key TxData = codes "tx_data"
truth_key RxData = codes "rx_data"

-- a number from the least to the greatest, in steps
abbrev pub ranged : Spot → Row → ℤ → Result ℕ ConfigFault
ranged spot r (pos n) = if nat_le r.least n && nat_le n r.most && (n % r.step == 0) then Ok n else Err (Range spot r.key (pos n))
ranged spot r (negsuc n) = Err (Range spot r.key (negsuc n))

abbrev pub number_in : Spot → Row → Option Data → Result ℕ ConfigFault
number_in spot r None = required spot r.key r.default
number_in spot r (Some d) = or_kind spot r.key (as_integer d) >>= ranged spot r

-- the number of a row in a table
abbrev pub number_at : Spot → Row → Members → Result ℕ ConfigFault
number_at spot r ms = number_in spot r (get_member r.key ms)

abbrev pub optional_in : Spot → Row → Option Data → Result (Option ℕ) ConfigFault
optional_in spot r None = Ok None
optional_in spot r (Some d) = number_in spot r (Some d) >>= λ n. Ok (Some n)

-- the number of a row without a default, or none
abbrev pub optional_at : Spot → Row → Members → Result (Option ℕ) ConfigFault
optional_at spot r ms = optional_in spot r (get_member r.key ms)

abbrev pub truth_in : Spot → List ℕ → Option Data → Result Bool ConfigFault
truth_in spot key None = Ok false
truth_in spot key (Some d) = or_kind spot key (as_bool d)

-- the truth value at a key of a table
abbrev pub truth_at : Spot → List ℕ → Members → Result Bool ConfigFault
truth_at spot key ms = truth_in spot key (get_member key ms)
