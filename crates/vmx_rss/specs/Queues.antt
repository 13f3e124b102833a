-- The kind of a flow, its hash, and its queues.
use Rattle.std.specs.Prelude.{ℕ, ◌/◌, ◌%◌, ◌==◌, Bool, true, false, ◌&&◌, ◌||◌, if◌then◌else◌, is_some, List, [], ◌∷◌, ◌++◌, Option, Some, None, slice_index}
use Rattle.vmx_rss.specs.Toeplitz.{hash_of}
use Rattle.vmx_frame.specs.declared.kinds.Ports.{Ports}
use Rattle.vmx_frame.specs.declared.kinds.Flow.{Flow}
use Rattle.vmx_frame.specs.declared.kinds.Flow.TheVariants.{NonIp, V4, V6}
use Rattle.vmx_shared_area.specs.declared.rss.Rss.{Rss}
use Rattle.vmx_shared_area.specs.declared.rss.TheConstants.{MICROSOFT_KEY}
use Rattle.vmx_rss.specs.declared.answer.Choice.{Choice}
use Rattle.vmx_rss.specs.declared.answer.TheConstants.{NO_KIND, KIND_IPV4, KIND_TCP_IPV4, KIND_IPV6, KIND_TCP_IPV6}
use Rattle.vmx_rss.specs.declared.queues.TheConstants.{TYPE_IPV4, TYPE_TCP_IPV4, TYPE_IPV6, TYPE_TCP_IPV6, ALL_TYPES}

-- a port in the order of the wire
abbrev pub bytes_of_port : ℕ → List ℕ
bytes_of_port port = port / 256 ∷ port % 256 ∷ []

-- the ports that are hashed, source first
abbrev pub ports_bytes : Option Ports → List ℕ
ports_bytes None = []
ports_bytes (Some p) = bytes_of_port p.source ++ bytes_of_port p.target

-- a kind without ports hashes none
abbrev pub counted_ports : Bool → Option Ports → Option Ports
counted_ports true ports = ports
counted_ports false ports = None

-- the hash's input: source address, destination address, and for a TCP kind the ports
abbrev pub input_of : Bool → Flow → List ℕ
input_of tcp NonIp = []
input_of tcp (V4 source target ports) = source ++ (target ++ ports_bytes (counted_ports tcp ports))
input_of tcp (V6 source target ports) = source ++ (target ++ ports_bytes (counted_ports tcp ports))

-- the bit of a type is set
abbrev pub allows : ℕ → ℕ → Bool
allows types mask = types / mask % 2 == 1

-- a TCP kind where ports count and its type is allowed, else the address kind where that is, else none
abbrev pub kind_of : ℕ → Flow → ℕ
kind_of types NonIp = NO_KIND
kind_of types (V4 s t ports) =
    if is_some ports && allows types TYPE_TCP_IPV4 then KIND_TCP_IPV4 else if allows types TYPE_IPV4 then KIND_IPV4 else NO_KIND
kind_of types (V6 s t ports) =
    if is_some ports && allows types TYPE_TCP_IPV6 then KIND_TCP_IPV6 else if allows types TYPE_IPV6 then KIND_IPV6 else NO_KIND

-- the kinds whose ports are hashed
abbrev pub has_ports : ℕ → Bool
has_ports kind = kind == KIND_TCP_IPV4 || kind == KIND_TCP_IPV6

-- the hash of a flow of this kind
unfoldable pub flow_hash : List ℕ → ℕ → Flow → ℕ
flow_hash key kind flow = hash_of key (input_of (has_ports kind) flow)

-- what a flow that is not hashed is given
abbrev pub no_choice : Choice
no_choice = record { queue = 0; hash = 0; kind = NO_KIND }

-- the entry at the hash modulo the table's size
abbrev pub choice_by : Rss → Flow → ℕ → Choice
choice_by rss flow kind =
    if kind == NO_KIND then no_choice
    else record { queue = slice_index rss.table (flow_hash rss.key kind flow % rss.size); hash = flow_hash rss.key kind flow; kind = kind }

-- the receive queue of a flow, with its hash and kind
abbrev pub choice_of : Option Rss → Flow → Choice
choice_of None flow = no_choice
choice_of (Some rss) flow = choice_by rss flow (kind_of rss.types flow)

-- the transmit queue: the hash under Microsoft's key with all types allowed, modulo the queues
abbrev pub tx_queue_of : Flow → ℕ → ℕ
tx_queue_of flow queues =
    if kind_of ALL_TYPES flow == NO_KIND then 0 else flow_hash MICROSOFT_KEY (kind_of ALL_TYPES flow) flow % queues
