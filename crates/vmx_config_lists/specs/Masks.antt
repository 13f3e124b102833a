-- Receive modes and hash types, by name (the bits are those of Linux's vmxnet3_defs.h).
use Rattle.std.specs.Prelude.{ℕ, List, codes, bit_or, if◌then◌else◌, Option, Some, None, Result, Ok}
use Rattle.std.specs.Str.{bytes_eq}
use Rattle.toml.specs.Data.{Data, Items, no_items, item, as_str, as_array}
use Rattle.vmx_config_rows.specs.declared.spot.Spot.{Spot}
use Rattle.vmx_config_rows.specs.declared.fault.ConfigFault.{ConfigFault}
use Rattle.vmx_config_rows.specs.Reading.{◌>>=◌, or_kind, or_form}
use Rattle.vmx_config_lists.specs.Counts.{at_most}

abbrev pub mode_bit : List ℕ → Option ℕ
mode_bit s =
    if bytes_eq s (codes "ucast") then Some 1
    else if bytes_eq s (codes "mcast") then Some 2
    else if bytes_eq s (codes "bcast") then Some 4
    else if bytes_eq s (codes "allmulti") then Some 8
    else if bytes_eq s (codes "promisc") then Some 16
    else None

abbrev pub type_bit : List ℕ → Option ℕ
type_bit s =
    if bytes_eq s (codes "ipv4") then Some 1
    else if bytes_eq s (codes "tcp4") then Some 2
    else if bytes_eq s (codes "ipv6") then Some 4
    else if bytes_eq s (codes "tcp6") then Some 8
    else None

-- the bits of the words, besides those before
abbrev pub mode_words : Spot → ℕ → Items → Result ℕ ConfigFault
mode_words spot mode no_items = Ok mode
mode_words spot mode (item d ds) = (or_kind spot (codes "mode") (as_str d) >>= λ s. or_form spot (codes "mode") (mode_bit s)) >>= λ bit. mode_words spot (bit_or mode bit) ds

abbrev pub type_words : Spot → ℕ → Items → Result ℕ ConfigFault
type_words spot types no_items = Ok types
type_words spot types (item d ds) = (or_kind spot (codes "rss.types") (as_str d) >>= λ s. or_form spot (codes "rss.types") (type_bit s)) >>= λ bit. type_words spot (bit_or types bit) ds

-- at most 5 words
abbrev pub mode_list : Spot → Items → Result ℕ ConfigFault
mode_list spot ds = at_most spot (codes "mode") 5 ds (mode_words spot 0 ds)

-- at most 4 words
abbrev pub type_list : Spot → Items → Result ℕ ConfigFault
type_list spot ds = at_most spot (codes "rss.types") 4 ds (type_words spot 0 ds)

-- a receive mode
abbrev pub mode_in : Spot → Data → Result ℕ ConfigFault
mode_in spot d = or_kind spot (codes "mode") (as_array d) >>= mode_list spot

-- hash types
abbrev pub types_in : Spot → Data → Result ℕ ConfigFault
types_in spot d = or_kind spot (codes "rss.types") (as_array d) >>= type_list spot
