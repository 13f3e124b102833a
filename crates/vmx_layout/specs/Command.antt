-- The numbers of the commands.
use Rattle.std.specs.Prelude.{◌≢◌, ℕ}
use Rattle.vmx_layout.specs.declared.command.Command.{Command}
use Rattle.vmx_layout.specs.declared.command.TheConstants.{ACTIVATE_DEV, QUIESCE_DEV, RESET_DEV, UPDATE_RX_MODE, UPDATE_MAC_FILTERS, UPDATE_VLAN_FILTERS, UPDATE_RSSIDT, UPDATE_IML, UPDATE_PMCFG, UPDATE_FEATURE, GET_QUEUE_STATUS, GET_STATS, GET_LINK, GET_PERM_MAC_LO, GET_PERM_MAC_HI, GET_DID_LO, GET_DID_HI, GET_DEV_EXTRA_INFO, GET_CONF_INTR}
use Rattle.vmx_layout.specs.declared.command.Command.TheVariants.{ActivateDev, QuiesceDev, ResetDev, UpdateRxMode, UpdateMacFilters, UpdateVlanFilters, UpdateRssidt, UpdateIml, UpdatePmcfg, UpdateFeature, GetQueueStatus, GetStats, GetLink, GetPermMacLo, GetPermMacHi, GetDidLo, GetDidHi, GetDevExtraInfo, GetConfIntr}

-- the set commands, and then the get commands
abbrev pub number_of : Command → ℕ
number_of ActivateDev = ACTIVATE_DEV
number_of QuiesceDev = QUIESCE_DEV
number_of ResetDev = RESET_DEV
number_of UpdateRxMode = UPDATE_RX_MODE
number_of UpdateMacFilters = UPDATE_MAC_FILTERS
number_of UpdateVlanFilters = UPDATE_VLAN_FILTERS
number_of UpdateRssidt = UPDATE_RSSIDT
number_of UpdateIml = UPDATE_IML
number_of UpdatePmcfg = UPDATE_PMCFG
number_of UpdateFeature = UPDATE_FEATURE
number_of GetQueueStatus = GET_QUEUE_STATUS
number_of GetStats = GET_STATS
number_of GetLink = GET_LINK
number_of GetPermMacLo = GET_PERM_MAC_LO
number_of GetPermMacHi = GET_PERM_MAC_HI
number_of GetDidLo = GET_DID_LO
number_of GetDidHi = GET_DID_HI
number_of GetDevExtraInfo = GET_DEV_EXTRA_INFO
number_of GetConfIntr = GET_CONF_INTR

-- no command has the number
abbrev pub IsNoCommand : ℕ → Type 0
IsNoCommand number = (c : Command) → number_of c ≢ number
