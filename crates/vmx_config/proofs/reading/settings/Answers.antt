use Rattle.std.proofs.Common.{rules}
use Rattle.toml.specs.View.{table_view}
use Rattle.toml.specs.Errors.{IsMemory}
use Rattle.vmx_config_rows.specs.Reading.{Gives}
use Rattle.vmx_config.specs.Whole.{settings_at}
use Rattle.vmx_config.proofs.Texts.{settings_table, settings_text}
use Rattle.vmx_config.proofs.InRange.{ok_in_range}
use Rattle.vmx_config.proofs.reading.settings.Goals as goal

pub returns-in-Ok : goal.returns-in-Ok
returns-in-Ok c =
    let bytes = c.args.bytes.now in
    let given : Gives (λ s. s) c.top_settings.result (settings_at bytes) = rw (settings_table bytes (table_view c.in-Ok.table) c.in-Ok.ensures.ok.0 c.in-Ok.ensures.ok.1) c.top_settings.ensures.top in
    record { settings = given; range = ok_in_range bytes c.top_settings.result given }

pub returns-else-is_memory-clause-settings : goal.returns-else-is_memory-clause-settings
returns-else-is_memory-clause-settings c =
    let not_memory : ¬ (IsMemory c.in-Err.error) = search rules in
    settings_text c.args.bytes.now (c.in-Err.ensures.refused not_memory)
