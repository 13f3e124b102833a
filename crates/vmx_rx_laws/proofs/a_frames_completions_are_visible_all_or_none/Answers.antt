use Rattle.vmx_rx_laws.proofs.Between.{visible_all_or_none}
use Rattle.vmx_rx_laws.proofs.a_frames_completions_are_visible_all_or_none.Goals as goal

pub returns : goal.returns
returns g c = record { law = visible_all_or_none g.C.TellsVisible.counted }
