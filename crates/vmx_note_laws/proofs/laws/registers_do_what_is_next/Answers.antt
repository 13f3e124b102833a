use Rattle.vmx_note_laws.proofs.Registers.{answers_none, finds_command, answers_asked, finds_answer, takes_answered}
use Rattle.vmx_note_laws.proofs.laws.registers_do_what_is_next.Goals as goal

pub returns : goal.returns
returns c = record { none = answers_none; finds = finds_command; answers = answers_asked; given = finds_answer; takes = takes_answered }
