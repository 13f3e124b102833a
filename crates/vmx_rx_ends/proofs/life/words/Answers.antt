use Rattle.std.proofs.Common.{rules, ◌≡◌, ◌∙◌, ap, length, vec_len}
use Rattle.vmx_ends.specs.ReceiveClauses.{made_of}
use Rattle.vmx_rx_ends.specs.Opening.{opening_words}
use Rattle.vmx_rx_ends.proofs.Begins.{opening_length}
use Rattle.vmx_rx_ends.proofs.life.words.Goals as goal

pub returns-clause-wide : goal.returns-clause-wide
returns-clause-wide g c = let is : c.extend_from_slice-3.new.self.items ≡ opening_words g.C.TellsVisible.counted (made_of c.args.shape.now) = search rules in let wide : vec_len c.extend_from_slice-3.new.self ≡ length c.extend_from_slice-3.new.self.items = search rules in
    wide ∙ ap length is ∙ opening_length g.C.TellsVisible.counted (made_of c.args.shape.now)
