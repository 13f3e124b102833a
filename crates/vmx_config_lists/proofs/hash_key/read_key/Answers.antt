use Rattle.std.proofs.Common.{refl, sym, ◌∙◌, arith}
use Rattle.vmx_config_lists.specs.Keys.{no_key}
use Rattle.vmx_config_lists.proofs.Keys.{key_goes, key_fails, key_done}
use Rattle.vmx_config_lists.proofs.hash_key.read_key.Goals as goal

pub loop-i-init : goal.loop-i-init
unfolding no_key
loop-i-init c = refl

pub returns-in_err-key : goal.returns-in_err-key
returns-in_err-key c =
    let none = key_fails c.args.digits.now c.loop-i.key c.loop-i.i 40 (omega arith) (sym c.pair.ensures.byte ∙ c.in_err-key.was) in
    record { key = c.from_residual.ensures ∙ sym none ∙ c.loop-i.invariant }

pub loop-i-preserved : goal.loop-i-preserved
loop-i-preserved c = sym (key_goes c.args.digits.now c.loop-i.key c.loop-i.i 40 c.in_ok-key.field-0 (omega arith) (sym c.pair.ensures.byte ∙ c.in_ok-key.was)) ∙ c.loop-i.invariant

pub returns : goal.returns
returns c = record { key = sym (key_done c.args.digits.now c.loop-i.key c.loop-i.i 40 (omega arith)) ∙ c.loop-i.invariant }
