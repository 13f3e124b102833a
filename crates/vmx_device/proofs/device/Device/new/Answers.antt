use Rattle.std.proofs.Common.{ℕ, suc, List, ap, sym, ◌∙◌, arith}
use Rattle.std.proofs.lemmas.List.{length-map}
use Rattle.vmx_link.specs.Ends.{out_view, in_view}
use Rattle.vmx_model.specs.Types.{Setup}
use Rattle.vmx_model.specs.declared.journal.Entry.{Entry}
use Rattle.vmx_model.specs.Lists.{count}
use Rattle.vmx_model.specs.Journal.{is_activation}
use Rattle.vmx_device.proofs.Newly.{new_is, new_keeps}
use Rattle.vmx_device.proofs.device.Device.new.Goals as goal

pub invariant_of-result : goal.invariant_of-result
invariant_of-result g c =
    let many = length-map c.args.out out_view in
    let same = length-map c.args.input in_view in record {
      keeps = new_keeps _ c.args.mac c.new-3.ensures.new (ap (λ (p : List Entry × ℕ). p.0) c.new.ensures.empty) (ap (λ (p : List Setup × ℕ). p.0) c.new-2.ensures.empty) c.requires.regs.0 c.requires.regs.1 c.requires.interrupts c.requires.out c.requires.input
          (c.requires.port, ap suc many ∙ c.requires.links.0, same ∙ c.requires.links.1 ∙ sym many, c.requires.ports);
      rooms = (omega (arith, c.in_ok-bytes.ensures.exact), omega (arith, c.in_ok-spare.ensures.exact));
      begun = ap (λ (p : List Entry × ℕ). count is_activation p.0) (sym c.new.ensures.empty);
    }

pub returns : goal.returns
returns g c = record { new = new_is _ c.args.mac c.new-3.ensures.new (ap (λ (p : List Entry × ℕ). p.0) c.new.ensures.empty) (ap (λ (p : List Setup × ℕ). p.0) c.new-2.ensures.empty) }
