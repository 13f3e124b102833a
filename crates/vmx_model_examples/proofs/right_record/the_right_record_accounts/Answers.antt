use Rattle.std.proofs.Common.{ℕ, List}
use Rattle.std.specs.Prelude.{Ok}
use Rattle.vmx_shared_area.specs.Tells.{Reads}
use Rattle.vmx_model.specs.Account.{Accounts}
use Rattle.vmx_shared_area.specs.Layout.{image_of}
use Rattle.vmx_shared_area.specs.ReadsBack.{image_reads}
use Rattle.vmx_model_examples.specs.RightRecord.{plain, sender, target, twelve, sender_view, target_view, right}
use Rattle.vmx_model_examples.proofs.RightRecord.{IsOrdered, has_lists, sender_actors, target_actors, actors}
use Rattle.vmx_model_examples.proofs.right_record.the_right_record_accounts.Goals as goal

pub returns : goal.returns
returns c =
    let ordered : IsOrdered = λ image. c.runs_in_order.ensures.order twelve (right image) (has_lists image) in
    let accounts : (image : List ℕ) → Reads image (Ok plain) → Accounts twelve (right image) = λ image holds. c.law_of_parts.ensures.accounts twelve (right image) (c.links_tell.ensures.premises twelve (right image) (actors ordered image holds)) in
    record {
      lists = has_lists;
      sender = λ image holds. c.bags_tell.ensures.leaves twelve (right image) 0 sender (sender_view image) (sender_actors ordered image holds);
      target = λ image holds. c.bags_tell.ensures.leaves twelve (right image) 1 target (target_view image) (target_actors ordered image holds);
      accounts = accounts;
      written = accounts (image_of plain) (image_reads plain);
    }
