use Rattle.std.proofs.Common.{refl, ◌%◌, arith}
use Rattle.std.proofs.lemmas.Nat.{one_shl}
use Rattle.vmx_config_lists.specs.Vlans.{with_vid}
use Rattle.vmx_config_lists.proofs.vids.set_vid.Goals as goal

pub returns : goal.returns
unfolding with_vid
returns c = record { set = rw (one_shl (c.args.vid % 32) 32 (omega arith)) refl }
