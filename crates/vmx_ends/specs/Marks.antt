-- The mark of a frame: its tag's two bytes, and its offload.
use Rattle.std.proofs.Common.{◌≢◌, ℕ, ◌<◌, Option, None, arith}
use Rattle.vmx_ends.specs.declared.meta.TxMark.{TxMark}

pub zero_lawful : ◌≢◌ {A = ℕ} 0 1
zero_lawful e = omega (arith, e)

pub low_om : 0 < 4
low_om = omega arith

pub low_hlen : 0 < 1024
low_hlen = omega arith

pub low_msscof : 0 < 16384
low_msscof = omega arith

-- a tag's two bytes alone
abbrev pub mark_with : Option ℕ → TxMark
mark_with tci = record { tci = tci; om = 0; hlen = 0; msscof = 0; om_low = low_om; om_lawful = zero_lawful; hlen_low = low_hlen; msscof_low = low_msscof }

-- nothing
abbrev pub plain_mark : TxMark
plain_mark = mark_with None
