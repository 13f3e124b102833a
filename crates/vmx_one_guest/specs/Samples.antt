-- The bytes of the frames of tests.
use Rattle.std.specs.Prelude.{ℕ, List, [], ◌∷◌, ◌++◌, replicate}
use Rattle.vmx_one_guest.specs.declared.samples.Sample.{Sample}
use Rattle.vmx_one_guest.specs.declared.samples.Sample.TheVariants as sample

-- the first six bytes of a frame to the guest of this number, counted from 1
abbrev pub to_guest : ℕ → List ℕ → List ℕ
to_guest n rest = 0x00 ∷ 0x50 ∷ 0x56 ∷ 0x00 ∷ 0x00 ∷ n ∷ rest

-- a frame of no protocol, one with a VLAN tag, and one of UDP over IPv4, behind the first six bytes
abbrev pub plain : List ℕ
plain = replicate 54 0

abbrev pub tagged : List ℕ
tagged = replicate 6 0 ++ 0x81 ∷ 0x00 ∷ 0x20 ∷ 0x05 ∷ replicate 48 0

abbrev pub flow : List ℕ
flow = replicate 6 0 ++ 0x08 ∷ 0x00 ∷ 0x45 ∷ 0x00 ∷ 0x00 ∷ 46 ∷ (replicate 5 0 ++ 17 ∷ replicate 36 0)

abbrev pub sample_bytes : Sample → List ℕ
sample_bytes sample.ToFirst = to_guest 1 plain
sample_bytes sample.ToSecond = to_guest 2 plain
sample_bytes sample.ToAll = replicate 6 0xff ++ plain
sample_bytes sample.TaggedToFirst = to_guest 1 tagged
sample_bytes sample.TaggedToSecond = to_guest 2 tagged
sample_bytes sample.FlowToFirst = to_guest 1 flow
