-- What contracts see of the parts of a device, and what holds of them.
use Rattle.std.specs.Prelude.{◌≡◌, ◌≤◌, ◌+◌, ℕ, map, length, vec_capacity}
use Rattle.vmx_io.specs.declared.buffer.TheConstants.{MAX_FRAME}
use Rattle.vmx_link.specs.Ends.{out_view, in_view}
use Rattle.vmx_regs.specs.Ends.{device_key, device_view, device_masks}
use Rattle.vmx_model.specs.Lists.{count}
use Rattle.vmx_model.specs.Journal.{is_activation}
use Rattle.vmx_device_laws.specs.Views.{DeviceView}
use Rattle.vmx_device_laws.specs.Keeps.{Keeps}
use Rattle.vmx_device.specs.declared.inner.Inner.{Inner}

abbrev pub inner_view : {F TxNote TxDriver TxDevice TxFacts RxNote RxDriver RxDevice RxFacts : Type 0} → Inner F TxNote TxDriver TxDevice TxFacts RxNote RxDriver RxDevice RxFacts → DeviceView
inner_view n = record {
  port = n.port;
  table = n.table;
  machine = n.machine;
  key = device_key n.regs;
  calls = device_view n.regs;
  masks = device_masks n.regs;
  out = map out_view n.out;
  input = map in_view n.input;
  entries = n.journal.entries.0;
  setups = n.journal.setups.0;
}

-- the invariant: what contracts see keeps, the two buffers have room for a frame, and activations are counted
pub record Holds {F TxNote TxDriver TxDevice TxFacts RxNote RxDriver RxDevice RxFacts : Type 0} (n : Inner F TxNote TxDriver TxDevice TxFacts RxNote RxDriver RxDevice RxFacts) : Type 0 where
  pub keeps : Keeps (inner_view n)
  pub rooms : (MAX_FRAME ≤ vec_capacity n.bytes) × (MAX_FRAME ≤ vec_capacity n.spare)
  pub begun : n.begun ≡ count is_activation n.journal.entries.0

-- how much room is left, but for so many entries, setups and copies of frames
pub record LeavesRoom {F TxNote TxDriver TxDevice TxFacts RxNote RxDriver RxDevice RxFacts : Type 0} (entries setups copies : ℕ) (old new : Inner F TxNote TxDriver TxDevice TxFacts RxNote RxDriver RxDevice RxFacts) : Type 0 where
  pub entries_ : old.journal.entries.1 ≤ new.journal.entries.1 + entries
  pub setups_ : old.journal.setups.1 ≤ new.journal.setups.1 + setups
  pub copies_ : length old.copies ≤ length new.copies + copies
  pub most : length new.journal.entries.0 ≤ length old.journal.entries.0 + entries
