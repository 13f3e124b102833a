-- Laws of the device's state: one more turn; no failing check has the number 0; a GET changes nothing; an update keeps queues and rings.
use Rattle.std.proofs.Common.{◌≡◌, ◌≢◌, ℕ, List, [], ◌∷◌, ◌++◌, Bool, true, false, refl, ap, ◌∙◌, arith}
use Rattle.std.specs.Prelude.{Option, Some, None, option_map, unwrap_or, ◌==◌, if◌then◌else◌}
use Rattle.vmx_shared_area.specs.FaultNumber.{number_of}
use Rattle.vmx_shared_area.specs.declared.fault.ImageFault.{ImageFault}
use Rattle.vmx_shared_area.specs.declared.fault.ImageFault.TheVariants.{Magic, Queues, RingSize, CompSize, Address, Mtu, Filter, Rss, Interrupt}
use Rattle.vmx_device_state.specs.Orders.{order_of}
use Rattle.vmx_shared_area.specs.Tells.{mode_of}
use Rattle.vmx_device_state.specs.SetupView.{RssView, SetupView}
use Rattle.vmx_device_state.specs.DeviceState.{DeviceState, unless, with_table, updated, after_order, after_answer, after_turn, state_from}
use Rattle.vmx_device_state.specs.declared.order.Order.{Order}
use Rattle.vmx_device_state.specs.declared.order.Order.TheVariants.{Get}
use Rattle.vmx_device_state.specs.declared.order.Part.{Part}
use Rattle.vmx_device_state.specs.declared.order.Part.TheVariants.{Mode, Macs, Vlans, Table, Levels, Features}
use Rattle.vmx_device_state.specs.declared.turn.Turn.{Turn}

pub state_snoc : (d : DeviceState) (ts : List Turn) (t : Turn) → state_from d (ts ++ t ∷ []) ≡ after_turn (state_from d ts) t
state_snoc d [] t = refl
state_snoc d (x ∷ ts) t = state_snoc (after_turn d x) ts t

pub number_not_zero : (f : ImageFault) → number_of f ≢ 0
number_not_zero (Magic found) e = omega (arith, e)
number_not_zero (Queues found) e = omega (arith, e)
number_not_zero (RingSize found) e = omega (arith, e)
number_not_zero (CompSize found) e = omega (arith, e)
number_not_zero (Address found) e = omega (arith, e)
number_not_zero (Mtu found) e = omega (arith, e)
number_not_zero (Filter found) e = omega (arith, e)
number_not_zero (Rss found) e = omega (arith, e)
number_not_zero (Interrupt found) e = omega (arith, e)

same_either : (b : Bool) (d : DeviceState) → (if b then d else d) ≡ d
same_either true d = refl
same_either false d = refl

pub get_keeps : (d : DeviceState) (number : ℕ) (image : List ℕ) (answer : ℕ) → order_of number ≡ Get → after_answer d number image answer ≡ d
get_keeps d number image answer e = ap (λ (o : Order). if answer == 0 then after_order o d image else d) e ∙ same_either (answer == 0) d

-- What no update takes anew: the numbers of queues, the sizes of rings, data rings, the MTU, and whether interrupts mask themselves.
pub record KeepsQueues (old new : SetupView) : Type 0 where
  pub tx_queues : new.tx_queues ≡ old.tx_queues
  pub rx_queues : new.rx_queues ≡ old.rx_queues
  pub tx_ring : new.tx_ring ≡ old.tx_ring
  pub rx_ring1 : new.rx_ring1 ≡ old.rx_ring1
  pub rx_ring2 : new.rx_ring2 ≡ old.rx_ring2
  pub mtu : new.mtu ≡ old.mtu
  pub auto_mask : new.auto_mask ≡ old.auto_mask
  pub tx_data : new.tx_data ≡ old.tx_data
  pub rx_data : new.rx_data ≡ old.rx_data

kept : (s : SetupView) → KeepsQueues s s
kept s = record { tx_queues = refl; rx_queues = refl; tx_ring = refl; rx_ring1 = refl; rx_ring2 = refl; mtu = refl; auto_mask = refl; tx_data = refl; rx_data = refl }

kept_unless : (f : Option ImageFault) (old new : SetupView) → KeepsQueues old new → KeepsQueues old (unwrap_or (unless f new) old)
kept_unless None old new k = k
kept_unless (Some f) old new k = kept old

kept_mode : (old : SetupView) (m : Option ℕ) → KeepsQueues old (unwrap_or (option_map (λ n. record old { mode = n }) m) old)
kept_mode old None = kept old
kept_mode old (Some m) = record { tx_queues = refl; rx_queues = refl; tx_ring = refl; rx_ring1 = refl; rx_ring2 = refl; mtu = refl; auto_mask = refl; tx_data = refl; rx_data = refl }

kept_table : (old : SetupView) (r : Option RssView) (image : List ℕ) → KeepsQueues old (unwrap_or (with_table old r image) old)
kept_table old None image = kept old
kept_table old (Some r) image = kept_unless _ old _ (record { tx_queues = refl; rx_queues = refl; tx_ring = refl; rx_ring1 = refl; rx_ring2 = refl; mtu = refl; auto_mask = refl; tx_data = refl; rx_data = refl })

-- An update keeps the numbers of queues and the rings, whether it is taken or not.
pub update_keeps : (part : Part) (old : SetupView) (image : List ℕ) → KeepsQueues old (unwrap_or (updated part old image) old)
update_keeps Mode old image = kept_mode old (mode_of image)
update_keeps Macs old image = kept_unless _ old _ (record { tx_queues = refl; rx_queues = refl; tx_ring = refl; rx_ring1 = refl; rx_ring2 = refl; mtu = refl; auto_mask = refl; tx_data = refl; rx_data = refl })
update_keeps Vlans old image = record { tx_queues = refl; rx_queues = refl; tx_ring = refl; rx_ring1 = refl; rx_ring2 = refl; mtu = refl; auto_mask = refl; tx_data = refl; rx_data = refl }
update_keeps Table old image = kept_table old old.rss image
update_keeps Levels old image = record { tx_queues = refl; rx_queues = refl; tx_ring = refl; rx_ring1 = refl; rx_ring2 = refl; mtu = refl; auto_mask = refl; tx_data = refl; rx_data = refl }
update_keeps Features old image = kept_unless _ old _ (record { tx_queues = refl; rx_queues = refl; tx_ring = refl; rx_ring1 = refl; rx_ring2 = refl; mtu = refl; auto_mask = refl; tx_data = refl; rx_data = refl })
