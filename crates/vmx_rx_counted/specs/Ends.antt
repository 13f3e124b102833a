-- What contracts see of the two ends.
use Rattle.vmx_ring_laws.specs.Keys.{key_of}
use Rattle.vmx_ends.specs.Receive.{RxDeviceView, RxDriverView}
use Rattle.vmx_rx_ends.specs.Views.{device_seen, driver_seen}
use Rattle.vmx_rx_counted.specs.declared.device.RingRxDevice.{RingRxDevice}
use Rattle.vmx_rx_counted.specs.declared.driver.RingRxDriver.{RingRxDriver}

abbrev pub device_view : RingRxDevice → RxDeviceView
device_view d = device_seen (key_of d.filler.seat.table_id) d.filler.seat.me.0

abbrev pub driver_view : RingRxDriver → RxDriverView
driver_view d = driver_seen (key_of d.reader.seat.table_id) d.reader.seat.me.0
