use Rattle.std.proofs.Common.{◌≡◌, ◌==◌, ◌&&◌, ℕ, not, List, [], take, ap, Some}
use Rattle.std.specs.List.{list_all}
use Rattle.vmx_shared_area.specs.Layout.{bit}
use Rattle.vmx_model.specs.Ranges.{is_group}
use Rattle.vmx_generator.proofs.setups.setup.Goals as goal

pub returns : goal.returns
returns c =
    let d = c.by_default-setup.ensures.default in
    let macs = c.by_default-setup.result.filter.multicast.macs in
    let none : take c.by_default-setup.result.filter.multicast.count macs ≡ [] = ap (λ (n : ℕ). take n macs) d.multicast in
    record {
      setup = λ i. record {
        tx_queues = 2;
        rx_queues = 4;
        tx_ring = d.tx_ring i;
        rx_ring1 = d.rx_ring1 i;
        rx_ring2 = d.rx_ring2 i;
        mtu = d.mtu i;
        mode = c.mode-setup.ensures.mode i;
        macs = none i;
        vlans = d.vlans i;
        rss = Some (c.rss.ensures.rss i);
        auto_mask = bit (d.auto_mask i);
        levels = d.levels i;
        tx_data = d.tx_data i;
        rx_data = d.rx_data i;
        strip = d.strip i;
        csum = d.csum i;
      };
      fits = λ i. (d.auto_mask i && not (d.csum i)) && (list_all (λ (level : ℕ). level == 0) (d.levels i) && list_all is_group (none i));
    }
