use Rattle.std.proofs.Common.{◌≡◌, ◌-◌, ◌≤◌, length, take, drop, replicate}
use Rattle.std.specs.List.{filter, range_with_len}
use Rattle.vmx_switch.specs.declared.answer.TheConstants.{MAX_PORTS}
use Rattle.vmx_switch.specs.Ports.{is_target as is_target_of}
use Rattle.vmx_switch.proofs.forwarding.targets.Given as goal

abbrev pub invariant-loop-port : goal.invariant-loop-port
invariant-loop-port l = record {
  long : length l.ports ≡ MAX_PORTS;
  behind : l.count ≤ l.port;
  found : take l.count l.ports ≡ filter (is_target_of l.table l.from l.frame) (range_with_len 0 l.port);
  rest : drop l.count l.ports ≡ replicate (MAX_PORTS - l.count) 0;
}
