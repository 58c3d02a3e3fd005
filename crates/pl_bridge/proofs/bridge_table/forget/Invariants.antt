use Rattle.std.proofs.Common.{◌≡◌}
use Rattle.pl_members.specs.Reached.{AreMembersAtPorts}
use Rattle.pl_bridge.proofs.Entries.{without}
use Rattle.pl_bridge.proofs.bridge_table.forget.Given as goal

-- what is left has no entries of the address at the ports so far
abbrev pub invariant-loop-port : goal.invariant-loop-port
invariant-loop-port l = record {
  keys : l.learnt.keys ≡ without l.port l.fn.mac l.initial.learnt.keys;
  at_ports : AreMembersAtPorts l.learnt.keys;
}
