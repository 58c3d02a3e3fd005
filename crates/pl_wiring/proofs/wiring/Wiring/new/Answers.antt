use Rattle.std.proofs.Common.{arith}
use Rattle.pl_wiring.proofs.wiring.Wiring.new.Goals as goal

pub invariant_of-result : goal.invariant_of-result
invariant_of-result c = record {
  plan = c.requires;
  links_by_port = (rw c.deref.ensures.value at c.in_ok-link_at.ensures.index);
  hosts_by_port = (rw c.deref-2.ensures.value at c.in_ok-host_at.ensures.index);
  hosts_by_name = (rw c.deref-3.ensures.value at c.in_ok-names.ensures);
  link_room = (let ok = c.in_ok-link_at.link_at.ok in omega (arith, c.in_ok-link_at.ensures.long));
  host_room = (let ok = c.in_ok-host_at.host_at.ok in omega (arith, c.in_ok-host_at.ensures.long));
}
