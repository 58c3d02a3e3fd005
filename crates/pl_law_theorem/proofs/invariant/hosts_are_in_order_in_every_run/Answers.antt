use Rattle.pl_law_theorem.proofs.invariant.hosts_are_in_order_in_every_run.Goals as goal

pub returns : goal.returns
returns g c = λ plan limits moments new can run few. record {
  apart = c.no_two_hosts_stand_at_one_place.ensures plan limits moments new can run;
  remembered = c.unplaced_edge_switches_remember_hosts.ensures plan limits moments new can run;
  being_registered = c.hosts_are_being_registered_in_every_run.ensures plan limits moments new can run;
  granted = c.the_journal_says_what_was_granted_in_every_run.ensures plan limits moments new can run few;
  led = c.each_trap_leads_to_a_newer_address_in_every_run.ensures plan limits moments new can run few;
  stood = c.addresses_are_granted_where_hosts_stood.ensures plan limits moments new can run;
}
