use Rattle.pl_world.specs.Booting.{booted}
use Rattle.pl_law_theorem.proofs.invariant.lawful_logic_keeps_the_invariant.Goals as goal

pub returns : goal.returns
returns g c = λ plan limits moments new can run few.
    let ruled = c.each_run_of_lawful_logic_is_a_run_of_the_rules.ensures (booted plan limits) moments new run in
    let loose = c.each_run_is_a_loose_run.ensures (booted plan limits) moments new run in
    record {
      kept = c.lawful_logic_keeps_all_of_it.ensures plan limits moments new can run;
      places = c.places_are_in_order_in_every_run.ensures plan limits moments new can ruled;
      hosts = c.hosts_are_in_order_in_every_run.ensures plan limits moments new can ruled few;
      records = c.records_are_in_order_in_every_run.ensures plan limits moments new can ruled;
      copies = c.copies_are_in_order_in_every_run.ensures plan limits moments new can ruled;
      restarts = c.restarts_are_counted_in_every_run.ensures plan limits moments new can run;
      joined = c.hosts_have_joined_what_their_frames_said_in_every_run.ensures plan limits moments new can loose;
      journaled = c.lawful_logic_writes_what_is_so.ensures plan limits moments new can run few;
      run = c.lawful_logic_is_one_lossy_switch.ensures.run plan limits moments new can run few;
      trails = c.lawful_logic_is_one_lossy_switch.ensures.trails plan limits moments new can run few;
      written = c.places_are_what_was_written_last_in_every_run.ensures plan limits moments new run;
      numbered = c.addresses_are_registered_in_order_in_every_run.ensures.last plan limits moments new run;
      placed = c.settled_runs_have_current_records_and_positions.ensures.placed plan limits moments new can run;
      registered = c.lawful_logic_registers_hosts_at_rest.ensures plan limits moments new can run;
    }
