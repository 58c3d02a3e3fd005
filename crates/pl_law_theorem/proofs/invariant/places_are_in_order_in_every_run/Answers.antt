use Rattle.pl_law_theorem.proofs.invariant.places_are_in_order_in_every_run.Goals as goal

pub returns : goal.returns
returns g c = λ plan limits moments new can run. record {
  placing = c.every_run_keeps_edge_switches_placing.ensures plan limits moments new can run;
  below = c.each_number_given_is_below_the_number_of_pods.ensures plan limits moments new can run;
  one_byte = c.pods_and_positions_are_of_one_byte_in_every_run.ensures plan limits moments new can run;
}
