use Rattle.pl_law_theorem.proofs.invariant.copies_are_in_order_in_every_run.Goals as goal

pub returns : goal.returns
returns g c = λ plan limits moments new can run. record {
  trees = c.what_is_told_and_ordered_is_so_in_every_run.ensures.trees plan limits moments new can run;
  around = c.what_is_told_and_ordered_is_so_in_every_run.ensures.around plan limits moments new can run;
  once = c.one_copy_may_come_to_each_port_in_every_run.ensures plan limits moments new can run;
  alone = c.frames_of_a_root_are_alone_in_every_run.ensures plan limits moments new can run;
}
