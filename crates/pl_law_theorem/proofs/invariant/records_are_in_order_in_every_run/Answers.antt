use Rattle.pl_law_theorem.proofs.invariant.records_are_in_order_in_every_run.Goals as goal

pub returns : goal.returns
returns g c = λ plan limits moments new can run.
    let reports = c.reports_are_kept_in_every_run.ensures plan limits moments new can run in
    let links = c.links_are_told_in_every_run.ensures plan limits moments new can run in
    let neighbours = c.links_to_neighbours_alone_are_told_usable_in_every_run.ensures plan limits moments new can run in
    let orders = c.orders_are_of_the_records_in_every_run.ensures plan limits moments new can run in
    let all = c.every_run_keeps_all_of_it.ensures plan limits moments new can run in
    record {
      reports = reports;
      links = links;
      neighbours = neighbours;
      orders = orders;
      current = c.records_are_current_at_rest.ensures _ all.counted.formed.plan all.gathered reports orders;
      pairs = c.usable_pairs_are_current_at_rest.ensures _ all.counted.formed.plan all.gathered links;
      joined = c.usable_links_are_those_of_the_wiring_at_rest.ensures _ all.counted.formed.plan all.gathered neighbours;
    }
