use Rattle.std.proofs.Common.{◌≡◌, ◌∙◌, Some, ap, arith, length, subst, sym}
use Rattle.std.proofs.lemmas.List.{with_items_is}
use Rattle.pl_node.specs.PortRecords.{ports_of_switch}
use Rattle.pl_steps.specs.Taken.{IsTaken}
use Rattle.pl_switch_rule.specs.Granting.{grants_remembered}
use Rattle.pl_migrate.specs.AddressTables.{AddressTableView, edge_at, empty_address_table, sources_in}
use Rattle.pl_edge.specs.EdgeViews.{EdgeView, edge_in, KeepsAddressTable}
use Rattle.pl_edge.proofs.Placing.{edge_of, settled}
use Rattle.pl_edge.proofs.edge_table.EdgeTable.placed.Goals as goal

pub returns-clause-taken : goal.returns-clause-taken
returns-clause-taken c = λ v.
    let inside = c.self.inside in
    let edge : EdgeView = edge_of inside.k inside.address_table inside.remembered.items inside.members in
    let address_table = c.in_ok-address_table.address_table in
    let after = c.learn_all_remembered.new.self in
    let sources = c.learn_all_remembered.new.remembered in
    let told = c.learn_all_remembered.new.out in
    let many : length sources ≡ inside.remembered.len = omega (arith, c.in_ok-learn_all_remembered.ensures.many, ap length c.as_mut_slice.ensures.value, inside.remembered.ok.0) in
    subst (λ kept. IsTaken (grants_remembered (ports_of_switch c.args.self.now.k) (record (edge_in c.args.self.now v) { place = edge_at c.args.pod c.args.position }))
    (edge_in (edge_of inside.k (Some after) kept inside.members) v) c.args.out.now told) (sym (with_items_is inside.remembered sources many))
    (subst (λ (e : EdgeView). IsTaken (grants_remembered (ports_of_switch e.k) (record (edge_in e v) { place = edge_at c.args.pod c.args.position }))
    (edge_in (edge_of inside.k (Some after) sources inside.members) v) c.args.out.now told) c.self.view_is
    (settled edge c.args.pod c.args.position address_table after sources c.args.out.now told (ap (λ (e : EdgeView). e.address_table) c.self.view_is ∙ c.requires) c.in_ok-address_table.ensures
    (λ u. subst (λ r. IsTaken (grants_remembered (ports_of_switch inside.k) (sources_in address_table r u)) (sources_in after sources u) c.args.out.now told)
    c.as_mut_slice.ensures.value (c.in_ok-learn_all_remembered.ensures.taken u)) v))

pub returns-clause-address_table : goal.returns-clause-address_table
returns-clause-address_table c =
    subst (λ (b : AddressTableView). KeepsAddressTable (Some b) (Some c.learn_all_remembered.new.self))
    (c.in_ok-address_table.ensures ∙ ap (λ (e : EdgeView). empty_address_table e.k c.args.pod c.args.position) c.self.view_is)
    (c.in_ok-learn_all_remembered.ensures.kept, c.in_ok-learn_all_remembered.ensures.traps)
