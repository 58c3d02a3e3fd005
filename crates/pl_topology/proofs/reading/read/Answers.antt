use Rattle.std.proofs.Common.{◌≡◌, Ok, sym, subst, ◌∙◌, List}
use Rattle.std.specs.List.{All}
use Rattle.toml.specs.View.{table_view}
use Rattle.pl_topology.specs.declared.entries.LinkEntry.{LinkEntry}
use Rattle.pl_topology.specs.Checks.{addresses_differ, ids_differ, joins_the_tree, names_differ, ports_differ}
use Rattle.pl_topology.specs.Entries.{NamesSwitches}
use Rattle.pl_topology.specs.FileEntries.{entries_view}
use Rattle.pl_topology.specs.Refusal.{each}
use Rattle.pl_topology.proofs.PlacedHosts.{hosts_fit}
use Rattle.pl_topology.proofs.PlanLemmas.{Agrees, agrees, arity_of-IsArity, entries_are, hosts_in_range, plan_of_entries-IsPlan}
use Rattle.pl_topology.proofs.reading.read.Goals as goal

pub ports_differ-requires-clause-links_in_range : goal.ports_differ-requires-clause-links_in_range
ports_differ-requires-clause-links_in_range c =
    (entries_are c.in-Some.k (table_view c.in_ok-document.document) (entries_view c.in_ok-entries.entries) c.in_ok-entries.ensures.exact).links

pub ports_differ-requires-clause-hosts_in_range : goal.ports_differ-requires-clause-hosts_in_range
ports_differ-requires-clause-hosts_in_range c =
    hosts_in_range c.in-Some.k (entries_view c.in_ok-entries.entries)
    (entries_are c.in-Some.k (table_view c.in_ok-document.document) (entries_view c.in_ok-entries.entries) c.in_ok-entries.ensures.exact)

pub join_the_tree-requires-clause-in_range : goal.join_the_tree-requires-clause-in_range
join_the_tree-requires-clause-in_range c =
    let in_range = (entries_are c.in-Some.k (table_view c.in_ok-document.document) (entries_view c.in_ok-entries.entries) c.in_ok-entries.ensures.exact).links in
    let P : List LinkEntry → Type 0 = λ xs. All (NamesSwitches c.in-Some.k) xs in
    subst P (sym c.deref-4.ensures.value) in_range

-- what has passed where the wiring is made
all_agree : (c : goal.In_ok-join_the_tree) → Agrees c.in-Some.k (entries_view c.in_ok-entries.entries)
all_agree c =
    let e = entries_view c.in_ok-entries.entries in
    let ids : ids_differ c.in-Some.k e.switches ≡ Ok tt = (rw c.deref.ensures.value at c.in_ok-ids_differ.ensures) in
    let names : names_differ e.hosts ≡ Ok tt = (rw c.deref-2.ensures.value at c.in_ok-names_differ.ensures) in
    let addresses : addresses_differ e.hosts ≡ Ok tt = (rw c.deref-3.ensures.value at c.in_ok-addresses_differ.ensures) in
    let ports : ports_differ c.in-Some.k e.links e.hosts ≡ Ok tt = c.in_ok-ports_differ.ensures in
    let adjacent : each (joins_the_tree c.in-Some.k) e.links ≡ Ok tt = (rw c.deref-4.ensures.value at (sym c.join_the_tree.ensures ∙ c.in_ok-join_the_tree.was)) in
    agrees c.in-Some.k (table_view c.in_ok-document.document) e c.in_ok-entries.ensures.exact ids names addresses ports adjacent

pub wiring-requires-clause-plan : goal.wiring-requires-clause-plan
wiring-requires-clause-plan c =
    let arity = arity_of-IsArity (table_view c.in_ok-document.document) c.in-Some.k (sym c.arity.ensures ∙ c.in-Some.is) in
    plan_of_entries-IsPlan c.in-Some.k (entries_view c.in_ok-entries.entries) arity (all_agree c)

pub wiring-requires-clause-links : goal.wiring-requires-clause-links
wiring-requires-clause-links c = (all_agree c).links.fit

pub wiring-requires-clause-hosts : goal.wiring-requires-clause-hosts
wiring-requires-clause-hosts c =
    let e = entries_view c.in_ok-entries.entries in hosts_fit c.in-Some.k e.links e.hosts (all_agree c).hosts
