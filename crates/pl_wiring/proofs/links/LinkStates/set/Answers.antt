use Rattle.std.proofs.Common.{arith, rules, Option, None, Some, IfNone, IsSome}
use Rattle.pl_wiring.specs.LiveLinks.{LivePorts, IsFor}
use Rattle.pl_wiring.specs.Peers.{LinksSwitches}
use Rattle.pl_wiring.proofs.Ends.{at_contained}
use Rattle.pl_wiring.proofs.Live.{made_for_changed, changed, others, flags_within}
use Rattle.pl_wiring.proofs.links.LinkStates.set.Goals as goal

some_unless : {X P : Type 0} (o : Option X) → IfNone o P → (P → ⊥) → IsSome o
some_unless None h f = absurd (f h)
some_unless (Some x) h f = search rules

pub unwrap-link-requires : goal.unwrap-link-requires
unwrap-link-requires c =
    let joined = c.requires.linked in
    some_unless c.link.result c.link.ensures.none
    (λ none. at_contained (λ l. LinksSwitches l c.args.a.0 c.args.b.0 → ⊥) c.args.wiring.now.links joined.1 none (joined.0, joined.2, joined.3) joined.4)

pub index_mut-requires : goal.index_mut-requires
index_mut-requires c =
    let found = (rw c.unwrap-link.ensures at c.link.ensures.found) in
    let states : LivePorts = record { k = c.self.inside.k; flags = c.self.inside.flags.items } in
    let for : IsFor c.args.wiring.now states = rw c.self.view_is c.requires.made_for in
    let within = flags_within c.args.wiring.now states c.unwrap-link.result c.link.ensures.plan.tree for found.0 in
    let ok = c.self.inside.flags.ok in omega (arith, within.0, c.index_in_table.ensures)

pub index_mut-requires-2 : goal.index_mut-requires-2
index_mut-requires-2 c =
    let found = (rw c.unwrap-link.ensures at c.link.ensures.found) in
    let states : LivePorts = record { k = c.self.inside.k; flags = c.self.inside.flags.items } in
    let for : IsFor c.args.wiring.now states = rw c.self.view_is c.requires.made_for in
    let within = flags_within c.args.wiring.now states c.unwrap-link.result c.link.ensures.plan.tree for found.0 in
    let ok = c.self.inside.flags.ok in omega (arith, within.1, c.index_in_table-2.ensures)

pub returns-clause-made_for : goal.returns-clause-made_for
returns-clause-made_for c =
    let found = (rw c.unwrap-link.ensures at c.link.ensures.found) in
    let states : LivePorts = record { k = c.self.inside.k; flags = c.self.inside.flags.items } in
    let for : IsFor c.args.wiring.now states = rw c.self.view_is c.requires.made_for in
    rw (c.index_in_table.ensures, c.index_in_table-2.ensures)
    (made_for_changed c.args.wiring.now states c.unwrap-link.result c.args.live c.link.ensures.plan.tree for found.0)

pub returns-clause-changed : goal.returns-clause-changed
returns-clause-changed c =
    let found = (rw c.unwrap-link.ensures at c.link.ensures.found) in
    let states : LivePorts = record { k = c.self.inside.k; flags = c.self.inside.flags.items } in
    let for : IsFor c.args.wiring.now states = rw c.self.view_is c.requires.made_for in
    rw (c.index_in_table.ensures, c.index_in_table-2.ensures)
    (changed c.args.wiring.now states c.unwrap-link.result c.args.live c.args.a.0 c.args.b.0 c.link.ensures.plan.tree for found.0 found.1)

pub returns-clause-others : goal.returns-clause-others
returns-clause-others c =
    let found = (rw c.unwrap-link.ensures at c.link.ensures.found) in
    let states : LivePorts = record { k = c.self.inside.k; flags = c.self.inside.flags.items } in
    let for : IsFor c.args.wiring.now states = rw c.self.view_is c.requires.made_for in
    rw (c.index_in_table.ensures, c.index_in_table-2.ensures, ← c.self.view_is)
    (others c.args.wiring.now states c.unwrap-link.result c.args.live c.args.a.0 c.args.b.0 c.link.ensures.plan.tree for found.0 found.1)
