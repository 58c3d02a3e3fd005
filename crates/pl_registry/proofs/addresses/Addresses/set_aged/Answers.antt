use Rattle.std.proofs.Common.{◌≡◌, ◌∙◌, ap, map, sym, List, Some, None}
use Rattle.std.specs.Map.{lookup}
use Rattle.indexmap.specs.IndexMap.{insert_entry}
use Rattle.pl_layouts.specs.Equality.{same_pmac}
use Rattle.pl_node.specs.ManagerViews.{LearntAddress}
use Rattle.pl_manager_rule.specs.ManagerRule.{ages_now}
use Rattle.pl_registry.proofs.Entries.{each_once, looked_up, put_in}
use Rattle.pl_registry.proofs.Finding.{aged_known, found_aged, is_aged, none_aged}
use Rattle.pl_registry.proofs.addresses.Addresses.set_aged.Goals as goal

there : (c : goal.In_ok-insert-in-Some) → lookup (same_pmac c.args.pmac) c.self.inside.known.entries ≡ Some c.in-Some.known
there c = sym (c.in-Some.ensures ∙ c.get.ensures.value ∙ looked_up c.args.pmac c.self.inside.known.entries)

put : (c : goal.In_ok-insert-in-Some) → c.insert.new.self.entries ≡ insert_entry same_pmac c.self.inside.known.entries c.args.pmac (aged_known c.in-Some.known)
put c = c.in_ok-insert-in-Some.ensures.entries ∙ put_in c.args.pmac (aged_known c.in-Some.known) c.self.inside.known.entries

pub invariant_of-self-in-Some : goal.invariant_of-self-in-Some
invariant_of-self-in-Some c =
    found_aged c.self.inside.known.entries c.insert.new.self.entries c.self.inside.newest.entries c.args.pmac c.in-Some.known c.self.invariant (there c) (put c)
    (each_once c.insert.new.self.entries c.in_ok-insert-in-Some.ensures.unique)

pub returns-in_ok-insert-in-Some-clause-ok : goal.returns-in_ok-insert-in-Some-clause-ok
returns-in_ok-insert-in-Some-clause-ok c =
    is_aged c.self.inside.known.entries c.insert.new.self.entries c.self.inside.newest.entries c.args.pmac c.in-Some.known c.self.invariant (there c) (put c)
    ∙ ap (λ (v : List LearntAddress). map (ages_now c.args.pmac) v) c.self.view_is

pub returns-in-None-clause-ok : goal.returns-in-None-clause-ok
returns-in-None-clause-ok c =
    let none : lookup (same_pmac c.args.pmac) c.self.inside.known.entries ≡ None = sym (c.in-None.ensures ∙ c.get.ensures.value ∙ looked_up c.args.pmac c.self.inside.known.entries) in
    sym c.self.view_is ∙ none_aged c.args.pmac c.self.inside.known.entries none ∙ ap (λ (v : List LearntAddress). map (ages_now c.args.pmac) v) c.self.view_is
