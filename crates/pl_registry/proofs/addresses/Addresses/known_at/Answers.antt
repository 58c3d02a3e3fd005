use Rattle.std.proofs.Common.{◌∙◌, ap, map, sym, List}
use Rattle.std.specs.List.{find}
use Rattle.std.specs.Option.{option_map}
use Rattle.pl_layouts.specs.Equality.{same_pmac}
use Rattle.pl_node.specs.ManagerViews.{LearntAddress, Registration, registered_as}
use Rattle.pl_registry.specs.declared.addresses.Known.{Known}
use Rattle.pl_registry.specs.Addresses.{learnt_at}
use Rattle.pl_registry.proofs.Entries.{looked_up}
use Rattle.pl_registry.proofs.Finding.{found_at, host_found}
use Rattle.pl_registry.proofs.addresses.Addresses.known_at.Goals as goal

pub returns-clause-address : goal.returns-clause-address
returns-clause-address c =
    ap (find (λ (a : LearntAddress). same_pmac a.pmac c.args.pmac)) (sym c.self.view_is)
    ∙ found_at c.args.pmac c.self.inside.known.entries c.self.invariant.once
    ∙ ap (option_map (learnt_at c.args.pmac)) (sym (c.copied.ensures ∙ c.get.ensures.value ∙ looked_up c.args.pmac c.self.inside.known.entries))

pub returns-clause-host : goal.returns-clause-host
returns-clause-host c =
    ap (λ (v : List LearntAddress). option_map (λ (r : Registration). r.amac) (find (λ (r : Registration). same_pmac r.pmac c.args.pmac) (map registered_as v)))
    (sym c.self.view_is)
    ∙ host_found c.self.inside.known.entries c.args.pmac c.self.invariant.once
    ∙ ap (option_map (λ (k : Known). k.amac)) (sym (c.copied.ensures ∙ c.get.ensures.value ∙ looked_up c.args.pmac c.self.inside.known.entries))
