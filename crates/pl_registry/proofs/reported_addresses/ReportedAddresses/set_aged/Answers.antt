use Rattle.std.proofs.Common.{◌≡◌, ◌∙◌, List, None, Some, ap, map, sym, true}
use Rattle.std.specs.Map.{lookup}
use Rattle.pl_pmac.specs.declared.pmac.Pmac.{Pmac}
use Rattle.pl_layouts.specs.Equality.{same_pmac}
use Rattle.pl_manager_rule.specs.Reports.{reported_ages}
use Rattle.pl_registry.specs.declared.reported_addresses.Reported.{Reported}
use Rattle.pl_registry.specs.ReportedAddresses.{all_reported}
use Rattle.pl_registry.proofs.Entries.{looked_up}
use Rattle.pl_registry.proofs.Reporting.{none_aged, one_aged}
use Rattle.pl_registry.proofs.reported_addresses.ReportedAddresses.set_aged.Goals as goal
use Rattle.pl_registry.proofs.reported_addresses.ReportedAddresses.set_aged.Goals.{in-Some, in_default}

pub returns : goal.returns
returns c =
    let told : List (Pmac × Reported) = c.self.inside.told.entries in
    elim c.match-get_mut.branch [
      | in-Some w ↦
          let r : Reported = w.in-Some.reported.now in
          let new : Reported = record r { aged = true } in
          let there : lookup (same_pmac c.args.pmac) told ≡ Some r = sym (w.in-Some.ensures.value ∙ looked_up c.args.pmac told) in
          (λ i. all_reported (w.self-inside-is i).told.entries)
          ∙ one_aged c.args.pmac r told (c.get_mut.follows.lender new).entries c.self.invariant there (c.get_mut.follows.holds new).0
          ∙ ap (map (reported_ages c.args.pmac)) c.self.view_is
      | in_default w ↦
          let none : lookup (same_pmac c.args.pmac) told ≡ None = sym (w.in_default.ensures.value ∙ looked_up c.args.pmac told) in
          (λ i. all_reported (w.self-inside-is i).told.entries) ∙ ap (λ m. all_reported m.entries) c.get_mut.follows.holds-at-none
          ∙ none_aged c.args.pmac told none ∙ ap (map (reported_ages c.args.pmac)) c.self.view_is
    ]
