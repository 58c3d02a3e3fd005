use Rattle.std.proofs.Common.{◌≡◌, ◌∙◌, List, None, Some, ap, map, sym, false}
use Rattle.std.specs.Map.{lookup}
use Rattle.pl_pmac.specs.declared.pmac.Pmac.{Pmac}
use Rattle.pl_layouts.specs.Equality.{same_pmac}
use Rattle.pl_manager_rule.specs.Reports.{reported_leads}
use Rattle.pl_registry.specs.Addresses.{recall_of}
use Rattle.pl_registry.specs.declared.reported_addresses.Reported.{Reported}
use Rattle.pl_registry.specs.ReportedAddresses.{all_reported}
use Rattle.pl_registry.proofs.Entries.{looked_up}
use Rattle.pl_registry.proofs.Reporting.{none_led, one_led}
use Rattle.pl_registry.proofs.reported_addresses.ReportedAddresses.lead.Goals as goal
use Rattle.pl_registry.proofs.reported_addresses.ReportedAddresses.lead.Goals.{in-Some, in_default}

pub returns : goal.returns
returns c =
    let told : List (Pmac × Reported) = c.self.inside.told.entries in
    elim c.match-get_mut.branch [
      | in-Some w ↦
          let r : Reported = w.in-Some.reported.now in
          let new : Reported = record r { recall = Some c.args.to; aged = false } in
          let there : lookup (same_pmac c.args.pmac) told ≡ Some r = sym (w.in-Some.ensures.value ∙ looked_up c.args.pmac told) in
          (λ i. all_reported (w.self-inside-is i).told.entries)
          ∙ one_led c.args.pmac c.args.to r told (c.get_mut.follows.lender new).entries c.self.invariant there (c.get_mut.follows.holds new).0
          ∙ ap (map (reported_leads c.args.pmac (recall_of c.args.to))) c.self.view_is
      | in_default w ↦
          let none : lookup (same_pmac c.args.pmac) told ≡ None = sym (w.in_default.ensures.value ∙ looked_up c.args.pmac told) in
          (λ i. all_reported (w.self-inside-is i).told.entries) ∙ ap (λ m. all_reported m.entries) c.get_mut.follows.holds-at-none
          ∙ none_led c.args.pmac c.args.to told none ∙ ap (map (reported_leads c.args.pmac (recall_of c.args.to))) c.self.view_is
    ]
