use Rattle.std.proofs.Common.{◌≡◌, ◌∙◌, false, slice_get, sym, ap, subst}
use Rattle.std.specs.BTreeMap.{is_at}
use Rattle.std.specs.List.{list_any}
use Rattle.std.specs.List.Sorted.{IsStrictlySortedBy}
use Rattle.std.proofs.lemmas.Option.{get_or_from_slice_get}
use Rattle.pl_node.specs.ManagerViews.{Told, id_cmp}
use Rattle.pl_reports.specs.Kept.{has_told, no_report, report_of}
use Rattle.pl_reports.proofs.KeepingReports.{found_report, found_told, kept_rises, unknown}
use Rattle.pl_reports.proofs.reports.Reports.of.Goals as goal

pub position-requires : goal.position-requires
position-requires c =
    subst (IsStrictlySortedBy id_cmp) (sym c.as_slice.ensures.value)
    (kept_rises (record { places = c.self.inside.places.entries; links = c.self.inside.links.entries }) c.self.inside.speakers.items c.self.inside.placed
    c.self.inside.all.items c.self.invariant)

pub returns-in-Ok-clause-some : goal.returns-in-Ok-clause-some
returns-in-Ok-clause-some c =
    let there = ap (λ xs. slice_get xs c.in-Ok.at) (sym c.as_slice.ensures.value) ∙ c.in-Ok.ensures.found in
    c.index.ensures
    ∙ get_or_from_slice_get c.self.inside.all.items c.in-Ok.at (report_of (record { places = c.self.inside.places.entries; links = c.self.inside.links.entries }) c.args.switch) c.index.result.now
    (found_report (record { places = c.self.inside.places.entries; links = c.self.inside.links.entries }) c.self.inside.speakers.items c.self.inside.placed
    c.self.inside.all.items c.self.invariant c.in-Ok.at c.args.switch there)
    ∙ ap (λ (told : Told). report_of told c.args.switch) c.self.view_is

pub returns-in-Ok-clause-told : goal.returns-in-Ok-clause-told
returns-in-Ok-clause-told c =
    let there = ap (λ xs. slice_get xs c.in-Ok.at) (sym c.as_slice.ensures.value) ∙ c.in-Ok.ensures.found in
    sym (found_told (record { places = c.self.inside.places.entries; links = c.self.inside.links.entries }) c.self.inside.speakers.items c.self.inside.placed
    c.self.inside.all.items c.self.invariant c.in-Ok.at c.args.switch there)
    ∙ ap (λ (told : Told). has_told told c.args.switch) c.self.view_is

pub returns-in-Err-clause-none : goal.returns-in-Err-clause-none
returns-in-Err-clause-none c =
    let none = subst (λ xs. list_any (is_at (id_cmp c.args.switch)) xs ≡ false) c.as_slice.ensures.value c.in-Err.ensures.none in
    subst (λ (told : Told). report_of told c.args.switch ≡ no_report) c.self.view_is
    (unknown (record { places = c.self.inside.places.entries; links = c.self.inside.links.entries }) c.self.inside.speakers.items c.self.inside.placed
    c.self.inside.all.items c.self.invariant c.args.switch none)
