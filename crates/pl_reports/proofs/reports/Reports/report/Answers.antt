use Rattle.std.proofs.Common.{refl}
use Rattle.pl_reports.proofs.KeepingReports.{kept_linked, kept_rises}
use Rattle.pl_reports.proofs.reports.Reports.report.Goals as goal

pub keep_link-requires-clause-rising : goal.keep_link-requires-clause-rising
keep_link-requires-clause-rising c =
    kept_rises (record { places = c.self.inside.places.entries; links = c.self.inside.links.entries }) c.self.inside.speakers.items c.self.inside.placed
    c.self.inside.all.items c.self.invariant

pub invariant_of-self : goal.invariant_of-self
invariant_of-self c =
    kept_linked (record { places = c.self.inside.places.entries; links = c.self.inside.links.entries }) c.self.inside.speakers.items c.self.inside.placed
    c.self.inside.all.items c.self.invariant c.args.switch c.args.neighbour c.args.usable c.keep_link.new.links.entries c.keep_link.new.speakers.items
    c.keep_link.new.all.items c.in-Ok.ensures.links c.in-Ok.ensures.speakers
    (c.in-Ok.ensures.all (record { places = c.self.inside.places.entries; links = c.self.inside.links.entries }) refl c.self.invariant.tellers c.self.invariant.each)
