use Rattle.pl_reports.proofs.KeepingReports.{kept_placed, kept_rises}
use Rattle.pl_reports.proofs.reports.Reports.set_place.Goals as goal

pub keep_place-requires-clause-rising : goal.keep_place-requires-clause-rising
keep_place-requires-clause-rising c =
    kept_rises (record { places = c.self.inside.places.entries; links = c.self.inside.links.entries }) c.self.inside.speakers.items c.self.inside.placed
    c.self.inside.all.items c.self.invariant

pub invariant_of-self : goal.invariant_of-self
invariant_of-self c =
    kept_placed (record { places = c.self.inside.places.entries; links = c.self.inside.links.entries }) c.self.inside.speakers.items c.self.inside.placed
    c.self.inside.all.items c.self.invariant c.args.switch c.args.place c.keep_place.new.places.entries c.keep_place.new.speakers.items
    c.keep_place.new.placed c.keep_place.new.all.items c.in-Ok.ensures.places c.in-Ok.ensures.speakers c.in-Ok.ensures.placed
    (c.in-Ok.ensures.all (record { places = c.self.inside.places.entries; links = c.self.inside.links.entries }) c.self.invariant.tellers c.self.invariant.each)
