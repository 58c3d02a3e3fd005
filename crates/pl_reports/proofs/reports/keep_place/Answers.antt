use Rattle.pl_reports.proofs.Entered.{report_placed}
use Rattle.pl_reports.proofs.reports.keep_place.Goals as goal

pub returns-clause-all : goal.returns-clause-all
returns-clause-all c told are kept =
    report_placed told c.args.switch c.args.place c.args.speakers.now.items c.enter.new.speakers.items c.args.all.now.items c.enter.new.all.items
    c.move_to.new.all.items c.in_ok-at.at are kept c.in_ok-at.ensures.at c.in_ok-at.ensures.all c.in_ok-at.ensures.there c.move_to.ensures
