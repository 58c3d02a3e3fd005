use Rattle.std.proofs.Common.{ap, subst}
use Rattle.pl_log_lines.specs.Pages.{PageView}
use Rattle.pl_watch.specs.Seen.{Kept}
use Rattle.pl_log_lines.specs.Telling.{TellsEvent}
use Rattle.pl_watch.proofs.chronicle.Chronicle.begin_event.Goals as goal

pub returns-clause-page : goal.returns-clause-page
returns-clause-page g c =
    subst (λ (p : PageView). TellsEvent p c.begin_event.new.self c.args.told.now c.begin_event.new.told) (ap (λ (k : Kept). k.page) c.self.view_is)
    c.begin_event.ensures

pub returns-clause-kept : goal.returns-clause-kept
returns-clause-kept g c = ap (λ (k : Kept). record k { page = c.begin_event.new.self }) c.self.view_is
