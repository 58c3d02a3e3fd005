use Rattle.std.proofs.Common.{ap, subst}
use Rattle.pl_watch.specs.Logs.{lost_lines}
use Rattle.pl_log_lines.specs.Pages.{PageView}
use Rattle.pl_watch.specs.Seen.{Kept}
use Rattle.pl_log_lines.specs.Telling.{Tells}
use Rattle.pl_watch.proofs.chronicle.Chronicle.tell_lost.Goals as goal

pub tell_lost-requires-clause-allowed : goal.tell_lost-requires-clause-allowed
tell_lost-requires-clause-allowed g c = c.requires.allowed

pub tell_lost-requires-clause-node : goal.tell_lost-requires-clause-node
tell_lost-requires-clause-node g c = c.requires.node

pub returns-clause-told : goal.returns-clause-told
returns-clause-told g c =
    subst (λ (p : PageView). Tells p c.tell_lost.new.page c.args.told.now c.tell_lost.new.told (lost_lines c.args.world.now c.args.event.now))
    (ap (λ (k : Kept). k.page) c.self.view_is) c.tell_lost.ensures

pub returns-clause-kept : goal.returns-clause-kept
returns-clause-kept g c = ap (λ (k : Kept). record k { page = c.tell_lost.new.page }) c.self.view_is
