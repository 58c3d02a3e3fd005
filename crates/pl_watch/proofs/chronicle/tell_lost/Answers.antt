use Rattle.std.proofs.Common.{sym, ◌∙◌}
use Rattle.pl_watch.proofs.Losing.{leaves_there, lost_told}
use Rattle.pl_watch.proofs.chronicle.tell_lost.Goals as goal

pub tell_first-requires-clause-switch : goal.tell_first-requires-clause-switch
tell_first-requires-clause-switch g c =
    (leaves_there c.args.world.now c.args.event.now c.in-Some.s c.in-Some.port c.requires.allowed (sym c.leaving.ensures ∙ c.in-Some.is)).0

pub tell_first-requires-clause-port : goal.tell_first-requires-clause-port
tell_first-requires-clause-port g c =
    (leaves_there c.args.world.now c.args.event.now c.in-Some.s c.in-Some.port c.requires.allowed (sym c.leaving.ensures ∙ c.in-Some.is)).1

pub returns : goal.returns
returns g c =
    lost_told c.args.world.now c.args.event.now c.in-Some.s c.in-Some.port c.args.page.now c.tell_first.new.page c.args.told.now c.tell_first.new.told
    c.requires.node (sym c.leaving.ensures ∙ c.in-Some.is) c.tell_first.ensures
