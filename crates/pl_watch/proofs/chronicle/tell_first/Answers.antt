use Rattle.std.proofs.Common.{slice_get, subst}
use Rattle.pl_world.specs.Changes.{out_of}
use Rattle.pl_watch.specs.Logs.{lost_of}
use Rattle.pl_log_lines.specs.Telling.{Tells, node_in}
use Rattle.pl_watch.proofs.chronicle.tell_first.Goals as goal

pub first_out-first-requires-clause-switch : goal.first_out-first-requires-clause-switch
first_out-first-requires-clause-switch g c = c.requires.switch

pub first_out-first-requires-clause-port : goal.first_out-first-requires-clause-port
first_out-first-requires-clause-port g c = c.requires.port

pub returns : goal.returns
returns g c =
    subst (λ p. Tells c.args.page.now c.tell_unheard.new.page c.args.told.now c.tell_unheard.new.told
    (lost_of p (node_in c.args.told.now) (slice_get (out_of c.args.world.now c.args.s.0 c.args.port) 0))) c.wiring_index.ensures
    (subst (λ o. Tells c.args.page.now c.tell_unheard.new.page c.args.told.now c.tell_unheard.new.told
    (lost_of c.wiring_index.result.now (node_in c.args.told.now) o)) c.first_out-first.ensures c.tell_unheard.ensures)
