use Rattle.std.proofs.Common.{subst}
use Rattle.pl_wiring.specs.Plan.{IsPlan, Plan}
use Rattle.pl_watch_run.proofs.Ending.{ends_so}
use Rattle.pl_watch_run.proofs.watching.close.Goals as goal

pub end-shelf-requires : goal.end-shelf-requires
end-shelf-requires g c = c.requires

pub returns : goal.returns
returns g c = λ i played.
    ends_so g.S.SwitchLogic.rule g.M.ManagerLogic.rule g.H.HostLogic.rule c.args.log.look i (g.D.Shelf.moment c.end-shelf.result.0) c.args.world.now
    c.the_journal_stands_in_the_log.ensures (subst (λ (p : Plan). IsPlan p) c.wiring.ensures c.hosts-hosts.ensures.plan)
    (c.end-shelf.ensures.logged c.if-not-is_written.false) c.args.status played
