use Rattle.std.proofs.Common.{◌≡◌, ◌<◌, Some, slice_get, subst, sym}
use Rattle.pl_wiring.specs.Labels.{switch_count}
use Rattle.pl_wiring.specs.Plan.{Plan}
use Rattle.pl_watch.proofs.Hearing.{manager_told_of, may_hear}
use Rattle.pl_watch.proofs.chronicle.manager_hears.Goals as goal

pub id-requires : goal.id-requires
id-requires g c = subst (λ (p : Plan). c.args.s.0 < switch_count p.k) (sym c.wiring.ensures) c.requires.there

pub hears-requires : goal.hears-requires
hears-requires g c =
    may_hear c.args.world.now (g.M.ManagerLogic.view c.args.manager.now) c.requires.same c.requires.orderly c.requires.unspent c.args.s.0 c.id.result
    (subst (λ (p : Plan). slice_get p.ids c.args.s.0 ≡ Some c.id.result) c.wiring.ensures c.id.ensures)

pub returns : goal.returns
returns g c =
    manager_told_of c.wiring_index.result.now c.args.world.now.plan c.wiring_index.ensures c.args.page.now c.tell_of_manager.new.page c.args.told.now
    c.tell_of_manager.new.told g.M.ManagerLogic.rule c.args.s.0 c.args.says.now (g.M.ManagerLogic.view c.args.manager.now)
    (g.M.ManagerLogic.view c.hears.new.self) c.id.result _ _ (subst (λ (p : Plan). slice_get p.ids c.args.s.0 ≡ Some c.id.result) c.wiring.ensures c.id.ensures)
    c.new-acts.ensures c.in_ok-hears.ensures.step c.tell_of_manager.ensures
