use Rattle.std.proofs.Common.{OnOk, ap, ◌∙◌, subst}
use Rattle.pl_watch.specs.Seen.{Kept, ToldOfManager}
use Rattle.pl_watch.proofs.Hearing.{on_always}
use Rattle.pl_watch.proofs.chronicle.Chronicle.tell_manager.Goals as goal

pub manager_hears-requires-clause-orderly : goal.manager_hears-requires-clause-orderly
manager_hears-requires-clause-orderly g c = c.requires.orderly

pub manager_hears-requires-clause-same : goal.manager_hears-requires-clause-same
manager_hears-requires-clause-same g c = ap (λ (k : Kept). k.manager) c.self.view_is ∙ c.requires.same

pub manager_hears-requires-clause-there : goal.manager_hears-requires-clause-there
manager_hears-requires-clause-there g c = c.requires.there

pub manager_hears-requires-clause-unspent : goal.manager_hears-requires-clause-unspent
manager_hears-requires-clause-unspent g c = c.requires.unspent

pub returns-clause-told : goal.returns-clause-told
returns-clause-told g c =
    subst (λ (k : Kept). OnOk c.manager_hears.result (ToldOfManager g.M.ManagerLogic.rule c.args.world.now.plan c.args.s.0 c.args.says.now k.manager
    (g.M.ManagerLogic.view c.manager_hears.new.manager) k.page c.manager_hears.new.page c.args.told.now c.manager_hears.new.told)) c.self.view_is
    c.manager_hears.ensures

pub returns-clause-kept : goal.returns-clause-kept
returns-clause-kept g c =
    on_always c.manager_hears.result _ (ap (λ (k : Kept). record k {
      page = c.manager_hears.new.page;
      manager = g.M.ManagerLogic.view c.manager_hears.new.manager;
    }) c.self.view_is)
