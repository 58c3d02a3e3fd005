use Rattle.std.proofs.Common.{ap, ◌∙◌, subst, sym}
use Rattle.pl_shelf.specs.Held.{standard_output}
use Rattle.pl_watch.specs.Seen.{IsLogged, Kept}
use Rattle.pl_watch.proofs.Writing.{all_logged}
use Rattle.pl_watch.proofs.chronicle.Chronicle.end.Goals as goal

pub tell_entries-requires : goal.tell_entries-requires
tell_entries-requires g c = c.requires

pub returns-clause-logged : goal.returns-clause-logged
returns-clause-logged g c = λ done.
    let held = (g.D.Shelf.moment c.close.result.0).held standard_output in
    subst (λ l. IsLogged g.S.SwitchLogic.rule g.M.ManagerLogic.rule g.H.HostLogic.rule l held c.args.world.now) c.tell_entries.ensures.look
    (all_logged g.S.SwitchLogic.rule g.M.ManagerLogic.rule g.H.HostLogic.rule c.tell_entries.new.self c.args.world.now held c.tell_entries.ensures.seen
    c.tell_entries.ensures.all (sym (ap (λ (k : Kept). k.page.failed) c.self.view_is) ∙ c.close.ensures.failed done)
    (c.close.ensures.text done ∙ ap (λ (k : Kept). k.page.text) c.self.view_is))

pub returns-clause-faults : goal.returns-clause-faults
returns-clause-faults g c = c.close.ensures.faults
