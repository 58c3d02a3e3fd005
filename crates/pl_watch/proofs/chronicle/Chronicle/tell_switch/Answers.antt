use Rattle.std.proofs.Common.{OnOk, map, ap, ◌∙◌, subst}
use Rattle.pl_schedule.specs.Coming.{coming_of}
use Rattle.pl_watch.specs.Seen.{Kept, ToldOfSwitch}
use Rattle.pl_watch.proofs.Hearing.{on_always}
use Rattle.pl_watch.proofs.chronicle.Chronicle.tell_switch.Goals as goal

pub switch_hears-requires-clause-orderly : goal.switch_hears-requires-clause-orderly
switch_hears-requires-clause-orderly g c = c.requires.orderly

pub switch_hears-requires-clause-same : goal.switch_hears-requires-clause-same
switch_hears-requires-clause-same g c = ap (λ (k : Kept). k.switches) c.self.view_is ∙ c.requires.same

pub switch_hears-requires-clause-heard : goal.switch_hears-requires-clause-heard
switch_hears-requires-clause-heard g c = c.requires.heard

pub returns-clause-told : goal.returns-clause-told
returns-clause-told g c =
    subst (λ (k : Kept). OnOk c.switch_hears.result (ToldOfSwitch g.S.SwitchLogic.rule c.args.world.now.plan (coming_of c.args.coming.now) k.switches
    (map g.S.SwitchFacts.view c.switch_hears.new.switches.items) k.page c.switch_hears.new.page c.args.told.now c.switch_hears.new.told)) c.self.view_is
    c.switch_hears.ensures

pub returns-clause-kept : goal.returns-clause-kept
returns-clause-kept g c =
    on_always c.switch_hears.result _ (ap (λ (k : Kept). record k {
      page = c.switch_hears.new.page;
      switches = map g.S.SwitchFacts.view c.switch_hears.new.switches.items;
    }) c.self.view_is)
