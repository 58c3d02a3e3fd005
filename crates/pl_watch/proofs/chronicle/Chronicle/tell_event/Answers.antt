use Rattle.std.proofs.Common.{option_map, ap, subst, sym, ◌∙◌}
use Rattle.pl_schedule.specs.Coming.{coming_of}
use Rattle.pl_world.proofs.Exports.{event_is_not_refused}
use Rattle.pl_watch.specs.Seen.{Kept}
use Rattle.pl_watch.specs.Events.{manager_of}
use Rattle.pl_watch.specs.Logs.{lost_lines}
use Rattle.pl_log_lines.specs.Pages.{PageView}
use Rattle.pl_log_lines.specs.Telling.{Tells, node_in}
use Rattle.pl_watch.proofs.Finishing.{manager_told, nothing_told, switch_told}
use Rattle.pl_watch.proofs.Hearing.{none_left, none_mapped, not_spent, on_both, on_ok}
use Rattle.pl_watch.proofs.chronicle.Chronicle.tell_event.Goals as goal

pub told_of-told-requires : goal.told_of-told-requires
told_of-told-requires g c = c.requires.allowed

pub coming-requires : goal.coming-requires
coming-requires g c = event_is_not_refused c.args.world.now c.args.event.now c.requires.allowed

pub telling-requires : goal.telling-requires
telling-requires g c = event_is_not_refused c.args.world.now c.args.event.now c.requires.allowed

pub tell_switch-requires-clause-orderly : goal.tell_switch-requires-clause-orderly
tell_switch-requires-clause-orderly g c = c.requires.orderly

pub tell_switch-requires-clause-same : goal.tell_switch-requires-clause-same
tell_switch-requires-clause-same g c = ap (λ (k : Kept). k.switches) c.begin_event.ensures.kept ∙ c.requires.seen.same_switches

pub tell_switch-requires-clause-heard : goal.tell_switch-requires-clause-heard
tell_switch-requires-clause-heard g c = c.in-Some.ensures.heard c.requires.orderly.counted

pub returns-in-Some : goal.returns-in-Some
returns-in-Some g c =
    on_both c.tell_switch.result _ _ _ (λ took keeps. λ new step.
    switch_told g.S.SwitchLogic.rule g.M.ManagerLogic.rule g.H.HostLogic.rule c.args.self.now c.begin_event.new.self c.tell_switch.new.self
    c.args.world.now c.args.event.now c.told_of-told.result c.begin_event.new.told c.tell_switch.new.told new c.requires.allowed step c.requires.seen
    c.requires.all c.told_of-told.ensures c.begin_event.ensures.page g.met.S.DecidedSwitch.no_choice
    (coming_of c.in-Some.coming) (sym c.in-Some.ensures.coming) c.begin_event.ensures.kept keeps took) c.tell_switch.ensures.told c.tell_switch.ensures.kept

pub tell_manager-requires-clause-orderly : goal.tell_manager-requires-clause-orderly
tell_manager-requires-clause-orderly g c = c.requires.orderly

pub tell_manager-requires-clause-same : goal.tell_manager-requires-clause-same
tell_manager-requires-clause-same g c = ap (λ (k : Kept). k.manager) c.begin_event.ensures.kept ∙ c.requires.seen.same_manager

pub tell_manager-requires-clause-there : goal.tell_manager-requires-clause-there
tell_manager-requires-clause-there g c = c.in-Some-telling.ensures.there

pub tell_manager-requires-clause-unspent : goal.tell_manager-requires-clause-unspent
tell_manager-requires-clause-unspent g c = not_spent c.args.world.now c.args.event.now c.requires.allowed

pub returns-in-Some-telling : goal.returns-in-Some-telling
returns-in-Some-telling g c =
    on_both c.tell_manager.result _ _ _ (λ took keeps. λ new step.
    manager_told g.S.SwitchLogic.rule g.M.ManagerLogic.rule g.H.HostLogic.rule c.args.self.now c.begin_event.new.self c.tell_manager.new.self
    c.args.world.now c.args.event.now c.told_of-told.result c.begin_event.new.told c.tell_manager.new.told new c.requires.allowed step c.requires.seen
    c.requires.all c.told_of-told.ensures c.begin_event.ensures.page g.met.M.DecidedManager.no_choice
    (c.in-Some-telling.s.0, c.in-Some-telling.says.now) (sym c.in-Some-telling.ensures.telling)
    (sym c.coming.ensures.coming ∙ ap (option_map coming_of) (none_left c.coming.result c.in_default.not-Some)) c.begin_event.ensures.kept keeps took)
    c.tell_manager.ensures.told c.tell_manager.ensures.kept

pub tell_lost-requires-clause-allowed : goal.tell_lost-requires-clause-allowed
tell_lost-requires-clause-allowed g c = event_is_not_refused c.args.world.now c.args.event.now c.requires.allowed

pub tell_lost-requires-clause-node : goal.tell_lost-requires-clause-node
tell_lost-requires-clause-node g c = ap node_in c.begin_event.ensures.page.told ∙ c.told_of-told.ensures.node

pub follow_restart-requires : goal.follow_restart-requires
follow_restart-requires g c =
    ap (λ (k : Kept). k.manager) c.tell_lost.ensures.kept ∙ ap (λ (k : Kept). k.manager) c.begin_event.ensures.kept ∙ c.requires.seen.same_manager

pub returns : goal.returns
returns g c =
    let w = c.args.world.now in
    let e = c.args.event.now in
    let mid = c.begin_event.new.self in
    on_ok c.follow_restart.result _ _ (λ follows. λ new step.
    let page = sym (ap (λ (k : Kept). k.page) follows) in
    nothing_told g.S.SwitchLogic.rule g.M.ManagerLogic.rule g.H.HostLogic.rule c.args.self.now mid c.follow_restart.new.self
    w e c.told_of-told.result c.begin_event.new.told c.tell_lost.new.told new c.requires.allowed step c.requires.seen
    c.requires.all c.told_of-told.ensures c.begin_event.ensures.page
    (sym c.telling.ensures.telling ∙ none_mapped _ c.telling.result c.in_default-telling.not-Some)
    (sym c.coming.ensures.coming ∙ ap (option_map coming_of) (none_left c.coming.result c.in_default.not-Some)) c.begin_event.ensures.kept
    (follows ∙ ap (λ (k : Kept). record k { manager = manager_of w e }) c.tell_lost.ensures.kept
    ∙ ap (λ (p : PageView). record mid { page = p; manager = manager_of w e }) page)
    (subst (λ (p : PageView). Tells mid.page p c.begin_event.new.told c.tell_lost.new.told (lost_lines w e)) page c.tell_lost.ensures.told))
    c.follow_restart.ensures
