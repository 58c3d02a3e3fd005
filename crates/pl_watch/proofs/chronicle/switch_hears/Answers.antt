use Rattle.std.proofs.Common.{map, slice_get, ap, ◌∙◌, arith}
use Rattle.std.proofs.lemmas.List.{length-map}
use Rattle.pl_schedule.specs.Coming.{coming_of}
use Rattle.pl_watch.proofs.Hearing.{comes_within, found_view, may_come, on_ok, same_size, still_within, switch_told_of}
use Rattle.pl_watch.proofs.chronicle.switch_hears.Goals as goal

pub hear_at-requires-clause-within : goal.hear_at-requires-clause-within
hear_at-requires-clause-within g c =
    let within = comes_within c.args.world.now c.args.coming.now c.requires.orderly c.requires.heard
    (map g.S.SwitchFacts.view c.args.switches.now.items) c.requires.same in
    let many = length-map c.args.switches.now.items g.S.SwitchFacts.view in
    let ok = c.args.switches.now.ok in
    omega (arith, within, many, ok)

pub hear_at-requires-clause-coming : goal.hear_at-requires-clause-coming
hear_at-requires-clause-coming g c =
    may_come c.args.world.now c.args.coming.now c.requires.orderly c.requires.heard (map g.S.SwitchFacts.view c.args.switches.now.items) c.requires.same

pub switch-requires : goal.switch-requires
switch-requires g c = c.requires.heard.there

pub index-requires : goal.index-requires
index-requires g c =
    let within = still_within c.args.world.now c.args.coming.now c.requires.orderly c.requires.heard
    (map g.S.SwitchFacts.view c.args.switches.now.items) c.requires.same (map g.S.SwitchFacts.view c.hear_at.new.switches.items) c.in_ok-hear_at.ensures.kept in
    let many = length-map c.hear_at.new.switches.items g.S.SwitchFacts.view in
    let ok = c.hear_at.new.switches.ok in
    omega (arith, within, many, ok)

pub tell_of_switch-requires : goal.tell_of_switch-requires
tell_of_switch-requires g c =
    same_size (map g.S.SwitchFacts.view c.args.switches.now.items) (map g.S.SwitchFacts.view c.hear_at.new.switches.items) c.args.coming.now.switch.0
    (g.S.SwitchFacts.view c.switch.result.now) (g.S.SwitchFacts.view c.index.result.now) c.in_ok-hear_at.ensures.kept
    (ap (λ xs. slice_get xs c.args.coming.now.switch.0) c.requires.same ∙ c.switch.ensures)
    (found_view g.S.SwitchFacts.view c.hear_at.new.switches.items c.args.coming.now.switch.0 c.index.result.now
    (still_within c.args.world.now c.args.coming.now c.requires.orderly c.requires.heard (map g.S.SwitchFacts.view c.args.switches.now.items) c.requires.same
    (map g.S.SwitchFacts.view c.hear_at.new.switches.items) c.in_ok-hear_at.ensures.kept) c.index.ensures)

pub returns : goal.returns
returns g c =
    on_ok c.tell_of_switch.result _ _ (λ told.
    switch_told_of c.wiring_index.result.now c.args.world.now.plan c.wiring_index.ensures c.args.page.now c.tell_of_switch.new.page c.args.told.now
    c.tell_of_switch.new.told g.S.SwitchLogic.rule (coming_of c.args.coming.now) (map g.S.SwitchFacts.view c.args.switches.now.items)
    (map g.S.SwitchFacts.view c.hear_at.new.switches.items) _ _ _ _ c.new-acts.ensures c.in_ok-hear_at.ensures.step
    (g.S.SwitchFacts.view c.switch.result.now) (g.S.SwitchFacts.view c.index.result.now)
    (ap (λ xs. slice_get xs c.args.coming.now.switch.0) c.requires.same ∙ c.switch.ensures)
    (found_view g.S.SwitchFacts.view c.hear_at.new.switches.items c.args.coming.now.switch.0 c.index.result.now
    (still_within c.args.world.now c.args.coming.now c.requires.orderly c.requires.heard (map g.S.SwitchFacts.view c.args.switches.now.items) c.requires.same
    (map g.S.SwitchFacts.view c.hear_at.new.switches.items) c.in_ok-hear_at.ensures.kept) c.index.ensures) told) c.tell_of_switch.ensures
