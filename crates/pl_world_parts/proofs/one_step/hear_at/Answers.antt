use Rattle.std.proofs.Common.{arith, sym}
use Rattle.pl_world_parts.specs.OneStep.{input_from}
use Rattle.pl_world_parts.proofs.OneChanged.{found-map, map-set, sizes_kept, switch_steps}
use Rattle.pl_world_parts.proofs.one_step.hear_at.Goals as goal

pub hear-requires : goal.hear-requires
hear-requires g c = c.requires.coming (g.S.SwitchFacts.view c.index_mut.result.now)
    (found-map g.S.SwitchFacts.view c.args.switches.now.items c.args.s c.index_mut.result.now (let ok = c.args.switches.now.ok in let r = c.requires.within in omega arith) (sym c.index_mut.ensures.value))

pub returns-in_err-hear-clause-kept : goal.returns-in_err-hear-clause-kept
returns-in_err-hear-clause-kept g c = sizes_kept g.S.SwitchFacts.view c.args.switches.now.items c.args.s c.index_mut.result.now c.hear.new.switch
    (let ok = c.args.switches.now.ok in let r = c.requires.within in omega arith) (sym c.index_mut.ensures.value) c.hear.ensures.k

pub returns-clause-kept : goal.returns-clause-kept
returns-clause-kept g c = sizes_kept g.S.SwitchFacts.view c.args.switches.now.items c.args.s c.index_mut.result.now c.hear.new.switch
    (let ok = c.args.switches.now.ok in let r = c.requires.within in omega arith) (sym c.index_mut.ensures.value) c.hear.ensures.k

pub returns-clause-step : goal.returns-clause-step
returns-clause-step g c = switch_steps g.S.SwitchFacts.view c.args.switches.now.items c.args.s c.index_mut.result.now c.hear.new.switch c.index.result.now
    c.index-2.result.now g.S.SwitchLogic.rule (input_from c.args.incoming) c.place-old.result c.place.result c.args.out.now c.hear.new.out (let ok = c.args.switches.now.ok in let r = c.requires.within in omega arith) c.index_mut.ensures.value
    c.index.ensures c.index-2.ensures c.place-old.ensures c.place.ensures c.in_ok-hear.ensures.step

pub returns-in_err-hear-clause-others : goal.returns-in_err-hear-clause-others
returns-in_err-hear-clause-others g c = (_, map-set g.S.SwitchFacts.view c.args.switches.now.items c.args.s c.hear.new.switch)

pub returns-clause-others : goal.returns-clause-others
returns-clause-others g c = (_, map-set g.S.SwitchFacts.view c.args.switches.now.items c.args.s c.hear.new.switch)
