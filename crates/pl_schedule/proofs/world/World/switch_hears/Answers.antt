use Rattle.pl_world_parts.specs.OneStep.{input_from}
use Rattle.pl_world_parts.proofs.Exports.{acts_fit, can_come, coming_at, formed_stepped}
use Rattle.pl_schedule.proofs.world.World.switch_hears.Goals as goal

-- each switch has as many ports as the wiring says
pub hear-requires-clause-coming : goal.hear-requires-clause-coming
hear-requires-clause-coming g c =
    coming_at _ c.args.self.now c.args.s.0 (input_from c.args.incoming) c.self.view_is c.self.invariant c.requires.coming

pub invariant_of-self : goal.invariant_of-self
invariant_of-self g c = formed_stepped _ c.hear.new.self.switches c.hear.new.self.out c.hear.ensures.kept c.hear.ensures.queues c.self.invariant

pub invariant_of-self-2 : goal.invariant_of-self-2
invariant_of-self-2 g c = formed_stepped _ c.hear.new.self.switches c.hear.new.self.out c.hear.ensures.kept c.hear.ensures.queues c.self.invariant

pub finish-requires-clause-fit : goal.finish-requires-clause-fit
finish-requires-clause-fit g c = acts_fit g.S.SwitchLogic.rule _ c.args.self.now c.args.s.0 (input_from c.args.incoming) c.hear.new.self.switches
    c.in_ok-old.old c.in_ok-old.new c.new-acts.result c.hear.new.out c.self.view_is c.new-acts.ensures c.in_ok-old.ensures.step
    g.met.S.SwitchLogic.accounts c.self.invariant c.requires.shaped (can_come _ c.args.self.now (input_from c.args.incoming) c.self.view_is c.requires.coming)
