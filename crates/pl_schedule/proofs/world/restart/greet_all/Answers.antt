use Rattle.std.proofs.Common.{refl, ap, length, ◌∙◌}
use Rattle.pl_node.specs.declared.messages.ToSwitch.TheVariants.{Hello}
use Rattle.pl_schedule.proofs.Greeting.{as_many, at_last, none_greeted, still_greeted}
use Rattle.pl_schedule.proofs.world.restart.greet_all.Goals as goal

pub loop-s-init : goal.loop-s-init
loop-s-init c = record { many = refl; greeted = λ n is. none_greeted (Hello c.args.epoch) n _ is }

pub loop-s-preserved : goal.loop-s-preserved
loop-s-preserved c =
    let many = c.len-s-end.ensures ∙ ap length c.queues.ensures in
    record {
      many = as_many _ c.loop-s.from_manager c.put.new.self c.loop-s.s _ c.in_ok-put.ensures.ok c.loop-s.invariant.many;
      greeted = still_greeted (Hello c.args.epoch) _ c.args.from_manager.now c.loop-s.from_manager c.put.new.self c.loop-s.s c.len-s-end.result c.loop-s-test.true many
          c.loop-s.invariant.many c.new.ensures c.in_ok-put.ensures.ok c.loop-s.invariant.greeted;
    }

pub returns-clause-greeted : goal.returns-clause-greeted
returns-clause-greeted c =
    at_last (Hello c.args.epoch) c.args.from_manager.now c.loop-s.from_manager c.loop-s.s c.len-s-end.result c.loop-s.auto.s-end c.loop-s-test.false
    (c.len-s-end.ensures ∙ ap length c.queues.ensures) c.loop-s.invariant.greeted
