use Rattle.pl_world.proofs.Exports.{marked_counted, marked_within}
use Rattle.pl_schedule.proofs.world.World.mark.Goals as goal

pub returns-clause-orderly : goal.returns-clause-orderly
returns-clause-orderly g c = λ can. record {
  counted = marked_counted c.args.self.now c.note.new.self c.args.entry c.requires c.in_ok-note.ensures.ok can.counted;
  hearing = marked_within c.args.self.now c.note.new.self c.args.entry c.in_ok-note.ensures.ok can.hearing;
}
