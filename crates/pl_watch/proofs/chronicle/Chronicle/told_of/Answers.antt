use Rattle.std.proofs.Common.{ap, refl}
use Rattle.pl_world.proofs.Exports.{event_is_not_refused}
use Rattle.pl_watch.specs.Seen.{Kept}
use Rattle.pl_watch.proofs.Hearing.{not_spent}
use Rattle.pl_watch.proofs.chronicle.Chronicle.told_of.Goals as goal

pub next_step-requires : goal.next_step-requires
next_step-requires g c = not_spent c.args.world.now c.args.event.now c.requires

pub node_of-requires : goal.node_of-requires
node_of-requires g c = event_is_not_refused c.args.world.now c.args.event.now c.requires

pub event_words-requires : goal.event_words-requires
event_words-requires g c = event_is_not_refused c.args.world.now c.args.event.now c.requires

pub returns : goal.returns
returns g c = record {
  look = ap (λ (k : Kept). k.look) c.self.view_is;
  line = ap (λ (k : Kept). k.line) c.self.view_is;
  step = c.next_step.ensures;
  node = c.node_of.ensures;
  words = c.event_words.ensures;
  unprinted = refl;
}
