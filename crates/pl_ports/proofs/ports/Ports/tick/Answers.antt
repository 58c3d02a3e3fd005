use Rattle.std.proofs.Common.{◌∙◌}
use Rattle.pl_ports.proofs.Aging.{ceasing_have_ceased}
use Rattle.pl_ports.proofs.ports.Ports.tick.Goals as goal

pub returns-clause-told : goal.returns-clause-told
returns-clause-told c = c.ceasing-ceasing.ensures ∙ ceasing_have_ceased c.args.self.now c.age.new.self c.age.ensures
