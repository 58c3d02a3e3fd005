use Rattle.pl_world_parts.proofs.Standing.{found_alone, found_at, found_within}
use Rattle.pl_world_parts.proofs.attachments.Attachments.host_at.Goals as goal

pub returns-clause-is : goal.returns-clause-is
returns-clause-is c =
    found_at c.self.inside.attachments.items c.args.self.now c.self.inside.by_port.entries c.args.s c.args.port c.copied.result c.self.view_is c.self.invariant cc

pub returns-clause-within : goal.returns-clause-within
returns-clause-within c =
    found_within c.self.inside.attachments.items c.args.self.now c.self.inside.by_port.entries c.args.s c.args.port c.copied.result c.self.view_is c.self.invariant cc

pub returns-clause-alone : goal.returns-clause-alone
returns-clause-alone c =
    found_alone c.self.inside.attachments.items c.args.self.now c.self.inside.by_port.entries c.args.s c.args.port c.copied.result c.self.view_is c.self.invariant cc
