use Rattle.std.proofs.Common.{subst}
use Rattle.pl_wiring.specs.LiveLinks.{IsFor}
use Rattle.pl_schedule.proofs.Failing.{formed_links, link_has_ends}
use Rattle.pl_schedule.proofs.world.World.turn.Goals as goal

pub invariant_of-self : goal.invariant_of-self
invariant_of-self g c = formed_links _ c.set_live.new.links (subst (λ plan. IsFor plan c.set_live.new.links) c.wiring.ensures c.set_live.ensures.made_for) c.self.invariant

pub returns-clause-lower : goal.returns-clause-lower
returns-clause-lower g c = (link_has_ends _ c.args.self.now c.args.link c.self.view_is c.self.invariant c.requires).lower

pub returns-clause-lower_port : goal.returns-clause-lower_port
returns-clause-lower_port g c = (link_has_ends _ c.args.self.now c.args.link c.self.view_is c.self.invariant c.requires).lower_port

pub returns-clause-upper : goal.returns-clause-upper
returns-clause-upper g c = (link_has_ends _ c.args.self.now c.args.link c.self.view_is c.self.invariant c.requires).upper

pub returns-clause-upper_port : goal.returns-clause-upper_port
returns-clause-upper_port g c = (link_has_ends _ c.args.self.now c.args.link c.self.view_is c.self.invariant c.requires).upper_port
