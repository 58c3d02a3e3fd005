use Rattle.std.proofs.Common.{inl, refl}
use Rattle.pl_world_parts.proofs.LinkFound.{set_is}
use Rattle.pl_world_parts.proofs.links.set_live.Goals as goal

pub set-requires-clause-linked : goal.set-requires-clause-linked
set-requires-clause-linked c = (c.requires.there.0, c.args.link, c.requires.there.1, c.requires.there.2, inl (refl, refl))

pub returns-clause-set : goal.returns-clause-set
returns-clause-set c = set_is c.args.wiring.now c.args.links.now c.set.new.self c.args.link c.args.live c.k-k.ensures.plan c.requires.made_for
    c.set.ensures.made_for c.requires.there c.set.ensures.changed c.set.ensures.others
