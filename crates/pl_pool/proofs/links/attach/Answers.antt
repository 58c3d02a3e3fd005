use Rattle.std.proofs.Common.{◌∙◌}
use Rattle.pl_pool.specs.Chains.{owner_of, next_of, prev_of}
use Rattle.pl_pool.proofs.Joints.{attached_chain, attached_keeps, last_owned, owned_is_there}
use Rattle.pl_pool.proofs.links.attach.Goals as goal

pub lead_on-requires : goal.lead_on-requires
lead_on-requires g c some =
    let nodes = c.args.nodes.now in
    let ends = c.args.ends.now in
    let held = c.requires.chain in
    let owned = last_owned (owner_of nodes) (next_of nodes) (prev_of nodes) held.0 ends held.1 held.2 some in
    owned_is_there c.set_prev.new.nodes ends.last held.0 (c.set_prev.ensures.relinks.owners ends.last ∙ owned)

pub returns-clause-longer : goal.returns-clause-longer
returns-clause-longer g c =
    λ list slots chain own fresh.
    let e = c.lead_on.ensures in (
      attached_chain c.args.nodes.now c.set_prev.new.nodes c.lead_on.new.nodes c.args.ends.now c.lead_on.new.ends c.args.slot
          c.set_prev.ensures e.relinks e.prevs e.len e.first e.inside list slots chain own fresh,
      attached_keeps c.args.nodes.now c.set_prev.new.nodes c.lead_on.new.nodes c.args.ends.now c.lead_on.new.ends c.args.slot
          c.set_prev.ensures e.relinks e.prevs e.len e.first e.inside list slots chain own fresh,
    )
