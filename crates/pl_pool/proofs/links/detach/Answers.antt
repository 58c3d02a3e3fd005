use Rattle.std.proofs.Common.{◌∙◌, sym, ap, subst}
use Rattle.slab.specs.Slab.{ContainsKey}
use Rattle.pl_pool.specs.Chains.{owner_of, next_of, prev_of}
use Rattle.pl_pool.proofs.Joints.{detached_chain, detached_keeps, prev_owned, next_owned, owned_is_there, prev_of_node, next_of_node, Relinks-both}
use Rattle.pl_pool.proofs.links.detach.Goals as goal

pub lead_past-requires : goal.lead_past-requires
lead_past-requires g c inside =
    let nodes = c.args.nodes.now in
    let ends = c.args.ends.now in
    let held = c.requires in
    let owned = prev_owned (owner_of nodes) (next_of nodes) (prev_of nodes) held.0 ends held.1 held.2 c.args.slot held.3 inside in
    subst (ContainsKey nodes) (prev_of_node nodes c.args.slot c.index-node.result.now c.index-node.ensures) (owned_is_there nodes _ held.0 owned)

pub lead_back_past-requires : goal.lead_back_past-requires
lead_back_past-requires g c inside =
    let nodes = c.args.nodes.now in
    let ends = c.args.ends.now in
    let held = c.requires in
    let e = c.lead_past.ensures in
    let owned = next_owned (owner_of nodes) (next_of nodes) (prev_of nodes) held.0 ends held.1 held.2 c.args.slot held.3 (λ at. inside (e.rest.0 ∙ at)) in
    let node = c.index-node.result.now in
    owned_is_there c.lead_past.new.nodes node.next held.0
    (e.relinks.owners node.next ∙ ap (owner_of nodes) (sym (next_of_node nodes c.args.slot node c.index-node.ensures)) ∙ owned)

pub returns-clause-relinks : goal.returns-clause-relinks
returns-clause-relinks g c =
    Relinks-both c.args.nodes.now c.lead_past.new.nodes c.lead_back_past.new.nodes c.lead_past.ensures.relinks c.lead_back_past.ensures.relinks

pub returns-clause-left : goal.returns-clause-left
returns-clause-left g c =
    λ list xs ys chain.
    let nodes = c.args.nodes.now in
    let node = c.index-node.result.now in
    let e = c.lead_past.ensures in
    let f = c.lead_back_past.ensures in
    let prev_is = prev_of_node nodes c.args.slot node c.index-node.ensures in
    let next_is = next_of_node nodes c.args.slot node c.index-node.ensures in (
      detached_chain nodes c.lead_past.new.nodes c.lead_back_past.new.nodes c.args.ends.now c.lead_past.new.ends c.lead_back_past.new.ends c.args.slot node.prev node.next
          prev_is next_is e.relinks e.prevs e.rest e.first e.inside f.relinks f.nexts f.rest f.last f.inside list xs ys chain,
      detached_keeps nodes c.lead_past.new.nodes c.lead_back_past.new.nodes c.args.ends.now c.lead_past.new.ends c.lead_back_past.new.ends c.args.slot node.prev node.next
          prev_is next_is e.relinks e.prevs e.rest e.first e.inside f.relinks f.nexts f.rest f.last f.inside list xs ys chain,
    )
