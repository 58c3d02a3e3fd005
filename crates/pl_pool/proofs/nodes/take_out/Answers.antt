use Rattle.std.proofs.Common.{◌++◌, ◌∷◌, Option, option_map, sym, ap, ◌∙◌, subst}
use Rattle.std.proofs.lemmas.List.{get_or_read}
use Rattle.pl_pool.specs.declared.links.Node.{Node}
use Rattle.pl_pool.specs.declared.links.Ends.{Ends}
use Rattle.pl_pool.specs.Chains.{IsChainIn, ends_at, no_ends}
use Rattle.pl_pool.proofs.Moves.{owned_chain, owned_cut, owned_within, removed_pool, removed_lists}
use Rattle.pl_pool.proofs.nodes.take_out.Goals as goal

pub returns-clause-item : goal.returns-clause-item
returns-clause-item g c =
    sym (c.detach.ensures.relinks.items c.args.slot) ∙ ap (λ (o : Option (Node g.row.T.Denot)). option_map (λ (n : Node g.row.T.Denot). n.item) o) c.remove-item.ensures.value

pub returns-clause-pool : goal.returns-clause-pool
returns-clause-pool g c =
    λ spare pool.
    let nodes = c.args.nodes.now in
    let all = c.args.all.now.items in
    let list = c.args.list in
    let slot = c.args.slot in
    let on = owned_cut nodes all spare list slot pool c.requires.owned in
    let read = get_or_read all list c.index.result.now (owned_within nodes all spare list slot pool c.requires.owned) c.index.ensures no_ends in
    let whole = subst (IsChainIn nodes list (ends_at all list)) on.2 (owned_chain nodes all spare list slot pool c.requires.owned) in
    let left = c.detach.ensures.left list on.0 on.1 (subst (λ (e : Ends). IsChainIn nodes list e (on.0 ++ slot ∷ on.1)) (sym read) whole) in
    removed_pool nodes c.detach.new.nodes c.remove-item.new.self all spare list slot c.detach.new.ends on.0 on.1 pool c.requires.owned on.2
    c.detach.ensures.relinks left.0 left.1 (c.detach.ensures.shorter ∙ ap (λ (e : Ends). e.len) read)
    c.remove-item.ensures.updates c.remove-item.ensures.len c.remove-item.ensures.capacity

pub returns-clause-lists : goal.returns-clause-lists
returns-clause-lists g c =
    λ xs ys at.
    let nodes = c.args.nodes.now in
    let all = c.args.all.now.items in
    let list = c.args.list in
    let slot = c.args.slot in
    let spare = c.requires.pool.0 in
    let pool = c.requires.pool.1 in
    let read = get_or_read all list c.index.result.now (owned_within nodes all spare list slot pool c.requires.owned) c.index.ensures no_ends in
    let whole = subst (IsChainIn nodes list (ends_at all list)) at (owned_chain nodes all spare list slot pool c.requires.owned) in
    let left = c.detach.ensures.left list xs ys (subst (λ (e : Ends). IsChainIn nodes list e (xs ++ slot ∷ ys)) (sym read) whole) in
    removed_lists nodes c.detach.new.nodes c.remove-item.new.self all spare list slot c.detach.new.ends xs ys pool c.requires.owned at
    c.detach.ensures.relinks left.0 left.1 (c.detach.ensures.shorter ∙ ap (λ (e : Ends). e.len) read)
    c.remove-item.ensures.updates c.remove-item.ensures.len c.remove-item.ensures.capacity
