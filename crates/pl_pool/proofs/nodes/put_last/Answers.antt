use Rattle.std.proofs.Common.{◌+◌, refl, sym, ap, ◌∙◌, subst}
use Rattle.std.proofs.lemmas.List.{get_or_read}
use Rattle.pl_pool.specs.declared.links.Ends.{Ends}
use Rattle.pl_pool.specs.declared.links.Node.{Node}
use Rattle.pl_pool.specs.Chains.{IsChainIn, ends_at, no_ends, slots_of}
use Rattle.pl_pool.proofs.Moves.{put_chain, put_fresh, owner_put, more_pool, more_lists}
use Rattle.pl_pool.proofs.nodes.put_last.Goals as goal

pub attach-requires-clause-chain : goal.attach-requires-clause-chain
attach-requires-clause-chain g c =
    let nodes = c.args.nodes.now in
    let all = c.args.all.now.items in
    let list = c.args.list in
    let put = c.insert_reserved-slot in
    let node : Node g.row.T.Denot = record { item = c.args.item; list = list; prev = 0; next = 0 } in
    let read = get_or_read all list c.index.result.now c.requires.within c.index.ensures no_ends in
    let chain = put_chain nodes put.new.self all c.requires.pool.0 list put.result node c.requires.pool.1 c.requires.within put.ensures.was_vacant put.ensures.updates in
    (list, slots_of nodes (ends_at all list), subst (λ (e : Ends). IsChainIn put.new.self list e (slots_of nodes (ends_at all list))) (sym read) chain)

pub returns-clause-pool : goal.returns-clause-pool
returns-clause-pool g c =
    λ spare pool.
    let nodes = c.args.nodes.now in
    let all = c.args.all.now.items in
    let list = c.args.list in
    let put = c.insert_reserved-slot in
    let node : Node g.row.T.Denot = record { item = c.args.item; list = list; prev = 0; next = 0 } in
    let read = get_or_read all list c.index.result.now c.requires.within c.index.ensures no_ends in
    let chain = put_chain nodes put.new.self all (spare + 1) list put.result node pool c.requires.within put.ensures.was_vacant put.ensures.updates in
    let long = c.attach.ensures.longer list (slots_of nodes (ends_at all list))
    (subst (λ (e : Ends). IsChainIn put.new.self list e (slots_of nodes (ends_at all list))) (sym read) chain)
    (owner_put nodes put.new.self all (spare + 1) list put.result node pool c.requires.within put.ensures.was_vacant put.ensures.updates)
    (put_fresh nodes put.new.self all (spare + 1) list put.result node pool c.requires.within put.ensures.was_vacant put.ensures.updates) in
    more_pool nodes put.new.self c.attach.new.nodes all (spare + 1) spare list put.result node c.attach.new.ends pool c.requires.within put.ensures.was_vacant put.ensures.updates refl
    put.ensures.len put.ensures.capacity pool.room c.attach.ensures.relinks long.0 long.1 (c.attach.ensures.len ∙ ap (λ (e : Ends). e.len + 1) read)

pub returns-clause-lists : goal.returns-clause-lists
returns-clause-lists g c =
    let nodes = c.args.nodes.now in
    let all = c.args.all.now.items in
    let list = c.args.list in
    let put = c.insert_reserved-slot in
    let spare = c.requires.pool.0 in
    let pool = c.requires.pool.1 in
    let node : Node g.row.T.Denot = record { item = c.args.item; list = list; prev = 0; next = 0 } in
    let read = get_or_read all list c.index.result.now c.requires.within c.index.ensures no_ends in
    let chain = put_chain nodes put.new.self all spare list put.result node pool c.requires.within put.ensures.was_vacant put.ensures.updates in
    let long = c.attach.ensures.longer list (slots_of nodes (ends_at all list))
    (subst (λ (e : Ends). IsChainIn put.new.self list e (slots_of nodes (ends_at all list))) (sym read) chain)
    (owner_put nodes put.new.self all spare list put.result node pool c.requires.within put.ensures.was_vacant put.ensures.updates)
    (put_fresh nodes put.new.self all spare list put.result node pool c.requires.within put.ensures.was_vacant put.ensures.updates) in
    more_lists nodes put.new.self c.attach.new.nodes all spare 0 list put.result node c.attach.new.ends pool c.requires.within put.ensures.was_vacant put.ensures.updates refl
    put.ensures.len put.ensures.capacity c.requires.room c.attach.ensures.relinks long.0 long.1 (c.attach.ensures.len ∙ ap (λ (e : Ends). e.len + 1) read)
