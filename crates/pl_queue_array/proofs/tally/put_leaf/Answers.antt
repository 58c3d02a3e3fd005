use Rattle.std.proofs.Common.{◌≡◌, ℕ, ◌+◌, ◌*◌, ◌/◌, slice_index, slice_set, subst, arith}
use Rattle.std.proofs.lemmas.List.{get_or_read}
use Rattle.pl_queue_array.proofs.TallyChanges.{IsRenewed, renewed_above}
use Rattle.pl_queue_array.proofs.tally.put_leaf.Goals as goal

pub loop-node-preserved : goal.loop-node-preserved
loop-node-preserved c =
    let above : ℕ = c.loop-node.node / 2 in
    let tree = c.loop-node.tree.items in
    let size = c.loop-node.invariant.size in
    let inside = c.loop-node.invariant.inside in
    let left : c.index.result.now ≡ slice_index tree (2 * above) = get_or_read tree (2 * above) c.index.result.now (omega arith) c.index.ensures 0 in
    let right : c.index-in-loop-node.result.now ≡ slice_index tree (2 * above + 1) =
    get_or_read tree (2 * above + 1) c.index-in-loop-node.result.now (omega arith) c.index-in-loop-node.ensures 0 in
    let sum : slice_index tree (2 * above) + slice_index tree (2 * above + 1) ≡ c.index.result.now + c.index-in-loop-node.result.now = omega arith in
    subst (λ n. IsRenewed c.args.width c.args.tree.now.items (slice_set tree above n) c.args.at c.args.count above) sum
    (renewed_above c.args.width c.args.tree.now.items c.args.at c.args.count c.requires.summed c.requires.within c.requires.one tree c.loop-node.node
    c.loop-node.invariant c.loop-node-test.true)
