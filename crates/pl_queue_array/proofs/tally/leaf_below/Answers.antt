use Rattle.std.proofs.Common.{ℕ, suc, ◌+◌, ◌-◌, arith}
use Rattle.pl_queue_array.proofs.TallySums.{goes_left, goes_right, leads_to_leaf, there}
use Rattle.pl_queue_array.proofs.tally.leaf_below.Goals as goal
use Rattle.pl_queue_array.proofs.tally.leaf_below.Goals.{then-left-counted, else-left-counted}

pub overflow_mul-below : goal.overflow_mul-below
overflow_mul-below c =
    let ahead : ℕ = c.args.levels - (c.loop.counter + 1) in
    let leads = c.loop.invariant (suc ahead) (omega arith) in
    let low = there c.args.width c.args.tree.now c.requires.summed _ ahead c.loop.node c.loop.left leads in
    omega (arith, low.1)

pub offset_bounds-tree-below : goal.offset_bounds-tree-below
offset_bounds-tree-below c =
    let ahead : ℕ = c.args.levels - (c.loop.counter + 1) in
    let leads = c.loop.invariant (suc ahead) (omega arith) in
    let low = there c.args.width c.args.tree.now c.requires.summed _ ahead c.loop.node c.loop.left leads in
    omega (arith, low.1)

pub bounds-tree-below : goal.bounds-tree-below
bounds-tree-below c =
    let ahead : ℕ = c.args.levels - (c.loop.counter + 1) in
    let leads = c.loop.invariant (suc ahead) (omega arith) in
    let low = there c.args.width c.args.tree.now c.requires.summed _ ahead c.loop.node c.loop.left leads in
    let size = c.requires.summed.size in
    omega (arith, low.1, size)

pub overflow_add-node : goal.overflow_add-node
overflow_add-node c =
    let ahead : ℕ = c.args.levels - (c.loop.counter + 1) in
    let leads = c.loop.invariant (suc ahead) (omega arith) in
    let low = there c.args.width c.args.tree.now c.requires.summed _ ahead c.loop.node c.loop.left leads in
    omega (arith, low.1)

pub loop-preserved : goal.loop-preserved
loop-preserved c ahead all =
    let leads = c.loop.invariant (suc ahead) (omega arith) in
    elim c.if-left-counted.branch [
      | then-left-counted w ↦
          rw (w.node-is, w.left-is)
          (goes_left c.args.width c.args.tree.now c.requires.summed _ ahead c.loop.node c.loop.left leads w.if-left-counted.true)
      | else-left-counted w ↦
          rw (w.node-is, w.left-is)
          (goes_right c.args.width c.args.tree.now c.requires.summed _ ahead c.loop.node c.loop.left leads w.if-left-counted.false)
    ]

pub overflow_sub-result : goal.overflow_sub-result
overflow_sub-result c =
    (leads_to_leaf c.args.width c.args.tree.now c.requires.summed _ c.loop.node c.loop.left (c.loop.invariant 0 (omega arith))).0

pub returns : goal.returns
returns c =
    (leads_to_leaf c.args.width c.args.tree.now c.requires.summed _ c.loop.node c.loop.left (c.loop.invariant 0 (omega arith))).1
