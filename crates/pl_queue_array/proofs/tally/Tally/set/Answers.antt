use Rattle.std.proofs.Common.{slice_set, ap, ◌∙◌, ◌≡◌, ℕ, ◌+◌, slice_index, subst, arith}
use Rattle.pl_queue_array.proofs.TallyChanges.{IsTallyTree-set, marks_in-set, index_within}
use Rattle.pl_queue_array.proofs.tally.Tally.set.Goals as goal

pub put_leaf-requires-clause-within : goal.put_leaf-requires-clause-within
put_leaf-requires-clause-within c =
    let below = index_within c.self.inside.len c.self.inside.width c.args.at c.self.inside.tree.items _ c.self.view_is c.requires in
    let room = c.self.invariant.room in
    omega (arith, below, room)

pub invariant_of-self : goal.invariant_of-self
invariant_of-self c =
    let below = index_within c.self.inside.len c.self.inside.width c.args.at c.self.inside.tree.items _ c.self.view_is c.requires in
    IsTallyTree-set _ _ _ c.self.inside.tree.items c.args.at c.args.mark c.self.invariant below c.put_leaf.new.tree.items
    (subst (λ count. (j : ℕ) → slice_index c.put_leaf.new.tree.items (c.self.inside.width + j) ≡ slice_index (slice_set c.self.inside.tree.items (c.self.inside.width + c.args.at) count) (c.self.inside.width + j))
    c.one_if.ensures c.put_leaf.ensures.leaves)
    c.put_leaf.ensures.summed

pub returns : goal.returns
returns c =
    let below = index_within c.self.inside.len c.self.inside.width c.args.at c.self.inside.tree.items _ c.self.view_is c.requires in
    marks_in-set _ _ _ c.self.inside.tree.items c.args.at c.args.mark c.self.invariant below c.put_leaf.new.tree.items
    (subst (λ count. (j : ℕ) → slice_index c.put_leaf.new.tree.items (c.self.inside.width + j) ≡ slice_index (slice_set c.self.inside.tree.items (c.self.inside.width + c.args.at) count) (c.self.inside.width + j))
    c.one_if.ensures c.put_leaf.ensures.leaves)
    ∙ ap (λ marks. slice_set marks c.args.at c.args.mark) c.self.view_is
