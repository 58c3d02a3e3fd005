use Rattle.std.proofs.Common.{◌≡◌, Some, slice_get, slice_index, ◌∙◌, sym, ap, subst, arith}
use Rattle.std.specs.List.{filter, range_with_len}
use Rattle.std.proofs.lemmas.List.{get_or_read}
use Rattle.pl_queue_array.specs.Tallies.{is_counted, marked_indices}
use Rattle.pl_queue_array.proofs.TallySums.{marked_are, none_from_root, root_there}
use Rattle.pl_queue_array.proofs.tally.Tally.nth.Goals as goal

pub index-requires : goal.index-requires
index-requires c =
    let root = root_there _ _ _ _ c.self.invariant in
    let many = c.self.inside.tree.ok in
    omega (arith, root, many)

pub returns-then-i-index : goal.returns-then-i-index
returns-then-i-index c =
    let root = get_or_read c.self.inside.tree.items 1 c.index.result.now (root_there _ _ _ _ c.self.invariant) c.index.ensures 0 in
    none_from_root _ _ _ _ c.self.invariant c.args.i (omega (arith, root, c.if-i-index.true))
    ∙ ap (λ marks. slice_get (marked_indices marks) c.args.i) c.self.view_is

pub leaf_below-requires-clause-some : goal.leaf_below-requires-clause-some
leaf_below-requires-clause-some c =
    let root = get_or_read c.self.inside.tree.items 1 c.index.result.now (root_there _ _ _ _ c.self.invariant) c.index.ensures 0 in
    let same = ap (λ tree. slice_index tree 1) c.as_slice.ensures.value in
    omega (arith, root, same, c.if-i-index.false)

pub returns : goal.returns
returns c =
    let found = subst (λ tree. slice_get (filter (is_counted c.self.inside.width tree) (range_with_len 0 c.self.inside.width)) c.args.i ≡ Some c.leaf_below.result)
    c.as_slice.ensures.value c.leaf_below.ensures in
    sym found ∙ ap (λ indices. slice_get indices c.args.i) (sym (marked_are _ _ _ _ c.self.invariant))
    ∙ ap (λ marks. slice_get (marked_indices marks) c.args.i) c.self.view_is
