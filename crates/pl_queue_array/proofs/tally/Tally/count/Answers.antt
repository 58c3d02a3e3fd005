use Rattle.std.proofs.Common.{length, ◌∙◌, ap, arith}
use Rattle.std.proofs.lemmas.List.{get_or_read}
use Rattle.pl_queue_array.specs.Tallies.{marked_indices}
use Rattle.pl_queue_array.proofs.TallySums.{count_is, root_there}
use Rattle.pl_queue_array.proofs.tally.Tally.count.Goals as goal

pub index-requires : goal.index-requires
index-requires c =
    let root = root_there _ _ _ _ c.self.invariant in
    let many = c.self.inside.tree.ok in
    omega (arith, root, many)

pub returns : goal.returns
returns c =
    get_or_read c.self.inside.tree.items 1 c.index.result.now (root_there _ _ _ _ c.self.invariant) c.index.ensures 0
    ∙ count_is _ _ _ _ c.self.invariant ∙ ap (λ marks. length (marked_indices marks)) c.self.view_is
