use Rattle.std.proofs.Common.{ap, ◌∙◌}
use Rattle.pl_queue_array.specs.Tallies.{marks_in}
use Rattle.pl_queue_array.proofs.TallyChanges.{marks_in-zeros}
use Rattle.pl_queue_array.proofs.tally.Tally.new.Goals as goal

pub returns : goal.returns
returns c =
    ap (λ tree. marks_in c.in_ok-levels.field-0.width tree c.args.len) (c.in_ok-tree.ensures.items_if_clones_equal (λ y same. same))
    ∙ marks_in-zeros c.args.len c.in_ok-levels.field-0.width
