use Rattle.pl_node.specs.AvoidRows.{listed_in}
use Rattle.pl_node.proofs.avoid_bits.are_bare.Goals as goal

pub returns-then-is_empty : goal.returns-then-is_empty
unfolding listed_in
returns-then-is_empty c h = λ i. listed_in (c.has_none.ensures h i) (c.is_empty.ensures.0 c.if-is_empty.true i)
