use Rattle.std.proofs.Common.{◌≡◌, ◌∙◌, ◌<◌, arith, subst, true}
use Rattle.std.specs.Prelude.{IfSome}
use Rattle.std.specs.List.{range_with_len}
use Rattle.pl_bits.specs.Bits.{has_bit}
use Rattle.pl_node.proofs.Among.{among_range, any_among}
use Rattle.pl_node.specs.AvoidRows.{stands_for}
use Rattle.pl_node.proofs.AvoidRows.{any_bit}
use Rattle.pl_node.proofs.avoid_within.is_first_within.Goals as goal

pub returns-in-Some : goal.returns-in-Some
returns-in-Some c all =
    let row = c.args.row.now in
    let n = c.in-Some.number in
    let at = subst (λ o. IfSome o (λ m. (m < 288) × (has_bit row.words m ≡ true))) c.in-Some.is c.first.ensures in
    c.is_number_within.ensures.1 (λ x h. all x
    (any_bit row x ∙ any_among (stands_for row x) n (range_with_len 0 288) (among_range n 0 288 n (omega arith) at.0) h))
