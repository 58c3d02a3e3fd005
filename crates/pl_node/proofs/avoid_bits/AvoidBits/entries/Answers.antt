use Rattle.std.proofs.Common.{◌&&◌, ◌∙◌, ap, not, subst}
use Rattle.std.specs.List.Sorted.{IsStrictlySortedBy}
use Rattle.pl_node.specs.AvoidLists.{avoided_cmp}
use Rattle.pl_node.specs.AvoidRows.{is_listed}
use Rattle.pl_node.proofs.AvoidRows.{all_left_over, list_rises}
use Rattle.pl_node.proofs.avoid_bits.AvoidBits.entries.Goals as goal

pub returns : goal.returns
returns c =
    all_left_over c.in_ok-list.list c.args.self.now c.as_slice-in_order.ensures.rising
    (subst (IsStrictlySortedBy avoided_cmp) c.self.view_is (list_rises c.self.inside.rows.items c.self.inside.others))
    (λ x. c.in_ok-list.ensures x ∙ ap (λ l. is_listed x c.args.self.now && not (is_listed x l)) c.new-none.ensures)
