use Rattle.std.proofs.Common.{◌≡◌, ◌∙◌, List, ap}
use Rattle.pl_frame.specs.declared.address.SwitchId.{SwitchId}
use Rattle.pl_node.specs.declared.messages.TreePart.{TreePart}
use Rattle.pl_reports.proofs.Exports.{all_rising, put_all}
use Rattle.pl_groups.proofs.groups.copy_of.Goals as goal

pub returns : goal.returns
returns c =
    let down : c.add_all.new.list ≡ c.args.part.now.down =
    c.in_ok-add_all.ensures ∙ (λ i. put_all (c.new-down.ensures i) (c.as_slice.ensures.items i))
    ∙ all_rising c.args.part.now.down c.as_slice.ensures.rising in
    ap (λ (xs : List SwitchId). let part : TreePart = record { up = c.args.part.now.up; down = xs } in part) down
