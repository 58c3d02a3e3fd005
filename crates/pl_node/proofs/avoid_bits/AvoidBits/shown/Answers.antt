use Rattle.std.proofs.Common.{◌∙◌, ◌&&◌, ap, not}
use Rattle.std.specs.List.{list_any}
use Rattle.pl_node.specs.AvoidRows.{entries_of, is_listed}
use Rattle.pl_node.specs.Hidden.{hidden_at, shown}
use Rattle.pl_node.proofs.Shown.{rows_shown}
use Rattle.pl_node.proofs.avoid_bits.AvoidBits.shown.Goals as goal

pub returns : goal.returns
returns c =
    let hidden = c.args.hidden in
    rows_shown hidden c.self.inside.rows.items c.in_ok-rows.rows.items c.self.inside.others c.in_ok-others.others
    (λ x. c.in_ok-rows.ensures x
    ∙ ap (λ rs. list_any (λ row. is_listed x (entries_of row)) rs && not (hidden_at hidden x.1 x.2)) c.as_slice.ensures.value)
    (λ x. c.in_ok-others.ensures x ∙ ap (λ xs. is_listed x xs && not (hidden_at hidden x.1 x.2)) c.as_slice-2.ensures.items)
    ∙ ap (shown hidden) c.self.view_is
