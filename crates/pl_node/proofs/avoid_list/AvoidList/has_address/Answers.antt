use Rattle.std.proofs.Common.{◌&&◌, ◌∙◌, [], ap, not, sym, unwrap_or}
use Rattle.std.specs.List.{list_any}
use Rattle.std.specs.Option.{option_map}
use Rattle.pl_node.specs.AvoidLists.{is_for}
use Rattle.pl_node.proofs.Shown.{address_shown}
use Rattle.pl_node.proofs.avoid_list.AvoidList.has_address.Goals as goal

pub returns-then-hidden_at : goal.returns-then-hidden_at
returns-then-hidden_at c =
    let xs = unwrap_or (option_map (λ rc. rc.value) c.self.inside.rows) [] in
    let for_it = list_any (is_for c.args.pod c.args.position) in
    sym (ap for_it (sym c.self.view_is) ∙ address_shown c.self.inside.hidden c.args.pod c.args.position xs
    ∙ ap (λ b. not b && for_it xs) (sym c.hidden_at.ensures ∙ c.if-hidden_at.true))

pub returns : goal.returns
returns c =
    let xs = unwrap_or (option_map (λ rc. rc.value) c.self.inside.rows) [] in
    let for_it = list_any (is_for c.args.pod c.args.position) in
    c.has_address.ensures ∙ ap for_it c.rows_or.ensures
    ∙ ap (λ b. not b && for_it xs) (sym (sym c.hidden_at.ensures ∙ c.if-hidden_at.false))
    ∙ sym (address_shown c.self.inside.hidden c.args.pod c.args.position xs) ∙ ap for_it c.self.view_is
