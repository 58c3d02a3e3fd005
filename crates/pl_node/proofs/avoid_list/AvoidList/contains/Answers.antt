use Rattle.std.proofs.Common.{◌&&◌, ◌∙◌, [], ap, not, sym, unwrap_or}
use Rattle.std.specs.Option.{option_map}
use Rattle.std.proofs.lemmas.Bool.{and_right}
use Rattle.pl_lemmas.proofs.Exports.{and_true}
use Rattle.pl_node.specs.AvoidRows.{is_listed}
use Rattle.pl_node.specs.Hidden.{hidden_at}
use Rattle.pl_node.proofs.Shown.{listed_shown}
use Rattle.pl_node.proofs.avoid_list.AvoidList.contains.Goals as goal

pub returns-then-hidden_at : goal.returns-then-hidden_at
returns-then-hidden_at c =
    let xs = unwrap_or (option_map (λ rc. rc.value) c.self.inside.rows) [] in
    let hidden = c.self.inside.hidden in
    let x = c.args.entry.now in
    sym (ap (is_listed x) (sym c.self.view_is) ∙ listed_shown hidden x xs
    ∙ and_right (is_listed x xs) (not (hidden_at hidden x.1 x.2)) (ap not (sym c.hidden_at.ensures ∙ c.if-hidden_at.true)))

pub returns : goal.returns
returns c =
    let xs = unwrap_or (option_map (λ rc. rc.value) c.self.inside.rows) [] in
    let hidden = c.self.inside.hidden in
    let x = c.args.entry.now in
    c.contains.ensures ∙ ap (is_listed x) c.rows_or.ensures ∙ sym (and_true (is_listed x xs))
    ∙ ap (λ b. is_listed x xs && not b) (sym (sym c.hidden_at.ensures ∙ c.if-hidden_at.false))
    ∙ sym (listed_shown hidden x xs) ∙ ap (is_listed x) c.self.view_is
