use Rattle.std.proofs.Common.{◌||◌, ◌∙◌, ap, sym}
use Rattle.std.specs.List.{list_any}
use Rattle.pl_node.specs.AvoidLists.{is_for}
use Rattle.pl_node.specs.AvoidRows.{some_has}
use Rattle.pl_node.proofs.AvoidRows.{address_listed}
use Rattle.pl_node.proofs.avoid_bits.has_address.Goals as goal

pub returns-then-some_has : goal.returns-then-some_has
returns-then-some_has c =
    let pod = c.args.pod in let position = c.args.position in let rows = c.args.rows.now in let others = c.args.others.now in
    c.if-some_has.true
    ∙ ap (λ b. b || list_any (is_for pod position) others)
    (sym c.if-some_has.true ∙ c.some_has.ensures ∙ ap (λ o. some_has o rows) c.number_of.ensures.number)
    ∙ address_listed pod position rows others

pub returns-else-some_has : goal.returns-else-some_has
returns-else-some_has c =
    let pod = c.args.pod in let position = c.args.position in let rows = c.args.rows.now in let others = c.args.others.now in
    c.some_for.ensures
    ∙ ap (λ b. b || list_any (is_for pod position) others)
    (sym c.if-some_has.false ∙ c.some_has.ensures ∙ ap (λ o. some_has o rows) c.number_of.ensures.number)
    ∙ address_listed pod position rows others
