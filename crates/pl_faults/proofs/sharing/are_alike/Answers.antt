use Rattle.std.proofs.Common.{◌∙◌, ap, sym}
use Rattle.std.specs.List.{filter}
use Rattle.std.proofs.lemmas.List.{take_rest}
use Rattle.pl_node.specs.AvoidLists.{is_level_above}
use Rattle.pl_node.specs.ManagerViews.{place_of}
use Rattle.pl_faults.proofs.Shared.{alike_behind}
use Rattle.pl_faults.proofs.sharing.are_alike.Goals as goal

pub returns-then-are_same : goal.returns-then-are_same
returns-then-are_same c h =
    ap (filter (λ u. is_level_above c.args.level (place_of c.args.reports.now u).level)) (c.are_same.ensures c.if-are_same.true)

-- the same from where the first one above stands
pub returns-else-are_same : goal.returns-else-are_same
returns-else-are_same c h =
    let m = c.first_above.result in let n = c.first_above-else-are_same.result in
    alike_behind (λ u. is_level_above c.args.level (place_of c.args.reports.now u).level) c.args.a.now c.args.b.now m n
    c.first_above.ensures.above c.first_above-else-are_same.ensures.above
    (sym (take_rest c.args.a.now m) ∙ c.are_same-else-are_same.ensures h ∙ take_rest c.args.b.now n)
