use Rattle.std.proofs.Common.{◌∙◌, sym, ap}
use Rattle.std.specs.Prelude.{is_some}
use Rattle.std.specs.List.{list_any}
use Rattle.std.proofs.lemmas.Bool.{or_parts}
use Rattle.pl_layouts.specs.Equality.{same_switch}
use Rattle.pl_node.specs.ManagerViews.{edge_at, place_of}
use Rattle.pl_faults.specs.declared.edges.Edge.{Edge}
use Rattle.pl_faults.proofs.Words.{was_unplaced}
use Rattle.pl_faults.proofs.leading.place_leading.Goals as goal

pub returns-then-is_placed : goal.returns-then-is_placed
returns-then-is_placed c told word was = c.in_ok-turned.ensures c.args.switch told word was

pub returns : goal.returns
returns c told word was =
    let s = c.args.switch in let after = c.args.reports.now in let es = c.args.leading.now.edges.items in
    let among = list_any (λ (e : Edge). same_switch e.switch s) c.as_slice.result.now in let own = is_some (edge_at s (place_of after s)) in
    let none = or_parts among own (sym c.is_placed.ensures ∙ c.if-is_placed.false) in
    c.in_ok-turned-2.ensures told word
    (word.edges
    (was_unplaced told s es was.placed (ap (list_any (λ (e : Edge). same_switch e.switch s)) (sym c.as_slice.ensures.value) ∙ none.0)) none.1)
    was
