use Rattle.std.proofs.Common.{◌∙◌, ◌||◌, ap, get_or, sym, take}
use Rattle.std.specs.List.{list_any}
use Rattle.std.proofs.lemmas.List.{take_all}
use Rattle.std.proofs.lemmas.List.Folds.{list_any_more}
use Rattle.pl_faults.specs.declared.edges.Edge.{Edge}
use Rattle.pl_faults.specs.Missed.{is_numbered}
use Rattle.pl_faults.proofs.ByRows.{or_swap}
use Rattle.pl_faults.proofs.making.row_of.Goals as goal

pub loop-edge-preserved : goal.loop-edge-preserved
loop-edge-preserved c =
    let place = c.args.place in let s = c.args.switch in let es = c.args.missed.now in let i = c.loop-edge.edge-index in
    let d : Edge = record { switch = record { 0 = 0 }; pod = 0; position = 0 } in (
      c.with_edge-row.ensures.neighbour ∙ c.loop-edge.invariant.0,
      λ n. c.with_edge-row.ensures.bits n
          ∙ ap (λ b. is_numbered place s n (get_or es i d) || b) (c.loop-edge.invariant.1 n)
          ∙ or_swap (is_numbered place s n (get_or es i d)) (list_any (is_numbered place s n) (take i es))
          ∙ sym (list_any_more (is_numbered place s n) es i d c.loop-edge-test.true),
    )

pub returns-clause-bits : goal.returns-clause-bits
returns-clause-bits c n =
    c.loop-edge.invariant.1 n
    ∙ ap (list_any (is_numbered c.args.place c.args.switch n)) (take_all c.loop-edge.edge-index c.args.missed.now c.loop-edge-test.false)
