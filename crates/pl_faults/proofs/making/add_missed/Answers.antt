use Rattle.std.proofs.Common.{◌∙◌, ap}
use Rattle.std.specs.Prelude.{fold}
use Rattle.pl_faults.specs.Missed.{is_avoided, with_other}
use Rattle.pl_faults.proofs.ByRows.{row_put}
use Rattle.pl_faults.proofs.making.add_missed.Goals as goal

pub returns : goal.returns
returns c =
    c.in_ok-add_others.ensures
    ∙ ap (λ list. fold (with_other c.args.place c.args.switch c.args.neighbour) list c.args.missed.now) c.in_ok-insert_row.ensures.ok
    ∙ row_put (is_avoided c.args.place c.args.switch) c.args.neighbour c.args.missed.now c.row_of-row.result c.row_of-row.ensures.neighbour
    c.row_of-row.ensures.bits c.args.list.now c.in_ok-insert_row.ensures.rising
