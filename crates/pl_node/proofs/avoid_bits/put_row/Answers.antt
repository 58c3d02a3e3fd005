use Rattle.std.proofs.Common.{◌∙◌, ap}
use Rattle.pl_node.specs.AvoidRows.{listed_in}
use Rattle.pl_node.proofs.AvoidRows.{gains_row, list_rises}
use Rattle.pl_node.proofs.avoid_bits.put_row.Goals as goal

pub returns-in_err-push-clause-rising : goal.returns-in_err-push-clause-rising
returns-in_err-push-clause-rising c = list_rises c.args.rows.now.items c.args.others.now

pub returns-clause-ok : goal.returns-clause-ok
returns-clause-ok c =
    ap (λ rs. listed_in rs c.args.others.now) c.in_ok-push.ensures.items ∙ gains_row c.args.rows.now.items c.args.others.now c.args.row

pub returns-then-is_blank-clause-rising : goal.returns-then-is_blank-clause-rising
returns-then-is_blank-clause-rising c = list_rises c.args.rows.now.items c.args.others.now

pub returns-clause-rising : goal.returns-clause-rising
returns-clause-rising c = list_rises c.args.rows.now.items c.args.others.now
