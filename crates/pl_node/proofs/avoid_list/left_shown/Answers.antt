use Rattle.std.proofs.Common.{◌&&◌, ◌∙◌, ap, not, sym}
use Rattle.pl_lemmas.proofs.Exports.{and_true}
use Rattle.pl_node.specs.AvoidRows.{is_listed}
use Rattle.pl_node.specs.Hidden.{hidden_at, shown}
use Rattle.pl_node.proofs.Shown.{all_shown, shown_is}
use Rattle.pl_node.proofs.avoid_list.left_shown.Goals as goal

pub returns-in-None-clause-each : goal.returns-in-None-clause-each
returns-in-None-clause-each c = λ x.
    sym (ap (λ h. is_listed x c.args.list && not (hidden_at h x.1 x.2)) c.in-None.is ∙ and_true (is_listed x c.args.list))

pub returns-in-None-clause-whole : goal.returns-in-None-clause-whole
returns-in-None-clause-whole c = sym (ap (λ h. shown h c.args.list) c.in-None.is ∙ all_shown c.args.list)

pub returns-in_ok-left-in-Some-clause-each : goal.returns-in_ok-left-in-Some-clause-each
returns-in_ok-left-in-Some-clause-each c = λ x.
    c.in_ok-left-in-Some.ensures x ∙ ap (λ l. is_listed x l && not (hidden_at c.args.hidden x.1 x.2)) c.as_slice.ensures.items

pub returns-in_ok-left-in-Some-clause-whole : goal.returns-in_ok-left-in-Some-clause-whole
returns-in_ok-left-in-Some-clause-whole c =
    shown_is c.args.hidden c.args.list c.in_ok-left-in-Some.left c.as_slice.ensures.rising c.as_slice-in_order.ensures.rising
    (λ x. c.in_ok-left-in-Some.ensures x ∙ ap (λ l. is_listed x l && not (hidden_at c.args.hidden x.1 x.2)) c.as_slice.ensures.items)
