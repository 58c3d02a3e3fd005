use Rattle.std.proofs.Common.{◌∙◌, ap}
use Rattle.pl_node.specs.Hidden.{shown}
use Rattle.pl_node.specs.ManagerViews.{place_of}
use Rattle.pl_faults.specs.Sharing.{hidden_of}
use Rattle.pl_faults.proofs.Shared.{shown_list}
use Rattle.pl_faults.proofs.sharing.list_after.Goals as goal

pub returns-then-not-apart-clause-list : goal.returns-then-not-apart-clause-list
returns-then-not-apart-clause-list c known = c.in_ok-own.ensures known.leading

pub returns-then-not-apart-clause-next : goal.returns-then-not-apart-clause-next
returns-then-not-apart-clause-next c known = known

pub returns-clause-list : goal.returns-clause-list
returns-clause-list c known =
    let told = c.args.reports.now in
    c.in_ok-list.ensures ∙ ap (shown (hidden_of (place_of told c.args.switch))) (c.in_ok-shared.ensures known.shared).1
    ∙ shown_list told c.args.leading.now known.leading (known.apart c.if-not-apart.false) c.args.switch

pub returns-clause-next : goal.returns-clause-next
returns-clause-next c known = record { leading = known.leading; apart = known.apart; shared = (c.in_ok-shared.ensures known.shared).0 }
