use Rattle.pl_wiring.proofs.LinkOrder.{no_link}
use Rattle.pl_wiring.proofs.wiring.Wiring.live_above.Goals as goal

pub returns-else-is_live-clause-none : goal.returns-else-is_live-clause-none
returns-else-is_live-clause-none c = λ upper rises.
    let is = c.link_above-link.ensures.link no_link in
    let live = (rises no_link).1 in
    let here = (rw is at live) in cc
