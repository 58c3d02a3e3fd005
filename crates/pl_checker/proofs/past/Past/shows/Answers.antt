use Rattle.std.proofs.Common.{◌↔◌, subst, sym}
use Rattle.std.specs.Prelude.{IsTrue}
use Rattle.pl_journal.specs.declared.cause.Cause.{Cause}
use Rattle.pl_journal.specs.Causes.{CauseShows}
use Rattle.pl_checker.proofs.past.Past.shows.Goals as goal

pub returns-in-NotPlaced : goal.returns-in-NotPlaced
returns-in-NotPlaced c = λ text past id keeps is.
    subst (λ (x : Cause). IsTrue c.has_crossed.result ↔ CauseShows c.args.wiring.now past id x) (sym c.in-NotPlaced.is) (c.has_crossed.ensures text past id is)

pub returns-in-NoAddress : goal.returns-in-NoAddress
returns-in-NoAddress c = λ text past id keeps is.
    subst (λ (x : Cause). IsTrue c.is_not_live.result ↔ CauseShows c.args.wiring.now past id x) (sym c.in-NoAddress.is)
    (c.is_not_live.ensures text past id keeps is)

pub returns-in-HostGone : goal.returns-in-HostGone
returns-in-HostGone c = λ text past id keeps is.
    subst (λ (x : Cause). IsTrue c.is_gone.result ↔ CauseShows c.args.wiring.now past id x) (sym c.in-HostGone.is) (c.is_gone.ensures text past id keeps is)

pub returns-in-LinkDown : goal.returns-in-LinkDown
returns-in-LinkDown c = λ text past id keeps is.
    subst (λ (x : Cause). IsTrue c.touches_failed_link.result ↔ CauseShows c.args.wiring.now past id x) (sym c.in-LinkDown.is)
    (c.touches_failed_link.ensures text past id keeps is)

pub returns-in-Spent : goal.returns-in-Spent
returns-in-Spent c = λ text past id keeps is.
    subst (λ (x : Cause). IsTrue c.came_in_at_spent_port.result ↔ CauseShows c.args.wiring.now past id x) (sym c.in-Spent.is)
    (c.came_in_at_spent_port.ensures text past id keeps is)

pub returns-in-BadArp : goal.returns-in-BadArp
returns-in-BadArp c = λ text past id keeps is.
    subst (λ (x : Cause). IsTrue c.is_bad_arp.result ↔ CauseShows c.args.wiring.now past id x) (sym c.in-BadArp.is) (c.is_bad_arp.ensures text past id is)

pub returns-in-NoMember : goal.returns-in-NoMember
returns-in-NoMember c = λ text past id keeps is.
    subst (λ (x : Cause). IsTrue c.is_routed.result ↔ CauseShows c.args.wiring.now past id x) (sym c.in-NoMember.is) (c.is_routed.ensures text past id is)
