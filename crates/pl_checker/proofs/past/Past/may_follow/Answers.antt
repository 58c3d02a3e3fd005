use Rattle.std.proofs.Common.{◌↔◌, true, refl, subst, sym}
use Rattle.std.specs.Prelude.{IsTrue}
use Rattle.pl_journal.specs.declared.entry.Entry.{Entry}
use Rattle.pl_checker.specs.Past.{IsCheckable, MayFollow}
use Rattle.pl_checker.proofs.Begins.{by_made, by_sent}
use Rattle.pl_checker.proofs.past.Past.may_follow.Goals as goal

pub returns-in-Line : goal.returns-in-Line
returns-in-Line c = λ past keeps.
    subst (λ (e : Entry). IsTrue true ↔ MayFollow c.args.wiring.now past e) (sym c.in-Line.is) (λ _. (tt, tt), λ _. refl)

pub returns-in-Skipped : goal.returns-in-Skipped
returns-in-Skipped c = λ past keeps.
    subst (λ (e : Entry). IsTrue true ↔ MayFollow c.args.wiring.now past e) (sym c.in-Skipped.is) (λ _. (tt, tt), λ _. refl)

pub returns-in-Placed : goal.returns-in-Placed
returns-in-Placed c = λ past keeps.
    subst (λ (e : Entry). IsTrue true ↔ MayFollow c.args.wiring.now past e) (sym c.in-Placed.is) (λ _. (tt, tt), λ _. refl)

pub returns-in-Settled : goal.returns-in-Settled
returns-in-Settled c = λ past keeps.
    subst (λ (e : Entry). IsTrue true ↔ MayFollow c.args.wiring.now past e) (sym c.in-Settled.is) (λ _. (tt, tt), λ _. refl)

pub returns-in-Unsettled : goal.returns-in-Unsettled
returns-in-Unsettled c = λ past keeps.
    subst (λ (e : Entry). IsTrue true ↔ MayFollow c.args.wiring.now past e) (sym c.in-Unsettled.is) (λ _. (tt, tt), λ _. refl)

pub returns-in-Sent : goal.returns-in-Sent
returns-in-Sent c = λ past keeps.
    by_sent c.args.wiring.now past c.args.entry.now c.may_send.result _ _ _ c.in-Sent.is (λ at frame. c.may_send.ensures c.args.text.now past at frame keeps)

pub returns-in-Made : goal.returns-in-Made
returns-in-Made c = λ past keeps.
    by_made c.args.wiring.now past c.args.entry.now c.may_make.result _ _ _ c.in-Made.is (λ at frame. c.may_make.ensures c.args.text.now past at frame keeps)

pub returns-in-Crossed : goal.returns-in-Crossed
returns-in-Crossed c = λ past keeps.
    subst (λ (e : Entry). IsTrue c.may_cross.result ↔ MayFollow c.args.wiring.now past e) (sym c.in-Crossed.is) (c.may_cross.ensures c.args.text.now past keeps)

pub returns-in-Redirected : goal.returns-in-Redirected
returns-in-Redirected c = λ past keeps.
    subst (λ (e : Entry). IsTrue c.may_redirect.result ↔ MayFollow c.args.wiring.now past e) (sym c.in-Redirected.is)
    (c.may_redirect.ensures c.args.text.now past keeps)

pub returns-in-Copied : goal.returns-in-Copied
returns-in-Copied c = λ past keeps.
    subst (λ (e : Entry). IsTrue c.may_copy.result ↔ MayFollow c.args.wiring.now past e) (sym c.in-Copied.is) (c.may_copy.ensures c.args.text.now past keeps)

pub returns-in-Taken : goal.returns-in-Taken
returns-in-Taken c = λ past keeps.
    subst (λ (e : Entry). IsTrue c.may_take.result ↔ MayFollow c.args.wiring.now past e) (sym c.in-Taken.is) (c.may_take.ensures c.args.text.now past keeps)

pub returns-in-Dropped : goal.returns-in-Dropped
returns-in-Dropped c = λ past keeps.
    subst (λ (e : Entry). IsTrue c.may_drop.result ↔ MayFollow c.args.wiring.now past e) (sym c.in-Dropped.is) (c.may_drop.ensures c.args.text.now past keeps)

pub returns-in-Restarted : goal.returns-in-Restarted
returns-in-Restarted c = λ past keeps.
    subst (λ (e : Entry). IsTrue c.may_restart.result ↔ MayFollow c.args.wiring.now past e) (sym c.in-Restarted.is)
    (c.may_restart.ensures c.args.text.now past keeps)

pub returns-in-Registered : goal.returns-in-Registered
returns-in-Registered c = λ past keeps.
    subst (λ (e : Entry). IsTrue c.may_register.result ↔ MayFollow c.args.wiring.now past e) (sym c.in-Registered.is)
    (c.may_register.ensures c.args.text.now past keeps)

pub returns-in-Freed : goal.returns-in-Freed
returns-in-Freed c = λ past keeps.
    subst (λ (e : Entry). IsTrue c.may_free.result ↔ MayFollow c.args.wiring.now past e) (sym c.in-Freed.is) (c.may_free.ensures c.args.text.now past keeps)

pub returns-in-LinkDown : goal.returns-in-LinkDown
returns-in-LinkDown c = λ past keeps.
    subst (λ (e : Entry). IsTrue c.may_fail.result ↔ MayFollow c.args.wiring.now past e) (sym c.in-LinkDown.is) (c.may_fail.ensures c.args.text.now past keeps)

pub returns-in-LinkUp : goal.returns-in-LinkUp
returns-in-LinkUp c = λ past keeps.
    subst (λ (e : Entry). IsTrue c.may_repair.result ↔ MayFollow c.args.wiring.now past e) (sym c.in-LinkUp.is)
    (c.may_repair.ensures c.args.text.now past keeps)

pub returns-in_ok-arrives-in-Arrived : goal.returns-in_ok-arrives-in-Arrived
returns-in_ok-arrives-in-Arrived c = λ past keeps.
    subst (λ (e : Entry). IsTrue c.in_ok-arrives-in-Arrived.arrives ↔ MayFollow c.args.wiring.now past e) (sym c.in-Arrived.is)
    (c.in_ok-arrives-in-Arrived.ensures past keeps)

pub may_arrive-requires : goal.may_arrive-requires
may_arrive-requires c =
    let fits = subst (λ (e : Entry). IsCheckable c.args.wiring.now e) c.in-Arrived.is c.requires in
    record { host = fits.0; long = fits.1.0 }

pub returns-in-Granted : goal.returns-in-Granted
returns-in-Granted c = λ past keeps.
    subst (λ (e : Entry). IsTrue c.may_grant.result ↔ MayFollow c.args.wiring.now past e) (sym c.in-Granted.is) (c.may_grant.ensures c.args.text.now past keeps)

pub returns-in-Moved : goal.returns-in-Moved
returns-in-Moved c = λ past keeps.
    subst (λ (e : Entry). IsTrue c.may_move.result ↔ MayFollow c.args.wiring.now past e) (sym c.in-Moved.is) (c.may_move.ensures c.args.text.now past keeps)
