use Rattle.std.proofs.Common.{◌∷◌, subst, sym}
use Rattle.pl_journal.specs.declared.entry.Entry.{Entry}
use Rattle.pl_checker.specs.Past.{HasDigits, IsCheckable, Keeps, MayFollow}
use Rattle.pl_checker.proofs.past.Past.keep.Goals as goal

pub returns-in-Line : goal.returns-in-Line
returns-in-Line c = λ text past keeps next digits follows.
    subst (λ (e : Entry). Keeps c.args.wiring.now text (e ∷ past) c.pass.new.self) (sym c.in-Line.is)
    (c.pass.ensures text past _ tt keeps)

pub returns-in-Skipped : goal.returns-in-Skipped
returns-in-Skipped c = λ text past keeps next digits follows.
    subst (λ (e : Entry). Keeps c.args.wiring.now text (e ∷ past) c.pass-in-Skipped.new.self) (sym c.in-Skipped.is)
    (c.pass-in-Skipped.ensures text past _ tt keeps)

pub returns-in-Placed : goal.returns-in-Placed
returns-in-Placed c = λ text past keeps next digits follows.
    subst (λ (e : Entry). Keeps c.args.wiring.now text (e ∷ past) c.pass-in-Placed.new.self) (sym c.in-Placed.is)
    (c.pass-in-Placed.ensures text past _ tt keeps)

pub returns-in-Settled : goal.returns-in-Settled
returns-in-Settled c = λ text past keeps next digits follows.
    subst (λ (e : Entry). Keeps c.args.wiring.now text (e ∷ past) c.pass-in-Settled.new.self) (sym c.in-Settled.is)
    (c.pass-in-Settled.ensures text past _ tt keeps)

pub returns-in-Unsettled : goal.returns-in-Unsettled
returns-in-Unsettled c = λ text past keeps next digits follows.
    subst (λ (e : Entry). Keeps c.args.wiring.now text (e ∷ past) c.pass-in-Unsettled.new.self) (sym c.in-Unsettled.is)
    (c.pass-in-Unsettled.ensures text past _ tt keeps)

pub returns-in-Crossed : goal.returns-in-Crossed
returns-in-Crossed c = λ text past keeps next digits follows.
    subst (λ (e : Entry). Keeps c.args.wiring.now text (e ∷ past) c.cross.new.self) (sym c.in-Crossed.is)
    (c.cross.ensures text past keeps next (subst (λ (e : Entry). MayFollow c.args.wiring.now past e) c.in-Crossed.is follows))

pub returns-in-Redirected : goal.returns-in-Redirected
returns-in-Redirected c = λ text past keeps next digits follows.
    subst (λ (e : Entry). Keeps c.args.wiring.now text (e ∷ past) c.redirect.new.self) (sym c.in-Redirected.is)
    (c.redirect.ensures text past keeps (subst (λ (e : Entry). MayFollow c.args.wiring.now past e) c.in-Redirected.is follows))

pub returns-in-Taken : goal.returns-in-Taken
returns-in-Taken c = λ text past keeps next digits follows.
    subst (λ (e : Entry). Keeps c.args.wiring.now text (e ∷ past) c.take.new.self) (sym c.in-Taken.is)
    (c.take.ensures text past keeps (subst (λ (e : Entry). MayFollow c.args.wiring.now past e) c.in-Taken.is follows))

pub returns-in-Dropped : goal.returns-in-Dropped
returns-in-Dropped c = λ text past keeps next digits follows.
    subst (λ (e : Entry). Keeps c.args.wiring.now text (e ∷ past) c.drop_frame.new.self) (sym c.in-Dropped.is)
    (c.drop_frame.ensures text past keeps (subst (λ (e : Entry). MayFollow c.args.wiring.now past e) c.in-Dropped.is follows))

pub returns-in_ok-copy-in-Copied : goal.returns-in_ok-copy-in-Copied
returns-in_ok-copy-in-Copied c = λ text past keeps next digits follows.
    subst (λ (e : Entry). Keeps c.args.wiring.now text (e ∷ past) c.copy.new.self) (sym c.in-Copied.is)
    (c.in_ok-copy-in-Copied.ensures text past keeps (subst (λ (e : Entry). MayFollow c.args.wiring.now past e) c.in-Copied.is follows))

pub returns-in_ok-arrive-in-Arrived : goal.returns-in_ok-arrive-in-Arrived
returns-in_ok-arrive-in-Arrived c = λ text past keeps next digits follows.
    subst (λ (e : Entry). Keeps c.args.wiring.now text (e ∷ past) c.arrive.new.self) (sym c.in-Arrived.is)
    (c.in_ok-arrive-in-Arrived.ensures text past keeps (subst (λ (e : Entry). MayFollow c.args.wiring.now past e) c.in-Arrived.is follows))

pub returns-in-Restarted : goal.returns-in-Restarted
returns-in-Restarted c = λ text past keeps next digits follows.
    subst (λ (e : Entry). Keeps c.args.wiring.now text (e ∷ past) c.restart.new.self) (sym c.in-Restarted.is)
    (c.restart.ensures text past keeps (subst (λ (e : Entry). MayFollow c.args.wiring.now past e) c.in-Restarted.is follows))

pub returns-in_ok-register-in-Registered : goal.returns-in_ok-register-in-Registered
returns-in_ok-register-in-Registered c = λ text past keeps next digits follows.
    subst (λ (e : Entry). Keeps c.args.wiring.now text (e ∷ past) c.register.new.self) (sym c.in-Registered.is)
    (c.in_ok-register-in-Registered.ensures text past keeps (subst (λ (e : Entry). MayFollow c.args.wiring.now past e) c.in-Registered.is follows))

pub returns-in_ok-free-in-Freed : goal.returns-in_ok-free-in-Freed
returns-in_ok-free-in-Freed c = λ text past keeps next digits follows.
    subst (λ (e : Entry). Keeps c.args.wiring.now text (e ∷ past) c.free.new.self) (sym c.in-Freed.is)
    (c.in_ok-free-in-Freed.ensures text past keeps next (subst (λ (e : Entry). MayFollow c.args.wiring.now past e) c.in-Freed.is follows))

pub returns-in_ok-fail-in-LinkDown : goal.returns-in_ok-fail-in-LinkDown
returns-in_ok-fail-in-LinkDown c = λ text past keeps next digits follows.
    subst (λ (e : Entry). Keeps c.args.wiring.now text (e ∷ past) c.fail.new.self) (sym c.in-LinkDown.is)
    (c.in_ok-fail-in-LinkDown.ensures text past keeps (subst (λ (e : Entry). MayFollow c.args.wiring.now past e) c.in-LinkDown.is follows))

pub returns-in_ok-repair-in-LinkUp : goal.returns-in_ok-repair-in-LinkUp
returns-in_ok-repair-in-LinkUp c = λ text past keeps next digits follows.
    subst (λ (e : Entry). Keeps c.args.wiring.now text (e ∷ past) c.repair.new.self) (sym c.in-LinkUp.is)
    (c.in_ok-repair-in-LinkUp.ensures text past keeps next (subst (λ (e : Entry). MayFollow c.args.wiring.now past e) c.in-LinkUp.is follows))

pub returns-in_ok-send-in-Sent : goal.returns-in_ok-send-in-Sent
returns-in_ok-send-in-Sent c = λ text past keeps next digits follows.
    subst (λ (e : Entry). Keeps c.args.wiring.now text (e ∷ past) c.send.new.self) (sym c.in-Sent.is)
    (c.in_ok-send-in-Sent.ensures text past keeps next (subst (λ (e : Entry). IsCheckable c.args.wiring.now e) c.in-Sent.is c.requires).1
    (subst (λ (e : Entry). IsCheckable c.args.wiring.now e) c.in-Sent.is c.requires).2
    (subst (λ (e : Entry). HasDigits text c.args.from e) c.in-Sent.is digits)
    (subst (λ (e : Entry). MayFollow c.args.wiring.now past e) c.in-Sent.is follows))

pub returns-in_ok-make-in-Made : goal.returns-in_ok-make-in-Made
returns-in_ok-make-in-Made c = λ text past keeps next digits follows.
    subst (λ (e : Entry). Keeps c.args.wiring.now text (e ∷ past) c.make.new.self) (sym c.in-Made.is)
    (c.in_ok-make-in-Made.ensures text past keeps (subst (λ (e : Entry). IsCheckable c.args.wiring.now e) c.in-Made.is c.requires).1
    (subst (λ (e : Entry). IsCheckable c.args.wiring.now e) c.in-Made.is c.requires).2
    (subst (λ (e : Entry). HasDigits text c.args.from e) c.in-Made.is digits)
    (subst (λ (e : Entry). MayFollow c.args.wiring.now past e) c.in-Made.is follows))

pub send-requires : goal.send-requires
send-requires c = (subst (λ (e : Entry). IsCheckable c.args.wiring.now e) c.in-Sent.is c.requires).0

pub make-requires : goal.make-requires
make-requires c = (subst (λ (e : Entry). IsCheckable c.args.wiring.now e) c.in-Made.is c.requires).0

pub returns-in_ok-grant-in-Granted : goal.returns-in_ok-grant-in-Granted
returns-in_ok-grant-in-Granted c = λ text past keeps next digits follows.
    subst (λ (e : Entry). Keeps c.args.wiring.now text (e ∷ past) c.grant.new.self) (sym c.in-Granted.is)
    (c.in_ok-grant-in-Granted.ensures text past keeps next (subst (λ (e : Entry). MayFollow c.args.wiring.now past e) c.in-Granted.is follows))

pub returns-in_ok-go-in-Moved : goal.returns-in_ok-go-in-Moved
returns-in_ok-go-in-Moved c = λ text past keeps next digits follows.
    subst (λ (e : Entry). Keeps c.args.wiring.now text (e ∷ past) c.go.new.self) (sym c.in-Moved.is)
    (c.in_ok-go-in-Moved.ensures text past keeps next (subst (λ (e : Entry). MayFollow c.args.wiring.now past e) c.in-Moved.is follows))
