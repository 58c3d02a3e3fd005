use Rattle.pl_checker.proofs.Grants.{not_above, registrable}
use Rattle.pl_checker.proofs.past.Past.may_register.Goals as goal

pub returns-then-n-highest : goal.returns-then-n-highest
returns-then-n-highest c = λ text past keeps.
    not_above c.args.wiring.now past c.args.x c.args.n c.highest.result (c.highest.ensures past keeps.addresses) c.if-n-highest.true

pub returns : goal.returns
returns c = λ text past keeps.
    registrable c.args.wiring.now past c.args.x c.args.n c.number_of.result c.highest.result c.is_live.result (c.highest.ensures past keeps.addresses)
    c.if-n-highest.false c.number_of.ensures (c.is_live.ensures past keeps.holders)
