use Rattle.std.proofs.Common.{arith}
use Rattle.pl_past.specs.Addressees.{tenures}
use Rattle.pl_past_tables.proofs.Holding.{few_tenures, granted_holders}
use Rattle.pl_past_tables.proofs.holders.Holders.grant.Goals as goal

pub returns : goal.returns
returns c = λ plan past x e p run fit keeps next at none where_it_is.
    let few = few_tenures past c.args.address in
    granted_holders plan past c.args.self.now
    (record { live = c.put.new.self; counts = c.begin.new.counts; terms = c.begin.new.terms; free = c.take_one.new.free }) x c.args.n c.args.address _ run fit
    keeps next at where_it_is
    c.args.host e p none (λ k. c.in_ok-put.ensures k) (c.in_ok-begin.ensures (tenures past) keeps.tenures (omega (arith, few, next, c.ranges.n.fits)))
    (λ k. c.in_ok-take_one.ensures k)
