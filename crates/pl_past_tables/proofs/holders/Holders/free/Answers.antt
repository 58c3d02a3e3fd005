use Rattle.std.proofs.Common.{arith}
use Rattle.pl_past.specs.Addressees.{tenures}
use Rattle.pl_past_tables.proofs.Holding.{few_tenures, freed_holders}
use Rattle.pl_past_tables.proofs.holders.Holders.free.Goals as goal

pub returns : goal.returns
returns c = λ plan past x run fit keeps next at live where_it_is.
    let few = few_tenures past c.args.address in
    freed_holders plan past c.args.self.now
    (record { live = c.put.new.self; counts = c.begin.new.counts; terms = c.begin.new.terms; free = c.free_one.new.free }) x c.args.n c.args.address _ run fit
    keeps next at where_it_is
    live c.ranges.n.fits (λ k. c.in_ok-put.ensures k) (c.in_ok-begin.ensures (tenures past) keeps.tenures (omega (arith, few, next, c.ranges.n.fits)))
    (λ k small. c.in_ok-free_one.ensures k small)
