use Rattle.std.proofs.Common.{refl}
use Rattle.pl_past_tables.proofs.Granted.{registered_now}
use Rattle.pl_past_tables.proofs.addresses.Addresses.register.Goals as goal

pub returns : goal.returns
returns c = λ past keeps above.
    registered_now past c.args.self.now (record c.args.self.now { numbers = c.put.new.self; highest = c.args.n }) c.args.x c.args.n c.number_of.result keeps
    c.number_of.ensures
    (λ k. c.in_ok-put.ensures k) refl above refl refl refl refl refl
