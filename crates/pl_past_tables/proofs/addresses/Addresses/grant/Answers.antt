use Rattle.std.proofs.Common.{refl}
use Rattle.pl_past_tables.proofs.Granted.{granted_now}
use Rattle.pl_past_tables.proofs.addresses.Addresses.grant.Goals as goal

pub returns : goal.returns
returns c = λ past keeps.
    granted_now past c.args.self.now
    (record {
      grants = c.put.new.self;
      numbers = c.put-2.new.self;
      highest = c.args.self.now.highest;
      stays = c.put-3.new.self;
      spent = c.spend.new.spent;
      edges = c.put-4.new.self;
      by_edge = c.put-5.new.self;
    }) c.args.x c.args.grant.host c.args.grant.point c.number_of-address.result keeps c.number_of-address.ensures
    (λ k. c.in_ok-put.ensures k) (λ k. c.in_ok-put-2.ensures k) refl (λ k. c.in_ok-put-3.ensures k) (λ k. c.in_ok-spend.ensures k)
    (λ k. c.in_ok-put-4.ensures k)
    (λ k. c.in_ok-put-5.ensures k)
