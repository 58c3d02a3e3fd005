use Rattle.pl_past_tables.proofs.Moving.{moved_hosts}
use Rattle.pl_past_tables.proofs.hosts.Hosts.go.Goals as goal

pub returns : goal.returns
returns c = λ past run keeps within free next.
    moved_hosts c.args.wiring.now past c.args.self.now (record { moves = c.put-2.new.self; stood = c.put-3.new.self; taken = c.put.new.self }) c.args.host
    c.args.point c.args.n _ _
    c.k-k.ensures.plan run keeps within next (c.point_of-from.ensures past keeps)
    (λ k. c.in_ok-leave.ensures k) (λ k. c.in_ok-put.ensures k) (λ k. c.in_ok-put-2.ensures k) (λ k. c.in_ok-put-3.ensures k)
