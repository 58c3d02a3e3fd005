use Rattle.std.proofs.Common.{refl}
use Rattle.pl_past_tables.proofs.Joining.{members_sent}
use Rattle.pl_past_tables.proofs.groups.Groups.send.Goals as goal

pub returns : goal.returns
returns c = λ plan past id keeps.
    members_sent plan past c.args.self.now (record { members = c.hear.new.members; arrivals = c.args.self.now.arrivals }) id c.args.host c.args.frame.now keeps
    c.in_ok-hear.ensures refl
