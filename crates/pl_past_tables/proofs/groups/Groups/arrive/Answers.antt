use Rattle.std.proofs.Common.{refl}
use Rattle.pl_past_tables.proofs.Joining.{frame_arrived}
use Rattle.pl_past_tables.proofs.groups.Groups.arrive.Goals as goal

pub returns : goal.returns
returns c = λ plan past id host frame keeps of stands.
    frame_arrived plan past c.args.self.now (record { members = c.args.self.now.members; arrivals = c.put.new.self }) id c.args.ancestor c.args.point host
    frame keeps of stands
    (λ k. c.in_ok-put.ensures k) refl
