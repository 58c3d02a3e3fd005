use Rattle.std.proofs.Common.{◌≡◌, sym, ◌∙◌, ap, subst}
use Rattle.std.specs.Bool.{Decides}
use Rattle.pl_node.specs.PortRecords.{port_of}
use Rattle.pl_fabric.specs.Settled.{announced_at}
use Rattle.pl_fabric.proofs.Deciding.{decides_heard, neighbour_decides}
use Rattle.pl_fabric.proofs.ends.is_current.Goals as goal

pub returns-in-Some : goal.returns-in-Some
returns-in-Some g c =
    let heard = (port_of (g.F.SwitchFacts.view c.args.facts.now) c.args.port).heard in
    let n = c.in-Some.neighbour in
    decides_heard heard n (announced_at (g.F.SwitchFacts.view c.args.other.now) c.args.there) c.eq.result
    (sym (ap (λ r. r.heard) c.port.ensures) ∙ c.in-Some.is)
    (subst (λ a. Decides c.eq.result (n ≡ a)) c.announced_at.ensures
    (subst (λ b. Decides b (n ≡ c.announced_at.result)) (sym c.eq.ensures) (neighbour_decides n c.announced_at.result)))
