use Rattle.std.proofs.Common.{ap, sym, ◌∙◌}
use Rattle.pl_node.specs.ManagerViews.{ManagerView}
use Rattle.pl_watch.specs.Seen.{Kept}
use Rattle.pl_watch.proofs.Turns.{manager_stays}
use Rattle.pl_watch.proofs.chronicle.Chronicle.follow_restart.Goals as goal

pub returns-in_default : goal.returns-in_default
returns-in_default g c =
    let kept : Kept = c.args.self.now in
    ap (λ (m : ManagerView). record kept { manager = m }) (c.requires ∙ sym (manager_stays c.args.world.now c.args.event.now c.in_default.not-Restart))
