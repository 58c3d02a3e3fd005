use Rattle.std.proofs.Common.{◌∙◌}
use Rattle.pl_ports.specs.PortsViews.{put_ports}
use Rattle.pl_ports.proofs.LinksTold.{all_told}
use Rattle.pl_ports.proofs.ports.Ports.tell_changes.Goals as goal

pub returns : goal.returns
returns c = λ old v same stood.
    cc (c.in_ok-want_pod.ensures, c.in_ok-tell_at_each_port.ensures, c.in_ok-tell_place.ensures)
    ∙ all_told c.args.before.now old (put_ports c.args.self.now v) c.args.out.now same stood
