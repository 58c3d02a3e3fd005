use Rattle.std.proofs.Common.{◌∙◌}
use Rattle.pl_ports.specs.PortsViews.{put_ports}
use Rattle.pl_ports.proofs.Reported.{all_reported}
use Rattle.pl_ports.proofs.ports.Ports.report.Goals as goal

pub returns : goal.returns
returns c = λ v.
    cc (c.in_ok-tell_wish.ensures, c.in_ok-tell_at_each_port.ensures, c.in_ok-push.ensures.ok)
    ∙ all_reported (put_ports c.args.self.now v) c.args.out.now
