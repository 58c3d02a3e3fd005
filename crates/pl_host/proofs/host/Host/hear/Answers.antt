use Rattle.std.proofs.Common.{Some}
use Rattle.pl_host_rule.specs.HostRule.{released}
use Rattle.pl_host.specs.Host.{host_view}
use Rattle.pl_host.proofs.Stepping.{hears, on_both}
use Rattle.pl_host.proofs.host.Host.hear.Goals as goal

pub returns-clause-step : goal.returns-clause-step
returns-clause-step c =
    on_both c.release.result
    (λ groups sent. hears (host_view c.args.self.now) c.args.arp.now c.hear.new.self.cache c.answer.new.joined c.release.new.joined
    c.hear.new.self.waiting c.in_ok-heard.heard.answer (released c.in_ok-heard.heard.frames (Some c.args.arp.now.sha)) c.args.out.now
    c.answer.new.out c.release.new.out c.in_ok-heard.ensures.cache c.in_ok-heard.ensures.answer c.in_ok-heard.ensures.released
    c.in_ok-heard.ensures.waiting c.in_ok-answer.ensures.groups groups c.in_ok-answer.ensures.sent sent)
    c.release.ensures.groups c.release.ensures.sent
