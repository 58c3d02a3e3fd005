use Rattle.std.proofs.Common.{sym, subst, ◌∙◌, ap}
use Rattle.std.specs.Prelude.{IfSome}
use Rattle.pl_ports.specs.SoundPorts.{IsPod}
use Rattle.pl_ports.proofs.PodsTold.{first_told, sound_told}
use Rattle.pl_ports.proofs.ports.Ports.edge_pod.Goals as goal

pub returns-in-None-None-clause-fits : goal.returns-in-None-None-clause-fits
returns-in-None-None-clause-fits c =
    subst (λ o. IfSome o IsPod) (sym (c.pod_told_before.ensures ∙ ap first_told c.records.ensures.records)) (sound_told c.args.self.now.ports c.records.ensures.sound)
