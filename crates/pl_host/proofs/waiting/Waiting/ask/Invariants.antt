use Rattle.std.proofs.Common.{◌≡◌, ◌++◌, map}
use Rattle.pl_node.specs.declared.acts.HostAct.TheVariants.{Send}
use Rattle.pl_host_rule.specs.HostRule.{request_frame}
use Rattle.pl_host.proofs.waiting.Waiting.ask.Given as goal

abbrev pub invariant-loop-ip : goal.invariant-loop-ip
invariant-loop-ip l =
    l.out ++ map (λ ip. Send (request_frame l.me ip)) l.ip-iterator ≡ l.initial.out ++ map (λ ip. Send (request_frame l.me ip)) l.initial.ip-iterator
