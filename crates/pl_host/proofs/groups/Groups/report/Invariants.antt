use Rattle.std.proofs.Common.{◌≡◌, ◌++◌, map}
use Rattle.pl_node.specs.declared.acts.HostAct.TheVariants.{Send}
use Rattle.pl_host_rule.specs.HostRule.{report_frame}
use Rattle.pl_host.proofs.groups.Groups.report.Given as goal

abbrev pub invariant-loop-group : goal.invariant-loop-group
invariant-loop-group l =
    l.out ++ map (λ group. Send (report_frame l.me group)) l.group-iterator
    ≡ l.initial.out ++ map (λ group. Send (report_frame l.me group)) l.initial.group-iterator
