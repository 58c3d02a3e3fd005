use Rattle.std.proofs.Common.{length, map}
use Rattle.pl_log_lines.specs.Acts.{act_line}
use Rattle.pl_log_lines.specs.Telling.{node_in}
use Rattle.pl_log_lines.proofs.Telling.{TellsOn}
use Rattle.pl_log_lines.proofs.acts.tell_acts.Given as goal

abbrev pub invariant-loop-act : goal.invariant-loop-act
invariant-loop-act g l =
    TellsOn l.initial.page l.initial.told (map (act_line l.index (node_in l.initial.told)) l.initial.acts)
    l.page l.told (map (act_line l.index (node_in l.initial.told)) l.acts)

abbrev pub decreases-loop-act : goal.decreases-loop-act
decreases-loop-act g l = length l.acts
