use Rattle.std.proofs.Common.{subst}
use Rattle.pl_wiring.specs.Plan.{IsPlan, Plan}
use Rattle.pl_log_lines.proofs.Words.{found_within}
use Rattle.pl_log_lines.proofs.row.switch.Goals as goal

pub label-requires : goal.label-requires
label-requires c = found_within c.args.index.now c.args.id c.switch_with.result c.switch_with.ensures c.in-Some.s (subst (λ (p : Plan). IsPlan p) c.wiring.ensures c.k-k.ensures.plan) c.in-Some.is
