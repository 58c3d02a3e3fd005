use Rattle.std.proofs.Common.{◌∙◌, ℕ, ap}
use Rattle.pl_groups.specs.declared.cores.CoreReach.{CoreReach}
use Rattle.pl_groups.proofs.Reached.{reach_alike}
use Rattle.pl_groups.proofs.cores.reach_beside.Goals as goal

pub returns-then-has_same_links : goal.returns-then-has_same_links
returns-then-has_same_links c =
    ap (λ (n : ℕ). let now : CoreReach = record { core = c.args.core; edges = n } in now)
    (c.requires.before ∙ reach_alike c.args.reports.now c.args.needed.now c.args.before.core c.args.core (c.has_same_links.ensures c.if-has_same_links.true))
