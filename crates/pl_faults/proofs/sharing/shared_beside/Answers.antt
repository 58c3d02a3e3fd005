use Rattle.std.proofs.Common.{◌∙◌}
use Rattle.pl_faults.proofs.Shared.{shared_with}
use Rattle.pl_faults.proofs.sharing.shared_beside.Goals as goal

pub returns-then-not-is_beside : goal.returns-then-not-is_beside
returns-then-not-is_beside c known = c.in_ok-shared.ensures

pub returns : goal.returns
returns c known = (
  known,
  known.list
      ∙ shared_with c.args.reports.now c.args.leading.now.misses.entries c.args.last.switch c.args.switch (c.is_beside.ensures.level c.if-not-is_beside.false)
      (c.is_beside.ensures.above c.if-not-is_beside.false),
)
