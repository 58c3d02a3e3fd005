use Rattle.std.proofs.Common.{◌∙◌}
use Rattle.pl_reports.proofs.Exports.{all_rising, put_all}
use Rattle.pl_groups.proofs.root.root_at.Goals as goal

pub returns-clause-near : goal.returns-clause-near
returns-clause-near c =
    c.in_ok-add_all.ensures ∙ (λ i. put_all (c.new-near.ensures i) c.alive_neighbours.result.now)
    ∙ all_rising c.alive_neighbours.result.now c.alive_neighbours.ensures.rising ∙ c.alive_neighbours.ensures.value
