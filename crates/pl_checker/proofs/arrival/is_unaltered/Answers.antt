use Rattle.std.proofs.Common.{◌∙◌, subst, sym}
use Rattle.pl_layouts.specs.Frames.{HasSixBytes}
use Rattle.pl_checker.proofs.Arrives.{six_of_source, unaltered_by, unaltered_none, with_source}
use Rattle.pl_checker.proofs.arrival.is_unaltered.Goals as goal

pub returns-then-lacks_source : goal.returns-then-lacks_source
returns-then-lacks_source c = λ kept is six.
    unaltered_none c.args.row.now.sender c.args.row.now.source kept.sender kept.source kept.beginning c.args.to c.args.frame.now is.sender is.source
    (sym c.lacks_source.ensures ∙ c.if-lacks_source.true)

pub returns : goal.returns
returns c = λ kept is six.
    unaltered_by c.args.row.now.sender c.args.row.now.source kept.sender kept.source kept.beginning c.args.to c.args.frame.now c.in_ok-same.same is.sender
    is.source
    (sym c.lacks_source.ensures ∙ c.if-lacks_source.false)
    (with_source kept.beginning c.args.to c.args.frame.now c.source_of_host-from.result _ c.in_ok-same.same c.source_of_host-from.ensures
    (c.in_ok-same.ensures kept.beginning is.carried (subst HasSixBytes (sym c.source_of_host-from.ensures) (six_of_source _ c.args.row.now.source)) six))
