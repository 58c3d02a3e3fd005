use Rattle.std.proofs.Common.{◌++◌, ◌∙◌, ap, sym}
use Rattle.pl_members.proofs.Reported.{all_told, told_behind}
use Rattle.pl_members.proofs.members.Members.report.Goals as goal

pub returns : goal.returns
returns c =
    all_told _ _ _ c.loop-member.out c.args.out.now
    (ap (λ ms. c.loop-member.out ++ told_behind c.loop-member.last ms) (sym c.in-None.ensures.steps.0) ∙ c.loop-member.invariant)
    (c.into_iter-member-iterator.ensures.into_iter_gives ∙ c.iter-member-items.ensures.rest) c.self.view_is c.self.invariant.rising
