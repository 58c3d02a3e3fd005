use Rattle.std.proofs.Common.{◌∙◌, ap, sym, fold}
use Rattle.pl_node.specs.ManagerViews.{Members}
use Rattle.pl_groups.specs.Rostering.{with_member}
use Rattle.pl_groups.proofs.Rostered.{members_are}
use Rattle.pl_groups.proofs.roster.Roster.with_members.Goals as goal

pub returns : goal.returns
returns c =
    ap (λ (ms : Members). fold (with_member c.args.group) c.loop-key.edges ms) (sym c.in-None.ensures.steps.0)
    ∙ c.loop-key.invariant
    ∙ ap (λ (ms : Members). fold (with_member c.args.group) c.new-edges.result ms)
    (c.into_iter-key-iterator.ensures.into_iter_gives ∙ c.iter-key-items.ensures.rest ∙ c.self.view_is)
    ∙ ap (λ es. fold (with_member c.args.group) es c.args.self.now) c.new-edges.ensures
    ∙ members_are c.args.self.now c.args.group
