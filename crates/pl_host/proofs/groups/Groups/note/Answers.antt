use Rattle.std.proofs.Common.{◌∙◌, sym, ap}
use Rattle.std.specs.List.{fold}
use Rattle.pl_node.specs.HostViews.{groups_after, groups_after_change}
use Rattle.pl_multicast.specs.Changes.{changes_left}
use Rattle.pl_host.proofs.groups.Groups.note.Goals as goal

pub returns : goal.returns
unfolding groups_after
returns c =
    ap (λ changes. fold groups_after_change c.loop-change.self changes) (sym c.in-None.ensures.steps.0)
    ∙ c.loop-change.invariant
    ∙ ap (λ changes. fold groups_after_change c.args.self.now (changes_left changes)) c.into_iter-change-iterator.ensures.into_iter_gives
    ∙ ap (λ changes. fold groups_after_change c.args.self.now changes) (c.in-Some.ensures.changes c.args.frame.now c.view-view.ensures)

pub returns-in_default : goal.returns-in_default
unfolding groups_after
returns-in_default c =
    ap (λ changes. fold groups_after_change c.args.self.now changes) (sym (c.in_default.ensures.changes c.args.frame.now c.view-view.ensures))
