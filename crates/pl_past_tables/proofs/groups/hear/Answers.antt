use Rattle.std.proofs.Common.{◌∙◌, sym, ap, List}
use Rattle.pl_frame.specs.Ethernet.{fields_of}
use Rattle.pl_layouts.specs.declared.membership.Change.{Change}
use Rattle.pl_multicast.specs.Changes.{changes_left}
use Rattle.pl_past_tables.specs.Groups.{joined_in, says}
use Rattle.pl_past_tables.proofs.Joining.{none_said}
use Rattle.pl_past_tables.proofs.groups.hear.Goals as goal

pub returns-in_default : goal.returns-in_default
returns-in_default c = λ k.
    sym (none_said c.args.host k (joined_in c.args.members.now.said.entries k))
    ∙ ap (λ (cs : List Change). says c.args.host cs k (joined_in c.args.members.now.said.entries k))
    (sym (c.in_default.ensures.changes c.args.frame.now (c.view_of-view.ensures ∙ ap fields_of c.bytes.ensures)))

pub returns : goal.returns
returns c = λ k.
    sym (none_said c.args.host k (joined_in c.loop-change.members.said.entries k))
    ∙ ap (λ (cs : List Change). says c.args.host cs k (joined_in c.loop-change.members.said.entries k)) (sym c.in-None.ensures.steps.0)
    ∙ c.loop-change.invariant k
    ∙ ap (λ (cs : List Change). says c.args.host cs k (joined_in c.args.members.now.said.entries k))
    (ap changes_left c.into_iter-change-iterator.ensures.into_iter_gives
    ∙ c.in-Some.ensures.changes c.args.frame.now (c.view_of-view.ensures ∙ ap fields_of c.bytes.ensures))
