use Rattle.std.proofs.Common.{◌∙◌, ◌∷◌, ap, sym}
use Rattle.std.specs.List.{slice_get}
use Rattle.pl_members.proofs.Grouping.{counted, groups_behind, next_group}
use Rattle.pl_members.proofs.members.Members.nth_group.Goals as goal

pub returns-then-left-eq0 : goal.returns-then-left-eq0
returns-then-left-eq0 c =
    next_group c.loop-member.last c.in-Some.member.now c.next.new.self c.group-group.result c.group-group.ensures (sym c.ne.ensures ∙ c.if-ne.true)
    ∙ ap (slice_get (groups_behind c.loop-member.last (c.in-Some.member.now ∷ c.next.new.self))) (sym c.if-left-eq0.true)
    ∙ ap (λ items. slice_get (groups_behind c.loop-member.last items) c.loop-member.left) (sym c.in-Some.ensures.steps)
    ∙ c.loop-member.invariant
    ∙ counted _ _ _ c.args.n (c.into_iter-member-iterator.ensures.into_iter_gives ∙ c.iter-member-items.ensures.rest) c.self.view_is c.self.invariant.rising

pub returns : goal.returns
returns c =
    ap (λ items. slice_get (groups_behind c.loop-member.last items) c.loop-member.left) (sym c.in-None.ensures.steps.0)
    ∙ c.loop-member.invariant
    ∙ counted _ _ _ c.args.n (c.into_iter-member-iterator.ensures.into_iter_gives ∙ c.iter-member-items.ensures.rest) c.self.view_is c.self.invariant.rising
