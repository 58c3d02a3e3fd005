use Rattle.std.proofs.Common.{◌≡◌, ◌∙◌, true, cond, List, ap, reverse, subst, sym}
use Rattle.pl_frame.specs.declared.address.SwitchId.{SwitchId}
use Rattle.pl_gathering.specs.Gathering.{with_ended}
use Rattle.pl_gatherer.specs.Gatherers.{Gathering, ends_now, gathering}
use Rattle.pl_gatherer.proofs.Sets.{ended_none, key_first}
use Rattle.pl_gatherer.proofs.gatherer.Gatherer.end.Goals as goal

pub returns-clause-ended : goal.returns-clause-ended
returns-clause-ended c =
    let s = c.args.switch in
    let ends = sym c.ends_now.ensures ∙ c.if-not-ends_now.false in
    let before : Gathering = gathering c.self.inside.many c.self.inside.epoch c.self.inside.begun.keys c.self.inside.ended.keys c.self.inside.kept.items in
    let first = key_first s c.self.inside.ended.keys (ended_none before s c.args.epoch (subst (λ (g : Gathering). ends_now g s c.args.epoch ≡ true) (sym c.self.view_is) ends)) in
    ap (λ (ids : List SwitchId). record before { ended = ids })
    (ap (λ (keys : List SwitchId). reverse keys) c.in_ok-insert.ensures.keys ∙ first)
    ∙ ap (λ (g : Gathering). with_ended s g) c.self.view_is
    ∙ sym (ap (λ b. cond b (with_ended s c.args.self.now) c.args.self.now) ends)
