use Rattle.std.proofs.Common.{◌≡◌, ◌∙◌, ◌∷◌, false, List, ap, reverse, subst, sym}
use Rattle.pl_frame.specs.declared.address.SwitchId.{SwitchId}
use Rattle.pl_gathering.specs.Gathering.{is_among}
use Rattle.pl_gatherer.specs.Gatherers.{Gathering, gathering}
use Rattle.pl_gatherer.proofs.Sets.{begins, key_first}
use Rattle.pl_gatherer.proofs.gatherer.Gatherer.begin.Goals as goal

pub returns-clause-begun : goal.returns-clause-begun
returns-clause-begun c =
    let s = c.args.switch in
    let before : Gathering = gathering c.self.inside.many c.self.inside.epoch c.self.inside.begun.keys c.self.inside.ended.keys c.self.inside.kept.items in
    let none = sym c.has_begun.ensures ∙ c.if-has_begun.false in
    let first = key_first s c.self.inside.begun.keys (subst (λ (g : Gathering). is_among s g.begun ≡ false) (sym c.self.view_is) none) in
    ap (λ (ids : List SwitchId). record before { begun = ids })
    (ap (λ (keys : List SwitchId). reverse keys) c.in_ok-insert.ensures.keys ∙ first)
    ∙ ap (λ (g : Gathering). record g { begun = s ∷ g.begun }) c.self.view_is
    ∙ sym (begins c.args.self.now s c.args.epoch (sym c.is_whole.ensures ∙ c.if-is_whole.false) (c.if-epoch-self.false ∙ ap (λ (g : Gathering). g.epoch) c.self.view_is) none)
