use Rattle.std.proofs.Common.{◌≡◌, ◌∙◌, ◌++◌, if◌then◌else◌, take, drop, sym, ap, subst}
use Rattle.std.proofs.lemmas.Bool.{lt-ltb}
use Rattle.pl_node.specs.SwitchViews.{SwitchView}
use Rattle.pl_switch_rule.specs.Positions.{frees_others, half, marks}
use Rattle.pl_position.specs.Holding.{AreHeldByIds, with_holds}
use Rattle.pl_position.proofs.Fronts.{front_kept}
use Rattle.pl_position.proofs.holder.Holder.announced.Goals as goal

abbrev seen : (c : goal.After-mark_in) → take c.self.inside.positions (c.mark_in.new.holds ++ drop c.self.inside.positions c.self.inside.holds) ≡ c.mark_in.new.holds
seen c = front_kept c.self.inside.positions c.self.inside.holds c.mark_in.new.holds c.mark_in.auto.holds

pub returns-clause-step : goal.returns-clause-step
returns-clause-step c = λ v within.
    let marked : SwitchView = marks (frees_others (with_holds c.args.self.now v) c.args.edge c.args.position) c.args.edge c.args.position in
    ap (λ holds. with_holds holds v) (seen c)
    ∙ c.mark_in.ensures.step v
    ∙ ap (λ holds. marks (frees_others (with_holds holds v) c.args.edge c.args.position) c.args.edge c.args.position) c.self.view_is
    ∙ ap (λ b. if◌then◌else◌ {A = SwitchView} b marked (with_holds c.args.self.now v)) (sym (lt-ltb c.args.position (half v.k) within))

pub returns-clause-ids : goal.returns-clause-ids
returns-clause-ids c = λ id ids. subst AreHeldByIds (sym (seen c)) (c.mark_in.ensures.ids id (subst AreHeldByIds (sym c.self.view_is) ids))
