use Rattle.std.proofs.Common.{◌≡◌, ◌∙◌, ◌++◌, [], ◌∷◌, take, drop, sym, ap, subst}
use Rattle.pl_node.specs.declared.acts.Act.TheVariants.{Control}
use Rattle.pl_layouts.specs.declared.control.Control.TheVariants as control
use Rattle.pl_layouts.specs.Control.{control_frame}
use Rattle.pl_steps.specs.Steps.{does}
use Rattle.pl_switch_rule.specs.Positions.{answers_proposal, frees_others}
use Rattle.pl_position.specs.Holding.{AreHeldByIds, with_holds}
use Rattle.pl_position.proofs.Fronts.{front_kept}
use Rattle.pl_position.proofs.holder.Holder.vote.Goals as goal

abbrev seen : (c : goal.After-vote_in) → take c.self.inside.positions (c.vote_in.new.holds ++ drop c.self.inside.positions c.self.inside.holds) ≡ c.vote_in.new.holds
seen c = front_kept c.self.inside.positions c.self.inside.holds c.vote_in.new.holds c.vote_in.auto.holds

pub returns-clause-step : goal.returns-clause-step
returns-clause-step c = λ v port.
    ap (λ holds. answers_proposal (frees_others (with_holds holds v) c.args.edge c.args.proposal.position) port c.args.edge c.args.proposal) (sym c.self.view_is)
    ∙ c.vote_in.ensures.step v port
    ∙ ap (λ holds. does (with_holds holds v) (Control port (control_frame (control.Vote v.id c.vote_in.result)) ∷ [])) (sym (seen c))

pub returns-clause-ids : goal.returns-clause-ids
returns-clause-ids c = λ id ids.
    let told = c.vote_in.ensures.ids id (subst AreHeldByIds (sym c.self.view_is) ids) in
    (subst AreHeldByIds (sym (seen c)) told.0, told.1)
