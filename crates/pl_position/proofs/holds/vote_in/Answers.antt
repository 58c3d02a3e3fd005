use Rattle.std.proofs.Common.{◌≡◌, ap, sym, ◌∙◌, subst, set, IfSome}
use Rattle.pl_switch_rule.specs.Positions.{freed_but, kept_or_new, vote_on}
use Rattle.pl_position.specs.Holding.{HoldsFor, IsSwitchId, hold_in}
use Rattle.pl_position.proofs.OwnHolds.{held_by_ids, hold_stays, holds_for_edge, holds_when_freed, kept_is_own, names_an_id}
use Rattle.pl_position.proofs.holds.vote_in.Goals as goal
use Rattle.pl_position.proofs.holds.vote_in.Goals.{then-is_free_for, else-is_free_for}

abbrev freed_is : (c : goal.After-vote_on) → c.free_others.new.holds ≡ freed_but c.args.proposal.position c.args.edge 0 c.args.holds.now
freed_is c = c.free_others.ensures ∙ ap (λ p. freed_but p c.args.edge 0 c.args.holds.now) c.from-position.ensures

-- the hold that is read
abbrev read : (c : goal.After-vote_on) → hold_in c.free_others.new.holds c.from-position.result ≡ hold_in c.args.holds.now c.args.proposal.position
read c =
    ap (hold_in c.free_others.new.holds) c.from-position.ensures
    ∙ ap (λ holds. hold_in holds c.args.proposal.position) (freed_is c)
    ∙ hold_stays c.args.edge c.args.proposal.position c.args.holds.now

pub returns-clause-holds : goal.returns-clause-holds
returns-clause-holds c =
    let edge = c.args.edge in
    let position = c.args.proposal.position in
    let before = c.args.holds.now in
    elim c.if-is_free_for.branch [
      | then-is_free_for w ↦
          subst (HoldsFor edge position before)
          (sym (w.holds-is
          ∙ ap (λ p. set c.free_others.new.holds p w.kept_or_new.result) c.from-position.ensures
          ∙ ap (λ holds. set holds position w.kept_or_new.result) (freed_is c)
          ∙ ap (set (freed_but position edge 0 before) position) (w.kept_or_new.ensures ∙ ap (kept_or_new edge) (read c))))
          (holds_for_edge edge position before (kept_or_new edge (hold_in before position)) c.requires (kept_is_own edge (hold_in before position)))
      | else-is_free_for w ↦
          subst (HoldsFor edge position before) (sym (w.holds-is ∙ freed_is c)) (holds_when_freed edge position before c.requires)
    ]

pub returns-clause-ids : goal.returns-clause-ids
returns-clause-ids c = λ id ids.
    let told : IfSome (vote_on c.args.edge c.args.proposal (hold_in c.args.holds.now c.args.proposal.position)).holder IsSwitchId =
    names_an_id c.args.edge c.args.proposal (hold_in c.args.holds.now c.args.proposal.position) (ids c.args.proposal.position) in (
      held_by_ids c.args.edge c.args.proposal.position c.args.holds.now _ (returns-clause-holds c) id ids,
      subst (λ vote. IfSome vote.holder IsSwitchId) (sym (c.vote_on.ensures.vote ∙ ap (vote_on c.args.edge c.args.proposal) (read c))) told,
    )
