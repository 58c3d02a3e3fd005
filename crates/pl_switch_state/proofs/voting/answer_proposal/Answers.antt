use Rattle.std.proofs.Common.{◌∙◌, ◌++◌, [], ◌∷◌, ap, sym, subst, refl}
use Rattle.pl_node.specs.declared.acts.Act.TheVariants.{Control}
use Rattle.pl_ldp.specs.Writable.{IsWritableId}
use Rattle.pl_switch_state.specs.StateViews.{state_view}
use Rattle.pl_switch_state.proofs.Votes.{proposal_answered, proposal_ignored, vote_writable}
use Rattle.pl_steps.specs.Taken.{IsTaken}
use Rattle.pl_switch_rule.specs.Positions.{hears_proposal}
use Rattle.pl_layouts.specs.declared.control.Control.TheVariants as control
use Rattle.pl_layouts.specs.Control.{control_frame}
use Rattle.pl_switch_state.proofs.voting.answer_proposal.Goals as goal

pub returns-then-not-answers-clause-taken : goal.returns-then-not-answers-clause-taken
returns-then-not-answers-clause-taken c = λ candidacy table avoid parts epoch.
    proposal_ignored (state_view c.args.ports.now candidacy c.args.holder.now table avoid parts epoch) c.args.ports.now candidacy c.args.holder.now table avoid parts epoch
    c.args.port c.args.edge c.args.proposal c.args.out.now refl (sym c.answers.ensures ∙ c.if-not-answers.true)

pub vote_frame-requires : goal.vote_frame-requires
vote_frame-requires c =
    vote_writable c.id.result c.args.edge c.args.proposal c.vote-vote.result (subst IsWritableId (sym c.id.ensures.id) c.id.ensures.named) c.requires.message
    c.vote-vote.ensures.answer.attempt c.vote-vote.ensures.answer.position c.vote-vote.ensures.names
    (c.vote-vote.ensures.ids c.requires.message.fits.0 c.requires.holders).1

pub returns-clause-taken : goal.returns-clause-taken
returns-clause-taken c = λ candidacy table avoid parts epoch.
    subst (λ told. IsTaken (hears_proposal (state_view c.args.ports.now candidacy c.args.holder.now table avoid parts epoch) c.args.port c.args.edge c.args.proposal)
    (state_view c.args.ports.now candidacy c.vote-vote.new.self table avoid parts epoch) c.args.out.now told)
    (sym (c.in_ok-push.ensures.ok
    ∙ ap (λ f. c.args.out.now ++ Control c.args.port f ∷ []) (c.in_ok-frame.ensures ∙ ap (λ i. control_frame (control.Vote i c.vote-vote.result)) c.id.ensures.id)))
    (proposal_answered (state_view c.args.ports.now candidacy c.args.holder.now table avoid parts epoch) c.args.ports.now candidacy c.args.holder.now c.vote-vote.new.self table avoid parts epoch
    c.args.port c.args.edge c.args.proposal c.vote-vote.result c.args.out.now refl (sym c.answers.ensures ∙ c.if-not-answers.false) c.vote-vote.ensures.step)
