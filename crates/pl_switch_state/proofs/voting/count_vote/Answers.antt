use Rattle.std.proofs.Common.{◌≡◌, Some, is_none, ap, sym, ◌∙◌}
use Rattle.pl_node.specs.SwitchViews.{SwitchView}
use Rattle.pl_layouts.specs.Placement.{is_known}
use Rattle.pl_layouts.proofs.Exports.{known_is}
use Rattle.pl_ports.specs.PortsViews.{ports_alone, put_ports}
use Rattle.pl_ports.specs.Changes.{with_position}
use Rattle.pl_position.specs.Candidacy.{with_candidacy}
use Rattle.pl_switch_state.proofs.Votes.{fixed_now, position_grows, position_stays, uncounted}
use Rattle.pl_switch_state.proofs.voting.count_vote.Goals as goal

pub returns-then-not-is_edge-clause-counted : goal.returns-then-not-is_edge-clause-counted
returns-then-not-is_edge-clause-counted c = λ v.
    sym (uncounted (with_candidacy c.args.proposer.now (put_ports c.args.ports.now v)) c.args.port c.args.vote.now
    (ap (λ p. is_known p.level 0) (sym c.place.ensures.place) ∙ sym c.is_edge.ensures ∙ c.if-not-is_edge.true))

pub returns-then-not-on_vote-clause-counted : goal.returns-then-not-on_vote-clause-counted
returns-then-not-on_vote-clause-counted c = λ v. c.on_vote.ensures.step (put_ports c.args.ports.now v) (sym c.id.ensures.id) (sym c.requires.votes) (ap (λ p. is_known p.level 0) (sym c.place.ensures.place) ∙ sym c.is_edge.ensures ∙ c.if-not-is_edge.false)

pub returns-then-not-on_vote-clause-votes : goal.returns-then-not-on_vote-clause-votes
returns-then-not-on_vote-clause-votes c = c.on_vote.ensures.counts.k ∙ c.requires.votes

pub returns-then-not-on_vote-clause-position : goal.returns-then-not-on_vote-clause-position
returns-then-not-on_vote-clause-position c =
    position_stays c.args.proposer.now c.on_vote.new.self c.on_vote.result c.if-not-on_vote.true c.on_vote.ensures.fixed.told c.on_vote.ensures.counts.settled
    ∙ c.requires.position

pub fix_position-requires-clause-level : goal.fix_position-requires-clause-level
fix_position-requires-clause-level c = known_is c.args.ports.now.place.level 0 (ap (λ p. is_known p.level 0) (sym c.place.ensures.place) ∙ sym c.is_edge.ensures ∙ c.if-not-is_edge.false)

abbrev view : (c : goal.After-fix_position) → put_ports c.fix_position.new.self (ports_alone c.args.ports.now) ≡ with_position (ports_alone c.args.ports.now) (Some c.in-Some.position)
view c = c.fix_position.ensures (ports_alone c.args.ports.now)

pub returns-in-Some-clause-counted : goal.returns-in-Some-clause-counted
returns-in-Some-clause-counted c = λ v. ap (with_candidacy c.on_vote.new.self) (c.fix_position.ensures v) ∙ c.on_vote.ensures.step (put_ports c.args.ports.now v) (sym c.id.ensures.id) (sym c.requires.votes) (ap (λ p. is_known p.level 0) (sym c.place.ensures.place) ∙ sym c.is_edge.ensures ∙ c.if-not-is_edge.false)

pub returns-in-Some-clause-id : goal.returns-in-Some-clause-id
returns-in-Some-clause-id c = ap (λ (u : SwitchView). u.id) (view c)

pub returns-in-Some-clause-k : goal.returns-in-Some-clause-k
returns-in-Some-clause-k c = ap (λ (u : SwitchView). u.k) (view c)

pub returns-in-Some-clause-votes : goal.returns-in-Some-clause-votes
returns-in-Some-clause-votes c = c.on_vote.ensures.counts.k ∙ c.requires.votes ∙ sym (ap (λ (u : SwitchView). u.k) (view c))

pub returns-in-Some-clause-position : goal.returns-in-Some-clause-position
returns-in-Some-clause-position c = sym c.in-Some.ensures.position ∙ sym (ap (λ (u : SwitchView). u.place.position) (view c))

pub returns-in-Some-clause-grows : goal.returns-in-Some-clause-grows
returns-in-Some-clause-grows c =
    position_grows c.args.ports.now c.fix_position.new.self (ports_alone c.args.ports.now) c.in-Some.position
    (ap is_none (sym c.requires.position) ∙ (fixed_now c.args.proposer.now c.on_vote.new.self c.on_vote.result c.if-not-on_vote.false c.on_vote.ensures.fixed.told).0)
    (view c)
