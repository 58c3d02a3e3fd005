use Rattle.std.proofs.Common.{◌≡◌, ap, sym, ◌∙◌, subst, set}
use Rattle.pl_switch_rule.specs.Positions.{freed_but, marked_for}
use Rattle.pl_position.specs.Holding.{HoldsFor, hold_in}
use Rattle.pl_position.proofs.OwnHolds.{held_by_ids, held_there, hold_stays, holds_for_edge, marked_is_own, marks_it}
use Rattle.pl_position.proofs.holds.mark_in.Goals as goal

-- the hold that is written
abbrev written : (c : goal.After-marked_for) → c.marked_for.result ≡ marked_for c.args.edge (hold_in c.args.holds.now c.args.position)
written c =
    c.marked_for.ensures
    ∙ ap (λ p. marked_for c.args.edge (hold_in c.free_others.new.holds p)) c.from-position.ensures
    ∙ ap (λ holds. marked_for c.args.edge (hold_in holds c.args.position)) (c.free_others.ensures ∙ ap (λ p. freed_but p c.args.edge 0 c.args.holds.now) c.from-position.ensures)
    ∙ ap (marked_for c.args.edge) (hold_stays c.args.edge c.args.position c.args.holds.now)

abbrev becomes : (c : goal.After-marked_for) → set c.free_others.new.holds c.from-position.result c.marked_for.result
    ≡ set (freed_but c.args.position c.args.edge 0 c.args.holds.now) c.args.position (marked_for c.args.edge (hold_in c.args.holds.now c.args.position))
becomes c =
    ap (λ holds. set holds c.from-position.result c.marked_for.result) c.free_others.ensures
    ∙ ap (λ p. set (freed_but p c.args.edge 0 c.args.holds.now) p c.marked_for.result) c.from-position.ensures
    ∙ ap (set (freed_but c.args.position c.args.edge 0 c.args.holds.now) c.args.position) (written c)

pub returns-clause-holds : goal.returns-clause-holds
returns-clause-holds c =
    subst (HoldsFor c.args.edge c.args.position c.args.holds.now) (sym (becomes c))
    (holds_for_edge c.args.edge c.args.position c.args.holds.now (marked_for c.args.edge (hold_in c.args.holds.now c.args.position)) c.requires
    (marked_is_own c.args.edge (hold_in c.args.holds.now c.args.position)))

pub returns-clause-marked : goal.returns-clause-marked
returns-clause-marked c = λ free.
    ap (λ holds. hold_in holds c.args.position) (becomes c)
    ∙ held_there c.args.edge c.args.position c.args.holds.now (marked_for c.args.edge (hold_in c.args.holds.now c.args.position)) c.requires
    ∙ marks_it c.args.edge (hold_in c.args.holds.now c.args.position) free

pub returns-clause-ids : goal.returns-clause-ids
returns-clause-ids c = λ id ids. held_by_ids c.args.edge c.args.position c.args.holds.now _ (returns-clause-holds c) id ids
