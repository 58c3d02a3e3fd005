use Rattle.std.proofs.Common.{◌≡◌, sym, ap, ◌∙◌, subst}
use Rattle.pl_layouts.specs.declared.place.Place.{Place}
use Rattle.pl_migrate.specs.AddressTables.{edge_at}
use Rattle.pl_switch_state.specs.StateViews.{HasAddressTableAt}
use Rattle.pl_switch_state.proofs.Agreeing.{on_err}
use Rattle.pl_switch_state.proofs.Settled.{becomes_at, becomes_none, address_table_new, address_table_stays, no_pod, no_position, settled_new, settled_same}
use Rattle.pl_switch_state.proofs.settling.settle_in.Goals as goal

pub returns-then-not-has_become_placed-clause-taken : goal.returns-then-not-has_become_placed-clause-taken
returns-then-not-has_become_placed-clause-taken c = λ w is_place is_k is_edge.
    settled_same c.args.edge.now c.args.was c.args.ports.now.place w c.args.out.now is_place is_edge (sym c.has_become_placed.ensures ∙ c.if-not-has_become_placed.true)

pub returns-then-not-has_become_placed-clause-address_table : goal.returns-then-not-has_become_placed-clause-address_table
returns-then-not-has_become_placed-clause-address_table c =
    address_table_stays c.args.edge.now.address_table c.args.was c.args.ports.now.place c.requires.address_table c.requires.grows (sym c.has_become_placed.ensures ∙ c.if-not-has_become_placed.true)

pub returns-in_default : goal.returns-in_default
returns-in_default c =
    absurd (no_pod c.args.was c.args.ports.now.place (sym c.has_become_placed.ensures ∙ c.if-not-has_become_placed.false)
    (ap (λ (p : Place). p.pod) (sym c.place-place.ensures.place) ∙ c.in_default.is))

pub returns-in_default-position : goal.returns-in_default-position
returns-in_default-position c =
    absurd (no_position c.args.was c.args.ports.now.place (sym c.has_become_placed.ensures ∙ c.if-not-has_become_placed.false)
    (ap (λ (p : Place). p.position) (sym c.place-place.ensures.place) ∙ c.in_default-position.is))

pub placed-requires : goal.placed-requires
placed-requires c = becomes_none c.args.edge.now.address_table c.args.was c.args.ports.now.place c.requires.address_table (sym c.has_become_placed.ensures ∙ c.if-not-has_become_placed.false)

pub returns-in_err-placed-clause-err : goal.returns-in_err-placed-clause-err
returns-in_err-placed-clause-err c =
    on_err c.from_residual.result
    (c.in_err-placed.ensures.without
    ∙ sym (becomes_none c.args.edge.now.address_table c.args.was c.args.ports.now.place c.requires.address_table (sym c.has_become_placed.ensures ∙ c.if-not-has_become_placed.false)))

abbrev is_at : (c : goal.In_ok-placed) → c.args.ports.now.place ≡ edge_at c.in-Some.pod c.in-Some-position.position
is_at c =
    becomes_at c.args.was c.args.ports.now.place c.in-Some.pod c.in-Some-position.position (sym c.has_become_placed.ensures ∙ c.if-not-has_become_placed.false)
    (ap (λ (p : Place). p.pod) (sym c.place-place.ensures.place) ∙ c.in-Some.is)
    (ap (λ (p : Place). p.position) (sym c.place-place.ensures.place) ∙ c.in-Some-position.is)

pub returns-clause-taken : goal.returns-clause-taken
returns-clause-taken c = λ w is_place is_k is_edge.
    settled_new c.args.edge.now c.placed.new.self c.args.was c.args.ports.now.place c.in-Some.pod c.in-Some-position.position w c.args.out.now c.placed.new.out
    is_place (is_k ∙ sym c.requires.hosts) is_edge (sym c.has_become_placed.ensures ∙ c.if-not-has_become_placed.false) (is_at c) c.in_ok-placed.ensures.taken

pub returns-clause-address_table : goal.returns-clause-address_table
returns-clause-address_table c =
    subst (HasAddressTableAt c.placed.new.self.address_table) (sym (is_at c))
    (address_table_new c.in-Some.pod c.in-Some-position.position c.args.edge.now c.placed.new.self.address_table c.in_ok-placed.ensures.address_table)
