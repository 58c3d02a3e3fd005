use Rattle.std.proofs.Common.{sym, ap, ◌∙◌, subst, refl}
use Rattle.std.specs.Prelude.{is_some}
use Rattle.pl_steps.specs.Taken.{IsTaken}
use Rattle.pl_switch_rule.specs.Levels.{changes_to}
use Rattle.pl_switch_state.specs.StateViews.{state_view, HasAddressTableAt}
use Rattle.pl_switch_state.proofs.Settled.{at_now, edge_becomes, edge_is_in, some_kept}
use Rattle.pl_switch_state.proofs.settling.settle.Goals as goal

pub returns-in-Ok-clause-taken : goal.returns-in-Ok-clause-taken
returns-in-Ok-clause-taken c = λ old holds avoid parts epoch same stands.
    let p = c.args.ports.now in
    let candidacy = c.args.proposer.now in
    let edge = c.args.edge.now in
    let after = c.tell_and_grant.new.edge in
    let w = state_view p candidacy holds edge avoid parts epoch in
    let at = at_now edge.address_table c.args.before.now.place p.place c.requires.address_table c.requires.grows in
    subst (λ u. IsTaken (changes_to old w) u c.args.out.now c.tell_and_grant.new.out) (edge_becomes p candidacy holds edge after avoid parts epoch c.in-Ok.ensures.address_table.at)
    (c.in-Ok.ensures.taken old w same stands refl (edge_is_in p candidacy holds edge avoid parts epoch at))

pub begin_anew-requires-clause-address_table : goal.begin_anew-requires-clause-address_table
begin_anew-requires-clause-address_table c = λ some.
    let e = c.in-Err.ensures.err in
    subst (λ b. HasAddressTableAt b c.args.ports.now.place) (sym e)
    (some_kept c.args.edge.now.address_table c.args.before.now.place c.args.ports.now.place c.requires.address_table c.requires.grows (sym (ap is_some e) ∙ some))
