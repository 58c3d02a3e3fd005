use Rattle.pl_switch_rule.specs.Granting.{granted}
use Rattle.pl_switch_rule.specs.Messages.{frees}
use Rattle.pl_switch_state.proofs.Tables.{same_address_table_at, same_parts, taken_anywhere}
use Rattle.pl_switch_state.proofs.switch_state.SwitchState.release.Goals as goal

pub invariant_of-self : goal.invariant_of-self
invariant_of-self c =
    let inside = c.self.inside in
    same_parts inside.ports inside.proposer inside.holder inside.edge c.release.new.self
    (record { k = c.release.ensures.k; place = c.release.ensures.place }) c.self.invariant

pub returns-clause-taken : goal.returns-clause-taken
returns-clause-taken c =
    let inside = c.self.inside in
    let after = c.release.new.self in
    taken_anywhere c.args.self.now inside.ports inside.proposer inside.holder inside.edge after inside.avoid inside.parts.entries inside.epoch
    (λ u. frees u c.args.pmac (granted u c.args.pmac)) c.args.out.now c.release.new.out c.release.result
    c.self.view_is c.self.invariant.address_table
    (same_address_table_at inside.edge after inside.ports.place (record { k = c.release.ensures.k; place = c.release.ensures.place })
    c.self.invariant.address_table)
    c.release.ensures.taken
