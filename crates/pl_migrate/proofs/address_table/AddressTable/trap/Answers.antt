use Rattle.std.proofs.Common.{◌≡◌, ◌∙◌, false, ap, sym, Ok}
use Rattle.pl_migrate.specs.AddressTables.{takes_over}
use Rattle.pl_migrate.proofs.Uses.{HasTrapSet, can_trap, trap_nobodys, trap_set, trap_stays}
use Rattle.pl_node.specs.AddressUses.{is_in_use}
use Rattle.pl_migrate.proofs.address_table.AddressTable.trap.Goals as goal

pub stand-requires : goal.stand-requires
stand-requires c = can_trap c.args.self.now c.args.old c.in-Some.grant c.args.to (sym c.held.ensures ∙ c.in-Some.is)

set : (c : goal.After-is_in_use) → HasTrapSet c.args.self.now c.stand.new.self c.args.old c.args.to (is_in_use c.in-Some.grant.held)
set c =
    trap_set c.args.self.now c.stand.new.self c.args.old c.args.to c.in-Some.grant (sym c.held.ensures ∙ c.in-Some.is)
    (sym (c.takes_over.ensures ∙ ap (takes_over c.args.to) c.trap.ensures) ∙ c.if-takes_over.true) c.stand.ensures.step

pub returns-in-Some-clause-answer : goal.returns-in-Some-clause-answer
returns-in-Some-clause-answer c = ap (λ b. Ok b) (c.is_in_use.ensures ∙ (set c).answer_is)

pub returns-in-Some-clause-step : goal.returns-in-Some-clause-step
returns-in-Some-clause-step c = (set c).step

pub returns-in-Some-clause-newest : goal.returns-in-Some-clause-newest
returns-in-Some-clause-newest c = (set c).newest

pub returns-in-Some-clause-unused : goal.returns-in-Some-clause-unused
returns-in-Some-clause-unused c = (set c).unused

pub returns-in-Some-clause-kept : goal.returns-in-Some-clause-kept
returns-in-Some-clause-kept c = (set c).kept

stays : (c : goal.Else-takes_over) → HasTrapSet c.args.self.now c.args.self.now c.args.old c.args.to false
stays c =
    trap_stays c.args.self.now c.args.old c.args.to c.in-Some.grant (sym c.held.ensures ∙ c.in-Some.is)
    (sym (c.takes_over.ensures ∙ ap (takes_over c.args.to) c.trap.ensures) ∙ c.if-takes_over.false)

pub returns-in_default-clause-answer : goal.returns-in_default-clause-answer
returns-in_default-clause-answer c = ap (λ b. Ok b) (stays c).answer_is

pub returns-in_default-clause-step : goal.returns-in_default-clause-step
returns-in_default-clause-step c = (stays c).step

pub returns-in_default-clause-newest : goal.returns-in_default-clause-newest
returns-in_default-clause-newest c = (stays c).newest

pub returns-in_default-clause-unused : goal.returns-in_default-clause-unused
returns-in_default-clause-unused c = (stays c).unused

pub returns-in_default-clause-kept : goal.returns-in_default-clause-kept
returns-in_default-clause-kept c = (stays c).kept

nobodys : (c : goal.In_default) → HasTrapSet c.args.self.now c.args.self.now c.args.old c.args.to false
nobodys c = trap_nobodys c.args.self.now c.args.old c.args.to (sym c.held.ensures ∙ c.in_default.is)

pub returns-in_default-2-clause-answer : goal.returns-in_default-2-clause-answer
returns-in_default-2-clause-answer c = ap (λ b. Ok b) (nobodys c).answer_is

pub returns-in_default-2-clause-step : goal.returns-in_default-2-clause-step
returns-in_default-2-clause-step c = (nobodys c).step

pub returns-in_default-2-clause-newest : goal.returns-in_default-2-clause-newest
returns-in_default-2-clause-newest c = (nobodys c).newest

pub returns-in_default-2-clause-unused : goal.returns-in_default-2-clause-unused
returns-in_default-2-clause-unused c = (nobodys c).unused

pub returns-in_default-2-clause-kept : goal.returns-in_default-2-clause-kept
returns-in_default-2-clause-kept c = (nobodys c).kept
