use Rattle.std.proofs.Common.{◌≡◌, ◌∙◌, Option, Some, None, subst, sym}
use Rattle.pl_node.specs.declared.switch_records.Grant.{Grant}
use Rattle.pl_migrate.specs.Standings.{CanStandSo, is_resting}
use Rattle.pl_migrate.specs.declared.tenancy.Standing.TheVariants.{Free}
use Rattle.pl_migrate.proofs.Uses.{HasFreed, has_freed, keeps_resting, keeps_unknown, same_place}
use Rattle.pl_migrate.proofs.address_table.AddressTable.release.Goals as goal

pub stand-requires : goal.stand-requires
stand-requires c = subst (CanStandSo Free) (sym (sym c.granted.ensures ∙ c.in-Some.is)) (sym c.is_resting.ensures ∙ c.if-is_resting.true)

freed : (c : goal.After-stand) → HasFreed c.args.self.now c.stand.new.self c.args.pmac c.args.out.now c.push.new.self
freed c =
    has_freed c.args.self.now c.stand.new.self c.args.pmac c.in-Some.grant c.args.out.now c.push.new.self (sym c.granted.ensures
    ∙ c.in-Some.is) (sym c.is_resting.ensures ∙ c.if-is_resting.true)
    c.stand.ensures.step c.in_ok-push-in-Some.ensures.ok

pub returns-in_ok-push-in-Some-clause-taken : goal.returns-in_ok-push-in-Some-clause-taken
returns-in_ok-push-in-Some-clause-taken c = (freed c).taken

pub returns-in_ok-push-in-Some-clause-place : goal.returns-in_ok-push-in-Some-clause-place
returns-in_ok-push-in-Some-clause-place c = (freed c).place

same : (c : goal.Else-is_resting) → HasFreed c.args.self.now c.args.self.now c.args.pmac c.args.out.now c.args.out.now
same c = keeps_resting c.args.self.now c.args.pmac c.in-Some.grant c.args.out.now (sym c.granted.ensures ∙ c.in-Some.is) (sym c.is_resting.ensures
    ∙ c.if-is_resting.false)

pub returns-in_default-clause-taken : goal.returns-in_default-clause-taken
returns-in_default-clause-taken c = (same c).taken

pub returns-in_default-clause-place : goal.returns-in_default-clause-place
returns-in_default-clause-place c = same_place c.args.self.now

pub returns-in_default-2-clause-place : goal.returns-in_default-2-clause-place
returns-in_default-2-clause-place c = same_place c.args.self.now

pub returns-in_err-push-in-Some-clause-place : goal.returns-in_err-push-in-Some-clause-place
returns-in_err-push-in-Some-clause-place c = same_place c.args.self.now

pub returns-in_default-2-clause-taken : goal.returns-in_default-2-clause-taken
returns-in_default-2-clause-taken c = (keeps_unknown c.args.self.now c.args.pmac c.args.out.now (sym c.granted.ensures ∙ c.in_default.is)).taken
