use Rattle.std.proofs.Common.{Option, refl, subst, sym}
use Rattle.std.specs.Prelude.{IsSome}
use Rattle.pl_node.specs.declared.switch_records.Grant.{Grant}
use Rattle.pl_migrate.proofs.Granted.{any_switch}
use Rattle.pl_migrate.proofs.Uses.{HasIp, StaysUsed, has_ip, known_in_use, knows_ip}
use Rattle.pl_migrate.proofs.address_table.AddressTable.take_ip.Goals as goal

pub set_ip-requires : goal.set_ip-requires
set_ip-requires c = subst (λ (o : Option Grant). IsSome o) (sym c.requires.granted) refl

pub used-requires : goal.used-requires
used-requires c =
    known_in_use c.args.self.now c.set_ip.new.self c.args.pmac c.args.grant c.args.ip c.requires.used
    (knows_ip c.args.self.now c.set_ip.new.self c.args.pmac c.args.grant c.args.ip c.requires.granted (c.set_ip.ensures.step any_switch))

has : (c : goal.After-used) → HasIp c.args.self.now c.set_ip.new.self c.used.new.self c.args.pmac c.args.grant c.args.ip
has c =
    let e = c.used.ensures in
    let stays : StaysUsed c.set_ip.new.self c.used.new.self = record { used = e.used; kept = e.kept; traps = e.traps } in
    has_ip c.args.self.now c.set_ip.new.self c.used.new.self c.args.pmac c.args.grant c.args.ip c.requires.granted c.requires.used c.set_ip.ensures.step
    e.step stays

pub returns-clause-taken : goal.returns-clause-taken
returns-clause-taken c = λ v. record { view = (has c).view v; acts = c.in_ok-push.ensures.ok }

pub returns-clause-used : goal.returns-clause-used
returns-clause-used c = (has c).stays.used

pub returns-clause-kept : goal.returns-clause-kept
returns-clause-kept c = (has c).stays.kept

pub returns-clause-traps : goal.returns-clause-traps
returns-clause-traps c = (has c).stays.traps
