use Rattle.std.proofs.Common.{◌≡◌, ◌∙◌, Option, Some, ap, false, sym, true}
use Rattle.std.proofs.lemmas.Option.{same_Some}
use Rattle.pl_layouts.specs.Equality.{is_ip}
use Rattle.pl_node.specs.declared.switch_records.Grant.{Grant}
use Rattle.pl_node.specs.SwitchViews.{SwitchView}
use Rattle.pl_switch_rule.specs.Granting.{granted, learns_ip}
use Rattle.pl_migrate.specs.AddressTables.{address_table_in, granted_in, is_used, takes_ip, used_if}
use Rattle.pl_migrate.proofs.Uses.{known_ip, new_ip, on_ok, taken_resting, taken_same}
use Rattle.pl_migrate.proofs.address_table.AddressTable.learn_given_ip.Goals.{in_default-via-in-Some+else-not-is_same_ip, in_default-via-in_default}
use Rattle.pl_migrate.proofs.address_table.AddressTable.learn_given_ip.Goals as goal

pub take_ip-requires-clause-used : goal.take_ip-requires-clause-used
take_ip-requires-clause-used c = sym (ap is_used (sym c.granted.ensures ∙ c.in-Some.is)) ∙ c.requires

pub returns-in-Some-clause-taken : goal.returns-in-Some-clause-taken
returns-in-Some-clause-taken c =
    on_ok c.take_ip.result
    (taken_same (λ v. takes_ip v c.args.pmac c.in-Some.grant c.args.ip) (λ v. learns_ip v c.args.pmac (granted v c.args.pmac) (Some c.args.ip))
    c.args.self.now c.take_ip.new.self c.args.out.now c.take_ip.new.out
    (λ v. new_ip (address_table_in c.args.self.now v) c.args.pmac c.in-Some.grant c.args.ip (granted_in c.args.self.now c.args.pmac)
    (sym c.granted.ensures ∙ c.in-Some.is)
    (sym c.is_same_ip.ensures ∙ c.if-not-is_same_ip.true)))
    c.take_ip.ensures.taken

known : (c : goal.After-used) → (grant : Grant) → granted_in c.args.self.now c.args.pmac ≡ Some grant → is_ip grant.ip c.args.ip ≡ true
known c = λ grant found. elim c.in_default.branch [
  | in_default-via-in-Some+else-not-is_same_ip w ↦
      let same : w.in-Some.grant ≡ grant = same_Some _ _ (sym w.in-Some.is ∙ c.granted.ensures ∙ found) in
      sym (ap (λ (g : Grant). is_ip g.ip c.args.ip) same) ∙ sym w.is_same_ip.ensures ∙ w.if-not-is_same_ip.false
  | in_default-via-in_default w ↦ absurd (let e = sym w.in_default.is ∙ c.granted.ensures ∙ found in cc)
]

pub returns-in_default-clause-taken : goal.returns-in_default-clause-taken
returns-in_default-clause-taken c = λ v.
    let w : SwitchView = address_table_in c.args.self.now v in
    taken_resting (learns_ip w c.args.pmac (granted_in c.args.self.now c.args.pmac) (Some c.args.ip))
    (used_if w c.args.pmac (granted_in c.args.self.now c.args.pmac))
    (address_table_in c.used.new.self v) c.args.out.now (c.used.ensures.step v)
    (known_ip w c.args.pmac c.args.ip (granted_in c.args.self.now c.args.pmac) (known c))
