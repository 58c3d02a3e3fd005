use Rattle.std.proofs.Common.{◌≡◌, ◌∙◌, ◌∷◌, false, not, cond, ap, sym, map, List, Some, is_some}
use Rattle.std.specs.Map.{lookup}
use Rattle.indexmap.specs.IndexMap.{insert_entry}
use Rattle.pl_pmac.specs.declared.pmac.Pmac.{Pmac}
use Rattle.pl_layouts.specs.Equality.{same_pmac}
use Rattle.pl_node.specs.ManagerViews.{LearntAddress, newest}
use Rattle.pl_manager_rule.specs.ManagerRule.{is_registered, learnt_as, recalled, told_again}
use Rattle.pl_registry.specs.declared.addresses.Known.{Known}
use Rattle.pl_registry.specs.declared.addresses.Told.{Told}
use Rattle.pl_registry.specs.Addresses.{learnt_of, told_at, with_address_as}
use Rattle.pl_registry.proofs.Entries.{each_once, looked_up, put_in}
use Rattle.pl_registry.proofs.Finding.{Table, found_still, is_with_address, registered_where_known, told_ip}
use Rattle.pl_registry.proofs.addresses.Addresses.learn.Goals as goal

-- the address is told again: how it was found, and the table then
record IsToldAgain (known after : Table) (x : Pmac) (told : Told) (k : Known) : Type 0 where
  there : lookup (same_pmac x) known ≡ Some k
  is : after ≡ insert_entry same_pmac known x (told_ip told k)

abbrev again : goal.In_ok-insert-in-Some → Type 0
again c = IsToldAgain c.self.inside.known.entries c.insert.new.self.entries c.args.pmac c.args.told c.in-Some.known

told_again_at : (c : goal.In_ok-insert-in-Some) → again c
told_again_at c = record {
  there = sym (c.in-Some.ensures ∙ c.get.ensures.value ∙ looked_up c.args.pmac c.self.inside.known.entries);
  is = c.in_ok-insert-in-Some.ensures.entries ∙ put_in c.args.pmac (record c.in-Some.known { ip = c.or-ip.result }) c.self.inside.known.entries
      ∙ ap (λ ip. insert_entry same_pmac c.self.inside.known.entries c.args.pmac (record c.in-Some.known { ip = ip })) c.or-ip.ensures;
}

pub invariant_of-self-in-Some : goal.invariant_of-self-in-Some
invariant_of-self-in-Some c =
    let h = told_again_at c in
    let after : Table = c.insert.new.self.entries in
    found_still c.self.inside.known.entries after c.self.inside.newest.entries c.args.pmac c.args.told c.in-Some.known c.self.invariant h.there h.is
    (each_once after c.in_ok-insert-in-Some.ensures.unique)

pub add-requires : goal.add-requires
add-requires c =
    ap (λ (v : List LearntAddress). is_registered v c.args.pmac) (sym c.self.view_is)
    ∙ registered_where_known c.self.inside.known.entries c.args.pmac c.self.invariant.once
    ∙ ap is_some (sym (c.in-None.ensures ∙ c.get.ensures.value ∙ looked_up c.args.pmac c.self.inside.known.entries))

pub returns-in_ok-insert-in-Some-clause-ok : goal.returns-in_ok-insert-in-Some-clause-ok
returns-in_ok-insert-in-Some-clause-ok c =
    let h = told_again_at c in
    is_with_address c.self.inside.known.entries c.insert.new.self.entries c.self.inside.newest.entries c.args.pmac c.args.told c.in-Some.known c.self.invariant h.there h.is
    c.args.number
    ∙ ap (λ (v : List LearntAddress). with_address_as c.args.number (learnt_of v) (told_at c.args.pmac c.args.told)) c.self.view_is

pub returns-in_ok-insert-in-Some-clause-new : goal.returns-in_ok-insert-in-Some-clause-new
returns-in_ok-insert-in-Some-clause-new c =
    let h = told_again_at c in
    sym (ap not
    (ap (λ (v : List LearntAddress). is_registered v c.args.pmac) (sym c.self.view_is)
    ∙ registered_where_known c.self.inside.known.entries c.args.pmac c.self.invariant.once ∙ ap is_some h.there))

first_told : (c : goal.In_ok-add-in-None) → is_registered c.args.self.now c.args.pmac ≡ false
first_told c =
    ap (λ (v : List LearntAddress). is_registered v c.args.pmac) (sym c.self.view_is)
    ∙ registered_where_known c.self.inside.known.entries c.args.pmac c.self.invariant.once
    ∙ ap is_some (sym (c.in-None.ensures ∙ c.get.ensures.value ∙ looked_up c.args.pmac c.self.inside.known.entries))

pub returns-in_ok-add-in-None-clause-ok : goal.returns-in_ok-add-in-None-clause-ok
returns-in_ok-add-in-None-clause-ok c =
    let new = told_at c.args.pmac c.args.told in
    let n = c.args.number in
    c.in_ok-add-in-None.ensures.ok
    ∙ sym (ap (λ b. cond b (map (told_again new) c.args.self.now)
    (learnt_as n new ∷ recalled (newest (learnt_of c.args.self.now) c.args.told.amac) c.args.pmac n c.args.self.now)) (first_told c))

pub returns-in_ok-add-in-None-clause-new : goal.returns-in_ok-add-in-None-clause-new
returns-in_ok-add-in-None-clause-new c = sym (ap not (first_told c))
