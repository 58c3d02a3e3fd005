use Rattle.std.proofs.Common.{◌≡◌, ◌∙◌, ◌∷◌, ℕ, false, cond, ap, subst, List, Option, Some, None}
use Rattle.std.specs.List.{IsDistinct}
use Rattle.std.specs.Map.{keys_of, lookup}
use Rattle.indexmap.specs.IndexMap.{insert_entry}
use Rattle.pl_frame.specs.declared.address.Mac.{Mac}
use Rattle.pl_pmac.specs.declared.pmac.Pmac.{Pmac}
use Rattle.pl_layouts.specs.Equality.{same_mac, same_pmac}
use Rattle.pl_node.specs.ManagerViews.{LearntAddress, newest}
use Rattle.pl_manager_rule.specs.ManagerRule.{is_registered, learnt_as, recalled}
use Rattle.pl_registry.specs.declared.addresses.Registered.{Registered}
use Rattle.pl_registry.specs.declared.addresses.Told.{Told}
use Rattle.pl_registry.specs.Addresses.{FindAddresses, IsLedFrom, learnt_of, newest_first, told_at}
use Rattle.pl_registry.proofs.Entries.{each_once, put_in}
use Rattle.pl_registry.proofs.Finding.{Latest, Table, found_more, is_added, unknown_where_not_registered}
use Rattle.pl_registry.proofs.addresses.Addresses.add.Goals as goal

-- what was put into the tables, by what they had before
record IsAdded (known put after : Table) (latest latest_after : Latest) (x : Pmac) (told : Told) (n : ℕ) : Type 0 where
  fresh : lookup (same_pmac x) known ≡ None
  entries : put ≡ insert_entry same_pmac known x (record { switch = told.switch; amac = told.amac; ip = told.ip; number = n; recall = None; aged = false })
  once : IsDistinct same_pmac (keys_of put)
  led : IsLedFrom (lookup (same_mac told.amac) latest) (record { new = x; number = n }) put after
  names : (mac : Mac) → lookup (same_mac mac) latest_after
      ≡ cond (same_mac told.amac mac) (Some (record { pmac = x; amac = told.amac; number = n; switch = told.switch })) (lookup (same_mac mac) latest)

added_view : (known put after : Table) (latest latest_after : Latest) (x : Pmac) (told : Told) (n : ℕ) → FindAddresses known latest →
    IsAdded known put after latest latest_after x told n →
    newest_first after ≡ learnt_as n (told_at x told) ∷ recalled (newest (learnt_of (newest_first known)) told.amac) x n (newest_first known)
added_view known put after latest latest_after x told n found added =
    is_added n known put after latest latest_after x told found added.fresh added.entries added.once added.led

added_found : (known put after : Table) (latest latest_after : Latest) (x : Pmac) (told : Told) (n : ℕ) → FindAddresses known latest →
    IsAdded known put after latest latest_after x told n → FindAddresses after latest_after
added_found known put after latest latest_after x told n found added =
    found_more n known put after latest latest_after x told found added.fresh added.entries added.once added.led added.names

was_unknown : (c : goal.In_ok-lead_from) → lookup (same_pmac c.args.pmac) c.self.inside.known.entries ≡ None
was_unknown c =
    unknown_where_not_registered c.self.inside.known.entries c.args.pmac c.self.invariant.once
    (ap (λ (v : List LearntAddress). is_registered v c.args.pmac) c.self.view_is ∙ c.requires)

added : (c : goal.In_ok-lead_from) →
    IsAdded c.self.inside.known.entries c.insert-2.new.self.entries c.lead_from.new.known.entries c.self.inside.newest.entries c.insert.new.self.entries
    c.args.pmac c.args.told c.args.number
added c =
    let x = c.args.pmac in
    let told = c.args.told in
    let latest : Latest = c.self.inside.newest.entries in
    let same : c.reserve.new.self.entries ≡ c.self.inside.known.entries = c.in_ok-reserve.ensures.entries in
    let same_latest : c.reserve-2.new.self.entries ≡ latest = c.in_ok-reserve-2.ensures.entries in
    let new : Registered = record { pmac = x; amac = told.amac; number = c.args.number; switch = told.switch } in
    record {
      fresh = was_unknown c;
      entries = c.in_ok-insert.ensures.entries ∙ put_in x c.first_known.result c.reserve.new.self.entries
          ∙ (λ i. insert_entry same_pmac (same i) x (c.first_known.ensures i));
      once = each_once c.insert-2.new.self.entries c.in_ok-insert.ensures.unique;
      led = subst (λ (o : Option Registered). IsLedFrom o (record { new = x; number = c.args.number }) c.insert-2.new.self.entries c.lead_from.new.known.entries)
          (c.in_ok-old.ensures.old ∙ ap (λ (es : Latest). lookup (same_mac told.amac) es) same_latest) c.in_ok-lead_from.ensures.led;
      names = λ mac. c.in_ok-old.ensures.updates.0 mac ∙ ap (λ (es : Latest). cond (same_mac told.amac mac) (Some new) (lookup (same_mac mac) es)) same_latest;
    }

pub invariant_of-self-2 : goal.invariant_of-self-2
invariant_of-self-2 c =
    added_found c.self.inside.known.entries c.insert-2.new.self.entries c.lead_from.new.known.entries c.self.inside.newest.entries c.insert.new.self.entries
    c.args.pmac c.args.told c.args.number c.self.invariant (added c)

pub returns-clause-ok : goal.returns-clause-ok
returns-clause-ok c =
    let known : Table = c.self.inside.known.entries in
    added_view known c.insert-2.new.self.entries c.lead_from.new.known.entries c.self.inside.newest.entries c.insert.new.self.entries
    c.args.pmac c.args.told c.args.number c.self.invariant (added c)
    ∙ ap (λ (v : List LearntAddress). learnt_as c.args.number (told_at c.args.pmac c.args.told)
    ∷ recalled (newest (learnt_of v) c.args.told.amac) c.args.pmac c.args.number v) c.self.view_is
