use Rattle.std.proofs.Common.{◌≡◌, ◌∙◌, ap, refl, sym, None, Some, is_some}
use Rattle.std.specs.Map.{keys_of, lookup}
use Rattle.indexmap.proofs.CallerLemmas.{keys-insert_entry-present}
use Rattle.pl_pmac.specs.contracts.pmac.PmacPartialEq.TheImpl.{eq-value}
use Rattle.pl_layouts.specs.Equality.{same_pmac}
use Rattle.pl_registry.specs.declared.addresses.Known.{Known}
use Rattle.pl_registry.specs.Addresses.{leading}
use Rattle.pl_registry.proofs.Entries.{looked_up, put_in}
use Rattle.pl_registry.proofs.Finding.{Table, led_to}
use Rattle.pl_registry.proofs.addresses.lead_on.Goals as goal

pub returns-in_ok-insert-in-Some-clause-led : goal.returns-in_ok-insert-in-Some-clause-led
returns-in_ok-insert-in-Some-clause-led c =
    let known : Table = c.args.known.now.entries in
    let there : lookup (eq-value.it c.args.old) known ≡ Some c.in-Some.before = sym (c.in-Some.ensures ∙ c.get.ensures.value) in
    let value : Known = led_to c.args.to c.in-Some.before in
    record {
      entries = c.in_ok-insert-in-Some.ensures.entries ∙ put_in c.args.old value known
          ∙ sym (ap (leading c.args.old c.args.to known) (sym (looked_up c.args.old known) ∙ there));
      keys = ap keys_of c.in_ok-insert-in-Some.ensures.entries ∙ keys-insert_entry-present eq-value.it c.args.known.now c.args.old value (ap is_some there);
    }

pub returns-in-None-clause-led : goal.returns-in-None-clause-led
returns-in-None-clause-led c =
    let known : Table = c.args.known.now.entries in
    let none : lookup (same_pmac c.args.old) known ≡ None = sym (c.in-None.ensures ∙ c.get.ensures.value ∙ looked_up c.args.old known) in
    record { entries = sym (ap (leading c.args.old c.args.to known) none); keys = refl }
