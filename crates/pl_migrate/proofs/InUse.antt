-- The address that a host has in use at a port of a table.
use Rattle.std.proofs.Common.{◌≡◌, ◌<◌, ℕ, List, [], length, get_or, Option, Some, None, refl, sym, ap, subst, ◌∙◌}
use Rattle.pl_frame.specs.declared.address.Mac.{Mac}
use Rattle.pl_pmac.specs.declared.pmac.Pmac.{Pmac}
use Rattle.pl_node.specs.declared.switch_records.Grant.{Grant}
use Rattle.pl_pool.specs.Pool.{Lists}
use Rattle.pl_switch_rule.specs.Granting.{in_use}
use Rattle.pl_migrate.specs.AddressTables.{AddressTableView, address_in_use, grants_of, numbered}
use Rattle.pl_migrate.specs.Keeping.{IsHostsOwn}
use Rattle.pl_migrate.specs.PortGrants.{AtMostOne, is_used_by, used_vmid}
use Rattle.pl_migrate.specs.declared.tenancy.Tenancy.{Tenancy}
use Rattle.pl_migrate.specs.Tenancies.{AreInOrder, table_view}
use Rattle.pl_migrate.proofs.Entries.{tenancies_of}
use Rattle.pl_migrate.proofs.Laws.{own_is_used}
use Rattle.pl_migrate.proofs.PortUses.{one_shown, used_at, uses_grant}
use Rattle.pl_migrate.proofs.Stands.{many_shown, read_port}
use Rattle.pl_migrate.proofs.Views.{grants_of_port}

module _ (pod position now : ℕ) (ports : List (List Tenancy)) (orders : Lists Pmac) (order : AreInOrder pod position now ports orders)
    (table : AddressTableView)
    (view : table_view pod position now ports orders ≡ table) (port : ℕ) (requires : port < length table.grants) where
  pub within_ports : port < length ports
  within_ports = subst (λ n. port < n) (many_shown pod position now ports orders order table view) requires

  module _ (n : ℕ) (ts : List Tenancy) (at : n ≡ port) (read : ts ≡ get_or ports n ts) (amac : Mac) where
    is_port : ts ≡ tenancies_of ports port
    is_port = read_port ports n port ts read at within_ports

    pub used_here : (o : Option ℕ) → o ≡ used_vmid ts amac → numbered table port o ≡ address_in_use table port amac
    used_here o is =
        ap (numbered table port) (is ∙ ap (λ (us : List Tenancy). used_vmid us amac) is_port ∙ sym (used_at pod position now ports orders port amac))
        ∙ ap (λ t. numbered table port (in_use (grants_of t port) amac)) view

    pub only_one : AtMostOne (is_used_by amac) ts → (pmac : Pmac) → IsHostsOwn table port amac pmac → address_in_use table port amac ≡ Some pmac
    only_one one pmac own =
        own_is_used table port amac pmac
        (subst (λ t. AtMostOne (uses_grant amac) (grants_of t port)) view
        (subst (AtMostOne (uses_grant amac)) (sym (grants_of_port now ports port))
        (one_shown now amac (tenancies_of ports port) (subst (AtMostOne (is_used_by amac)) is_port one)))) own
