-- What an address table gives as the next address of a port.
use Rattle.std.proofs.Common.{◌≡◌, ◌<◌, ◌≤◌, ℕ, ◌+◌, nat_lt, Bool, true, false, cond, List, [], ◌∷◌, length, map, get_or, Option, Some, None, refl, inl, inr, sym, ap, subst, ◌∙◌, arith}
use Rattle.std.specs.List.{slice_get}
use Rattle.std.specs.Option.{IfSome}
use Rattle.std.proofs.lemmas.Bool.{le-ltb, lt-ltb}
use Rattle.std.proofs.lemmas.List.{length-map}
use Rattle.std.proofs.lemmas.Option.{same_Some}
use Rattle.pl_pmac.specs.declared.pmac.Pmac.{Pmac}
use Rattle.pl_node.specs.declared.switch_records.Grant.{Grant}
use Rattle.pl_pool.specs.Pool.{Lists}
use Rattle.pl_switch_rule.specs.Granting.{next_vmid}
use Rattle.pl_migrate.specs.AddressTables.{AddressTableView, address_in, freed_of, granted_in, grants_of, next_address, numbered}
use Rattle.pl_migrate.specs.Keeping.{IsFreeOrNew}
use Rattle.pl_migrate.specs.declared.tenancy.Tenancy.{Tenancy}
use Rattle.pl_migrate.specs.Tenancies.{AreInOrder, addresses_in, grant_of, table_view}
use Rattle.pl_migrate.proofs.Entries.{tenancies_of}
use Rattle.pl_migrate.proofs.Next.{IsNextOf, freed_next, next_is, next_is_nobodys, next_of_freed, next_without}
use Rattle.pl_migrate.proofs.Stands.{many_shown, read_port}
use Rattle.pl_migrate.proofs.Views.{grants_of_port}

-- By how many were given at the port.

pub below_last : (table : AddressTableView) (port n : ℕ) → n ≡ length (grants_of table port) → n < 65535 → nat_lt (length (grants_of table port)) 65535 ≡ true
below_last table port n same less = lt-ltb (length (grants_of table port)) 65535 (omega arith)

pub next_below : (table : AddressTableView) (port n : ℕ) → n ≡ length (grants_of table port) → n < 65535 →
    Some (address_in table port (n + 1)) ≡ numbered table port (next_vmid [] (grants_of table port))
next_below table port n same less =
    ap (λ m. Some (address_in table port (m + 1))) same
    ∙ sym (ap (λ b. numbered table port (cond b (Some (length (grants_of table port) + 1)) None)) (below_last table port n same less))

pub none_above : (table : AddressTableView) (port n : ℕ) → n ≡ length (grants_of table port) → 65535 ≤ n →
    None ≡ numbered table port (next_vmid [] (grants_of table port))
none_above table port n same more =
    sym (ap (λ b. numbered table port (cond b (Some (length (grants_of table port) + 1)) None)) (le-ltb (length (grants_of table port)) 65535 (omega arith)))

empty_of : (xs : List Pmac) → slice_get xs 0 ≡ None → xs ≡ []
empty_of [] none = refl
empty_of (x ∷ xs) none = absurd (let e = none in cc)

record HasFirst (xs : List Pmac) (x : Pmac) : Type 0 where
  pub rest : List Pmac
  pub is : xs ≡ x ∷ rest

first_of : (xs : List Pmac) (x : Pmac) → slice_get xs 0 ≡ Some x → HasFirst xs x
first_of [] x first = absurd (let e = first in cc)
first_of (y ∷ ys) x first = record { rest = ys; is = ap (λ z. z ∷ ys) (same_Some _ _ first) }

module _ (pod position now : ℕ) (ports : List (List Tenancy)) (orders : Lists Pmac) (order : AreInOrder pod position now ports orders)
    (table : AddressTableView)
    (view : table_view pod position now ports orders ≡ table) (port : ℕ) (requires : port < length table.grants) where
  abbrev shown : AddressTableView
  shown = table_view pod position now ports orders

  pub within_ports : port < length ports
  within_ports = subst (λ n. port < n) (many_shown pod position now ports orders order table view) requires

  pub within_list : 4 + port < length orders.lists
  within_list = let e = order.lists in let less = within_ports in omega arith

  pub length_shown : (n : ℕ) (ts : List Tenancy) → n ≡ port → ts ≡ get_or ports n ts → length ts ≡ length (grants_of table port)
  length_shown n ts at read =
      ap (λ (us : List Tenancy). length us) (read_port ports n port ts read at within_ports)
      ∙ sym (length-map (tenancies_of ports port) (grant_of now)) ∙ sym (ap (λ (gs : List Grant). length gs) (grants_of_port now ports port))
      ∙ ap (λ t. length (grants_of t port)) view

  -- the first of the free ones
  pub freed_is_next : (x : Pmac) → slice_get (addresses_in orders (4 + port)) 0 ≡ Some x → Some x ≡ next_address table port
  freed_is_next x first =
      let is = first_of (addresses_in orders (4 + port)) x first in
      sym (next_of_freed pod position now ports orders order port x is.rest within_ports is.is) ∙ ap (λ t. next_address t port) view

  pub freed_given : (x : Pmac) → slice_get (addresses_in orders (4 + port)) 0 ≡ Some x → IsFreeOrNew (freed_of table port) (granted_in table x)
  freed_given x first =
      let is = first_of (addresses_in orders (4 + port)) x first in
      subst (λ t. IsFreeOrNew (freed_of t port) (granted_in t x)) view
      (next_is_nobodys pod position now ports orders order port x within_ports (freed_next pod position now ports orders order port x is.rest is.is))

  -- or a new one
  pub new_is_next : (result : Option Pmac) → slice_get (addresses_in orders (4 + port)) 0 ≡ None →
      result ≡ numbered table port (next_vmid [] (grants_of table port)) →
      result ≡ next_address table port
  new_is_next result none is =
      is ∙ sym (ap (λ t. numbered t port (next_vmid [] (grants_of t port))) view)
      ∙ sym (next_without pod position now ports orders order port within_ports (empty_of (addresses_in orders (4 + port)) none))
      ∙ ap (λ t. next_address t port) view

  if_next : (o : Option Pmac) → o ≡ next_address table port → IfSome o (λ x. IsFreeOrNew (freed_of table port) (granted_in table x))
  if_next None is = tt
  if_next (Some x) is =
      subst (λ t. IsFreeOrNew (freed_of t port) (granted_in t x)) view
      (next_is_nobodys pod position now ports orders order port x within_ports
      (next_is pod position now ports orders order port x within_ports (ap (λ t. next_address t port) view ∙ sym is)))

  pub new_given : (result : Option Pmac) → slice_get (addresses_in orders (4 + port)) 0 ≡ None →
      result ≡ numbered table port (next_vmid [] (grants_of table port)) →
      IfSome result (λ x. IsFreeOrNew (freed_of table port) (granted_in table x))
  new_given result none is = if_next result (new_is_next result none is)
