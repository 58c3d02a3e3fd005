-- The address that a port gives next, and an address table where it is granted.
use Rattle.std.proofs.Common.{◌≡◌, ◌<◌, ◌≤◌, ◌⊎◌, ℕ, ◌+◌, ◌-◌, ◌==◌, nat_lt, Bool, true, false, cond, not, List, [], ◌∷◌, ◌++◌, length, map, Option, Some, None, refl, inl, inr, sym, ap, subst, ◌∙◌, arith}
use Rattle.std.specs.List.{AllByRecursion, IsDistinct}
use Rattle.std.specs.Prelude.{slice_index_or, slice_set}
use Rattle.std.proofs.lemmas.Bool.{and_from, eq-eqb, ltb-true, ne_eqb}
use Rattle.std.proofs.lemmas.List.{append-nil, length-map}
use Rattle.std.proofs.lemmas.List.Elements.{filter-append}
use Rattle.std.proofs.lemmas.Option.{same_Some}
use Rattle.pl_frame.specs.declared.address.Ip4.{Ip4}
use Rattle.pl_frame.specs.declared.address.Mac.{Mac}
use Rattle.pl_pmac.specs.declared.pmac.Pmac.{Pmac}
use Rattle.pl_layouts.specs.Equality.{same_pmac}
use Rattle.pl_lemmas.proofs.Exports.{all_weaker}
use Rattle.pl_node.specs.declared.address_use.AddressUse.TheVariants as as_used
use Rattle.pl_node.specs.declared.switch_records.Grant.{Grant}
use Rattle.pl_node.specs.SwitchViews.{SwitchView}
use Rattle.pl_pool.specs.declared.key.Key.{Key}
use Rattle.pl_pool.specs.Pool.{Lists, list_at}
use Rattle.pl_switch_rule.specs.Granting.{all_but_first, grants_new, new_grant, next_vmid, with_next, without}
use Rattle.pl_migrate.specs.AddressTables.{AddressTableView, address_table_in, freed_of, granted_in, grants_of, next_address, numbered}
use Rattle.pl_migrate.specs.Keeping.{IsFreeOrNew}
use Rattle.pl_node.specs.AddressUses.{is_held}
use Rattle.pl_migrate.specs.declared.tenancy.Standing.{Standing}
use Rattle.pl_migrate.specs.declared.tenancy.Standing.TheVariants.{Fresh, Asked, Trapped, Resting, Free}
use Rattle.pl_migrate.specs.declared.tenancy.Tenancy.{Tenancy}
use Rattle.pl_migrate.specs.Orders.{with_tenancy}
use Rattle.pl_migrate.specs.Tenancies.{AreInOrder, StandsIn, addresses_in, freed_in, grant_of, is_of, list_of, table_view, tenancy_at, use_after}
use Rattle.pl_migrate.proofs.Ages.{IsIn, all_in, granted_new, granted_of}
use Rattle.pl_migrate.proofs.Entries.{next_is_new, same_here, tenancies_of}
use Rattle.pl_migrate.proofs.Listed.{absent_elsewhere, are_listed, new_is_nowhere}
use Rattle.pl_migrate.proofs.Pairs.{IsOther, all_items, without_absent, without_first}
use Rattle.pl_migrate.proofs.Placed.{IsPut, used_put}
use Rattle.pl_migrate.proofs.Views.{freed_at_one, freed_at_port, grants_at_port, grants_behind, grants_in_place, grants_of_port, same_parts}

free_standing : (port q : ℕ) (standing : Standing) → 4 + q ≡ list_of port standing → (standing ≡ Free) × (port ≡ q)
free_standing port q Fresh is = absurd (omega arith)
free_standing port q Asked is = absurd (omega arith)
free_standing port q (Trapped trap) is = absurd (omega arith)
free_standing port q (Resting number) is = absurd (omega arith)
free_standing port q Free is = (refl, omega arith)

-- the first of the free addresses of its port
pub record IsFreed (ports : List (List Tenancy)) (orders : Lists Pmac) (x : Pmac) : Type 0 where
  pub tenancy : Tenancy
  pub found : tenancy_at ports x ≡ Some tenancy
  pub free : tenancy.standing ≡ Free
  pub rest : List Pmac
  pub first : addresses_in orders (4 + x.port) ≡ x ∷ rest

-- the first that was never granted, of a port without a free one
pub record IsNew (ports : List (List Tenancy)) (orders : Lists Pmac) (x : Pmac) : Type 0 where
  pub next : x.vmid ≡ length (tenancies_of ports x.port) + 1
  pub few : length (tenancies_of ports x.port) < 65535
  pub none : addresses_in orders (4 + x.port) ≡ []

pub record IsNextOf (pod position : ℕ) (ports : List (List Tenancy)) (orders : Lists Pmac) (port : ℕ) (x : Pmac) : Type 0 where
  pub here : is_of pod position x ≡ true
  pub port_is : x.port ≡ port
  pub which : IsFreed ports orders x ⊎ IsNew ports orders x

is_of_itself : (pod position port vmid : ℕ) → is_of pod position (record { pod = pod; position = position; port = port; vmid = vmid }) ≡ true
is_of_itself pod position port vmid = and_from (pod == pod) (position == position) (eq-eqb pod pod refl) (eq-eqb position position refl)

module _ (pod position now : ℕ) (ports : List (List Tenancy)) (orders : Lists Pmac) (order : AreInOrder pod position now ports orders) where
  abbrev table : AddressTableView
  table = table_view pod position now ports orders

  abbrev own : ℕ → ℕ → Pmac
  own port vmid = record { pod = pod; position = position; port = port; vmid = vmid }

  granted_many : (port : ℕ) → length (grants_of table port) ≡ length (tenancies_of ports port)
  granted_many port = ap (λ (gs : List Grant). length gs) (grants_of_port now ports port) ∙ length-map (tenancies_of ports port) (grant_of now)

  freed_is : (port : ℕ) → port < length ports → freed_of table port ≡ map (λ (y : Pmac). y.vmid) (addresses_in orders (4 + port))
  freed_is port within = freed_at_port orders (length ports) port within

  first_freed : (port : ℕ) (y : Pmac) (rest : List Pmac) → addresses_in orders (4 + port) ≡ y ∷ rest → IsIn pod position ports (4 + port) y
  first_freed port y rest first =
      (subst (AllByRecursion (IsIn pod position ports (4 + port))) first (all_in pod position ports orders (are_listed pod position now ports orders order)
      (4 + port))).0

  -- the first of the free ones is the next, and nobody's
  pub freed_next : (port : ℕ) (x : Pmac) (rest : List Pmac) → addresses_in orders (4 + port) ≡ x ∷ rest → IsNextOf pod position ports orders port x
  freed_next port x rest first =
      let is = first_freed port x rest first in
      let free = free_standing x.port port is.tenancy.standing is.list_is in
      record {
        here = is.here;
        port_is = free.1;
        which = inl (record {
          tenancy = is.tenancy;
          found = is.found;
          free = free.0;
          rest = rest;
          first = ap (λ n. addresses_in orders (4 + n)) free.1
              ∙ first;
        });
      }

  pub new_next : (port : ℕ) → length (tenancies_of ports port) < 65535 → addresses_in orders (4 + port) ≡ [] →
      IsNextOf pod position ports orders port (own port (length (tenancies_of ports port) + 1))
  new_next port few none = record {
    here = is_of_itself pod position port (length (tenancies_of ports port) + 1);
    port_is = refl;
    which = inr (record { next = refl; few = few; none = none });
  }

  next_by : (port : ℕ) (x : Pmac) (free : List Pmac) → addresses_in orders (4 + port) ≡ free →
      numbered table port (next_vmid (map (λ (y : Pmac). y.vmid) free) (grants_of table port)) ≡ Some x → IsNextOf pod position ports orders port x
  next_by port x (y ∷ rest) first next =
      let of_first = freed_next port y rest first in
      let is : own port y.vmid ≡ y = same_here pod position (own port y.vmid) y (is_of_itself pod position port y.vmid) of_first.here
      (sym of_first.port_is) refl in
      subst (IsNextOf pod position ports orders port) (sym is ∙ same_Some _ _ next) of_first
  next_by port x [] none next =
      let many = granted_many port in
      elim (nat_lt (length (grants_of table port)) 65535) as (λ b. nat_lt (length (grants_of table port)) 65535 ≡ b →
      numbered table port (cond b (Some (length (grants_of table port) + 1)) None) ≡ Some x → IsNextOf pod position ports orders port x) [
        | true ↦ λ few is.
            let less = ltb-true (length (grants_of table port)) 65535 few in
            subst (IsNextOf pod position ports orders port) (ap (λ n. own port (n + 1)) (sym many) ∙ same_Some _ _ is)
            (new_next port (omega arith) none)
        | false ↦ λ spent is. absurd (let e = is in cc)
      ] refl next

  pub next_is : (port : ℕ) (x : Pmac) → port < length ports → next_address table port ≡ Some x → IsNextOf pod position ports orders port x
  next_is port x within next =
      next_by port x (addresses_in orders (4 + port)) refl
      (sym (ap (λ free. numbered table port (next_vmid free (grants_of table port))) (freed_is port within)) ∙ next)

  pub next_of_freed : (port : ℕ) (x : Pmac) (rest : List Pmac) → port < length ports → addresses_in orders (4 + port) ≡ x ∷ rest →
      next_address table port ≡ Some x
  next_of_freed port x rest within first =
      let of_first = freed_next port x rest first in
      ap (λ free. numbered table port (next_vmid free (grants_of table port))) (freed_is port within ∙ ap (map (λ (y : Pmac). y.vmid)) first)
      ∙ ap (λ (y : Pmac). Some y) (same_here pod position (own port x.vmid) x (is_of_itself pod position port x.vmid) of_first.here (sym of_first.port_is) refl)

  pub next_without : (port : ℕ) → port < length ports → addresses_in orders (4 + port) ≡ [] →
      next_address table port ≡ numbered table port (next_vmid [] (grants_of table port))
  next_without port within none =
      ap (λ free. numbered table port (next_vmid free (grants_of table port))) (freed_is port within ∙ ap (map (λ (y : Pmac). y.vmid)) none)

  -- it is free, or was never granted
  unheld : (t : Tenancy) → t.standing ≡ Free → is_held (grant_of now t).held ≡ false
  unheld t free = ap (λ s. is_held (use_after (now - t.since) s)) free

  free_or_new : (x : Pmac) → x.port < length ports → is_of pod position x ≡ true → IsFreed ports orders x ⊎ IsNew ports orders x →
      IsFreeOrNew (freed_of table x.port) (granted_in table x)
  free_or_new x within here (inl freed) =
      subst (IsFreeOrNew (freed_of table x.port)) (sym (granted_of pod position now ports orders x freed.tenancy here freed.found))
      (unheld freed.tenancy freed.free)
  free_or_new x within here (inr new) =
      subst (IsFreeOrNew (freed_of table x.port)) (sym (granted_new pod position now ports orders x (next_is_new ports x new.next)))
      (freed_is x.port within ∙ ap (map (λ (y : Pmac). y.vmid)) new.none)

  pub next_is_nobodys : (port : ℕ) (x : Pmac) → port < length ports → IsNextOf pod position ports orders port x →
      IsFreeOrNew (freed_of table port) (granted_in table x)
  next_is_nobodys port x within next =
      subst (λ n. IsFreeOrNew (freed_of table n) (granted_in table x)) next.port_is
      (free_or_new x (subst (λ n. n < length ports) (sym next.port_is) within) next.here next.which)

-- It is granted.

abbrev pub granted_as : Mac → Option Ip4 → ℕ → Key → Tenancy
granted_as amac ip now key = record { amac = amac; ip = ip; standing = Fresh; since = now; key = key }

module _ (pod position now : ℕ) (ports after : List (List Tenancy)) (orders entered : Lists Pmac) (x : Pmac) (amac : Mac) (ip : Option Ip4) (key : Key)
    (order : AreInOrder pod position now ports orders) (within : x.port < length ports)
    (put : IsPut pod position ports after orders entered x (granted_as amac ip now key)) where
  abbrev was : AddressTableView
  was = table_view pod position now ports orders

  abbrev is : AddressTableView
  is = table_view pod position now after entered

  abbrev used : List Pmac
  used = addresses_in orders 1 ++ addresses_in orders 0

  unused_put : without x (addresses_in orders 1) ≡ addresses_in orders 1 → without x (addresses_in orders 0) ≡ addresses_in orders 0 →
      addresses_in entered 1 ++ addresses_in entered 0 ≡ used ++ x ∷ []
  unused_put asked fresh =
      used_put pod position ports after orders entered x (granted_as amac ip now key) put refl
      ∙ ap (λ xs. xs ++ x ∷ []) (filter-append (λ other. not (same_pmac other x)) (addresses_in orders 1) (addresses_in orders 0)
      ∙ ap (λ xs. xs ++ without x (addresses_in orders 0)) asked ∙ ap (λ xs. addresses_in orders 1 ++ xs) fresh)

  other_list : (list : ℕ) → (list ≡ 0 → ⊥) → addresses_in entered list ≡ without x (addresses_in orders list)
  other_list list apart =
      put.addresses list ∙ ap (λ b. without x (addresses_in orders list) ++ cond b (x ∷ []) []) (ne_eqb list 0 apart)
      ∙ append-nil (without x (addresses_in orders list))

  abbrev vmids : List Pmac → List ℕ
  vmids xs = map (λ (y : Pmac). y.vmid) xs

  -- a free address is granted again
  pub view_again : (freed : IsFreed ports orders x) → after ≡ with_tenancy ports x (granted_as amac ip now key) → (v : SwitchView) →
      address_table_in is v ≡ (grants_new (address_table_in was v) x.port amac ip x).view
  view_again freed placed v =
      let stood : (list : ℕ) → (list ≡ 4 + x.port → ⊥) → without x (addresses_in orders list) ≡ addresses_in orders list =
      (λ list apart. absent_elsewhere pod position ports orders x freed.tenancy (are_listed pod position now ports orders order) freed.found list
      (λ e. apart (e ∙ ap (list_of x.port) freed.free))) in
      let first : freed_of was x.port ≡ x.vmid ∷ vmids freed.rest = freed_at_port orders (length ports) x.port within ∙ ap vmids freed.first in
      same_parts pod position _ _ _ _ _ _ _ _ v
      (ap (map (map (grant_of now))) placed ∙ grants_in_place now ports x (granted_as amac ip now key)
      ∙ ap (λ n. slice_set was.grants x.port (slice_set (grants_at_port was.grants x.port) (x.vmid - 1)
      (record { amac = amac; ip = ip; held = as_used.InUse n }))) (let e : now - now ≡ 0 = omega arith in e)
      ∙ sym (ap (λ free. slice_set was.grants x.port (with_next free (grants_at_port was.grants x.port) (new_grant amac ip))) first))
      (unused_put (stood 1 (λ e. omega arith)) (stood 0 (λ e. omega arith)))
      (other_list 2 (λ e. omega arith) ∙ stood 2 (λ e. omega arith))
      (freed_at_one orders entered (length ports) (length after) x.port put.many
      (λ q apart. ap vmids (other_list (4 + q) (λ e. omega arith) ∙ stood (4 + q) (λ e. apart (omega arith))))
      ∙ ap (slice_set was.freed x.port)
      (ap vmids (other_list (4 + x.port) (λ e. omega arith) ∙ ap (without x) freed.first
      ∙ without_first x freed.rest (subst (IsDistinct same_pmac) freed.first (order.apart (4 + x.port))))
      ∙ sym (ap all_but_first first)))

  -- a new one is granted
  pub view_new : (new : IsNew ports orders x) → after ≡ slice_set ports x.port (tenancies_of ports x.port ++ granted_as amac ip now key ∷ []) →
      (v : SwitchView) →
      address_table_in is v ≡ (grants_new (address_table_in was v) x.port amac ip x).view
  view_new new placed v =
      let listed = are_listed pod position now ports orders order in
      let others = new_is_nowhere pod position ports orders x listed (next_is_new ports x new.next) in
      let nowhere : (list : ℕ) → without x (addresses_in orders list) ≡ addresses_in orders list =
      (λ list. without_absent x (addresses_in orders list) (all_items (IsOther x) (list_at orders list)
      (all_weaker (λ pair. StandsIn pod position ports list pair × IsOther x pair.1) (λ pair. IsOther x pair.1) (λ pair both. both.1)
      (list_at orders list) (others.listed list)))) in
      let none : freed_of was x.port ≡ [] = freed_at_port orders (length ports) x.port within ∙ ap vmids new.none in
      same_parts pod position _ _ _ _ _ _ _ _ v
      (ap (map (map (grant_of now))) placed ∙ grants_behind now ports x.port (granted_as amac ip now key)
      ∙ ap (λ n. slice_set was.grants x.port (grants_at_port was.grants x.port ++ record { amac = amac; ip = ip; held = as_used.InUse n } ∷ []))
      (let e : now - now ≡ 0 = omega arith in e)
      ∙ sym (ap (λ free. slice_set was.grants x.port (with_next free (grants_at_port was.grants x.port) (new_grant amac ip))) none))
      (unused_put (nowhere 1) (nowhere 0))
      (other_list 2 (λ e. omega arith) ∙ nowhere 2)
      (freed_at_one orders entered (length ports) (length after) x.port put.many
      (λ q apart. ap vmids (other_list (4 + q) (λ e. omega arith) ∙ nowhere (4 + q)))
      ∙ ap (slice_set was.freed x.port)
      (ap vmids (other_list (4 + x.port) (λ e. omega arith) ∙ nowhere (4 + x.port) ∙ new.none)
      ∙ sym (ap all_but_first none)))
