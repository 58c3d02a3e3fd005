-- The host of an address is asked: it moves to the end of those whose hosts were asked.
use Rattle.std.proofs.Common.{◌≡◌, ◌<◌, ◌≤◌, ◌⊎◌, ℕ, ◌+◌, ◌-◌, ◌==◌, true, false, cond, List, [], ◌∷◌, ◌++◌, length, map, get_or, Option, Some, None, refl, inl, inr, sym, ap, subst, ◌∙◌, arith}
use Rattle.std.specs.List.{AllByRecursion, IsDistinct}
use Rattle.std.specs.Prelude.{slice_index_or, slice_set}
use Rattle.std.proofs.lemmas.Bool.{ne_eqb}
use Rattle.std.proofs.lemmas.List.{append-nil, set-get_or}
use Rattle.std.proofs.lemmas.Option.{get_or_from_slice_get, same_Some}
use Rattle.pl_pmac.specs.declared.pmac.Pmac.{Pmac}
use Rattle.pl_layouts.specs.Equality.{same_pmac}
use Rattle.pl_node.specs.declared.switch_records.Grant.{Grant}
use Rattle.pl_pool.specs.declared.key.Key.{Key}
use Rattle.pl_pool.specs.Pool.{Lists}
use Rattle.pl_switch_rule.specs.Aging.{ticks_to_probe}
use Rattle.pl_switch_rule.specs.Granting.{without}
use Rattle.pl_migrate.specs.AddressTables.{AddressTableView}
use Rattle.pl_migrate.specs.Keeping.{IsToBeAsked, IsYoung, ticks_in}
use Rattle.pl_migrate.specs.Orders.{IsChanged, with_tenancy}
use Rattle.pl_migrate.specs.declared.tenancy.Standing.{Standing}
use Rattle.pl_migrate.specs.declared.tenancy.Standing.TheVariants.{Fresh, Asked, Trapped, Resting, Free}
use Rattle.pl_migrate.specs.declared.tenancy.Tenancy.{Tenancy}
use Rattle.pl_migrate.specs.Tenancies.{AreInOrder, IsDue, IsPast, addresses_in, freed_in, grant_of, is_of, is_used_so, list_of, table_view, tenancy_at, use_after}
use Rattle.pl_migrate.proofs.Ages.{IsIn, ticks_listed}
use Rattle.pl_migrate.proofs.Due.{IsFirstDue, first_due, first_is_in, lasted_in, young_in}
use Rattle.pl_migrate.proofs.Entries.{IsSet, get_or_map, is_kept, past_in_place, past_of, set_in_place, tenancies_of}
use Rattle.pl_migrate.proofs.Listed.{absent_elsewhere, are_listed}
use Rattle.pl_migrate.proofs.Pairs.{without_first}
use Rattle.pl_migrate.proofs.Placed.{IsPut, in_order_asked, put_changed}
use Rattle.pl_migrate.proofs.Views.{freed_nowhere, grants_at_port, grants_in_place, grants_of_port}

abbrev pub asked_as : Tenancy → Key → Tenancy
asked_as old key = record old { standing = Asked; key = key }

fresh_standing : (port : ℕ) (standing : Standing) → 0 ≡ list_of port standing → standing ≡ Fresh
fresh_standing port Fresh is = refl
fresh_standing port Asked is = absurd (omega arith)
fresh_standing port (Trapped trap) is = absurd (omega arith)
fresh_standing port (Resting number) is = absurd (omega arith)
fresh_standing port Free is = absurd (omega arith)

module _ (pod position now : ℕ) (ports : List (List Tenancy)) (orders : Lists Pmac) (order : AreInOrder pod position now ports orders)
    (table : AddressTableView)
    (view : table_view pod position now ports orders ≡ table) where
  abbrev shown : List (List Tenancy) → Lists Pmac → AddressTableView
  shown after entered = table_view pod position now after entered

  pub none_to_ask : IsDue ports (addresses_in orders 0) now ticks_to_probe None → IsYoung table ticks_to_probe table.fresh
  none_to_ask due = subst (λ (t : AddressTableView). IsYoung t ticks_to_probe t.fresh) view (young_in pod position now ports orders order 0
      (omega arith) ticks_to_probe due)

  -- what is known of the one that is due
  pub record IsToAsk (x : Pmac) (t : Tenancy) : Type 0 where
    pub here : is_of pod position x ≡ true
    pub found : tenancy_at ports x ≡ Some t
    pub fresh : t.standing ≡ Fresh
    pub rest : List Pmac
    pub first : addresses_in orders 0 ≡ x ∷ rest
    pub due : ticks_to_probe ≤ ticks_in (shown ports orders) x

  pub to_ask : (found : Pmac × Tenancy) → IsDue ports (addresses_in orders 0) now ticks_to_probe (Some found) → IsToAsk found.0 found.1
  to_ask found due =
      let first = first_due ports (addresses_in orders 0) now ticks_to_probe found due in
      let is = first_is_in pod position now ports orders order 0 found.0 first.rest first.first in
      let same : is.tenancy ≡ found.1 = same_Some _ _ (sym is.found ∙ first.tenancy) in
      record {
        here = is.here;
        found = first.tenancy;
        fresh = fresh_standing found.0.port found.1.standing (is.list_is ∙ ap (λ (t : Tenancy). list_of found.0.port t.standing) same);
        rest = first.rest;
        first = first.first;
        due = lasted_in pod position now ports orders order 0 ticks_to_probe found (omega arith) first;
      }

  pub lists_there : (n : ℕ) → n < 4 → n < length orders.lists
  lists_there n low = let e = order.lists in omega arith

  pub is_used : (x : Pmac) (t : Tenancy) → IsToAsk x t → is_used_so t.standing ≡ true
  is_used x t ask = ap is_used_so ask.fresh

  pub from_there : (x : Pmac) (t : Tenancy) → IsToAsk x t → list_of x.port t.standing < length orders.lists
  from_there x t ask = subst (λ s. list_of x.port s < length orders.lists) (sym ask.fresh) (lists_there 0 (omega arith))

  pub record HasAsked (after : List (List Tenancy)) (entered : Lists Pmac) (x : Pmac) : Type 0 where
    pub in_order : AreInOrder pod position now after entered
    pub becomes : IsToBeAsked table (shown after entered) x

  same_grant : (t : Tenancy) (key : Key) → t.standing ≡ Fresh → grant_of now (asked_as t key) ≡ grant_of now t
  same_grant t key fresh = sym (ap (λ s. record { amac = t.amac; ip = t.ip; held = use_after (now - t.since) s }) fresh)

  -- what is read of an address, and written there again
  read_grant : (x : Pmac) (t : Tenancy) → tenancy_at ports x ≡ Some t → get_or (grants_at_port (map (map (grant_of now)) ports) x.port) (x.vmid - 1)
      (grant_of now t) ≡ grant_of now t
  read_grant x t found =
      ap (λ (gs : List Grant). get_or gs (x.vmid - 1) (grant_of now t)) (grants_of_port now ports x.port)
      ∙ get_or_map (grant_of now) (tenancies_of ports x.port) (x.vmid - 1) t
      ∙ ap (grant_of now) (get_or_from_slice_get (tenancies_of ports x.port) (x.vmid - 1) t t (is_kept ports x t found).number.at)

  module _ (after : List (List Tenancy)) (entered : Lists Pmac) (x : Pmac) (t : Tenancy) (ask : IsToAsk x t)
      (changed : IsChanged ports after orders entered x t (asked_as t t.key)) where
    put : IsPut pod position ports after orders entered x (asked_as t changed.key)
    put = put_changed pod position now ports after orders entered x t (asked_as t t.key) order ask.here ask.found (lists_there 1 (omega arith)) changed

    away : (list : ℕ) → (list ≡ 0 → ⊥) → without x (addresses_in orders list) ≡ addresses_in orders list
    away list apart = absent_elsewhere pod position ports orders x t (are_listed pod position now ports orders order) ask.found list
        (λ e. apart (e ∙ ap (list_of x.port) ask.fresh))

    still_in : (list : ℕ) → (list ≡ 0 → ⊥) → (list == 1) ≡ false → addresses_in entered list ≡ addresses_in orders list
    still_in list apart other =
        put.addresses list ∙ ap (λ b. without x (addresses_in orders list) ++ cond b (x ∷ []) []) other
        ∙ append-nil (without x (addresses_in orders list)) ∙ away list apart

    fresh_rest : addresses_in entered 0 ≡ ask.rest
    fresh_rest =
        put.addresses 0 ∙ append-nil (without x (addresses_in orders 0)) ∙ ap (without x) ask.first
        ∙ without_first x ask.rest (subst (IsDistinct same_pmac) ask.first (order.apart 0))

    asked_more : addresses_in entered 1 ≡ addresses_in orders 1 ++ x ∷ []
    asked_more = put.addresses 1 ∙ ap (λ xs. xs ++ x ∷ []) (away 1 (λ e. omega arith))

    -- the grants are the same
    same_grants : map (map (grant_of now)) after ≡ map (map (grant_of now)) ports
    same_grants =
        let grants : List (List Grant) = map (map (grant_of now)) ports in
        ap (map (map (grant_of now))) changed.ports ∙ grants_in_place now ports x (asked_as t changed.key)
        ∙ ap (λ (g : Grant). slice_set grants x.port (slice_set (grants_at_port grants x.port) (x.vmid - 1) g)) (same_grant t changed.key ask.fresh
        ∙ sym (read_grant x t ask.found))
        ∙ ap (slice_set grants x.port) (set-get_or (grants_at_port grants x.port) (x.vmid - 1) (grant_of now t))
        ∙ set-get_or grants x.port []

    same_freed : (shown after entered).freed ≡ (shown ports orders).freed
    same_freed = freed_nowhere orders entered (length ports) (length after) put.many
        (λ q. ap (λ xs. map (λ (y : Pmac). y.vmid) xs) (still_in (4 + q) (λ e. omega arith) (ne_eqb (4 + q) 1 (λ e. omega arith))))

    asked_here : IsToBeAsked (shown ports orders) (shown after entered) x
    asked_here = record {
      first = ask.first ∙ ap (λ xs. x ∷ xs) (sym fresh_rest);
      due = ask.due;
      becomes = λ i. record {
        pod = pod;
        position = position;
        grants = same_grants i;
        asked = asked_more i;
        fresh = (shown after entered).fresh;
        trapped = still_in 2 (λ e. omega arith) refl i;
        freed = same_freed i;
      };
    }

    pub has_asked : HasAsked after entered x
    has_asked = record {
      in_order = in_order_asked pod position now ports after orders entered x t (asked_as t changed.key) ask.rest order put
          (subst (λ ps. IsSet ports ps x (asked_as t changed.key)) (sym changed.ports) (set_in_place ports x t (asked_as t changed.key) ask.found))
          ask.found refl refl ask.first (away 1 (λ e. omega arith)) (away 2 (λ e. omega arith))
          (subst (AllByRecursion (AllByRecursion (IsPast now))) (sym changed.ports)
          (past_in_place now ports x (asked_as t changed.key) (past_of now ports x t order.past ask.found) order.past));
      becomes = subst (λ u. IsToBeAsked u (shown after entered) x) view asked_here;
    }
