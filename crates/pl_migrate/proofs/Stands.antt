-- Where what an address is used for changes, or a host's IPv4 address is kept for it, the table is in order, and is seen so.
use Rattle.std.proofs.Common.{◌≡◌, ◌≢◌, ◌<◌, ◌≤◌, ◌⊎◌, ℕ, ◌+◌, ◌-◌, ◌==◌, Bool, true, false, cond, List, [], ◌∷◌, ◌++◌, length, map, get_or, Option, Some, None, is_some, refl, inl, inr, sym, ap, subst, ◌∙◌, arith}
use Rattle.std.specs.List.{AllByRecursion}
use Rattle.std.specs.Option.{option_map}
use Rattle.std.specs.Prelude.{IsSome, slice_index_or, slice_set}
use Rattle.std.proofs.lemmas.Bool.{ne_eqb}
use Rattle.std.proofs.lemmas.List.{append-nil, get_or_read, length-map}
use Rattle.pl_frame.specs.declared.address.Ip4.{Ip4}
use Rattle.pl_pmac.specs.declared.pmac.Pmac.{Pmac}
use Rattle.pl_node.specs.declared.switch_records.Grant.{Grant}
use Rattle.pl_node.specs.SwitchViews.{SwitchView}
use Rattle.pl_pool.specs.declared.key.Key.{Key}
use Rattle.pl_pool.specs.Pool.{Lists, item_at, list_at}
use Rattle.pl_switch_rule.specs.Granting.{without}
use Rattle.pl_migrate.specs.AddressTables.{AddressTableView, address_table_in, granted_in, with_ip}
use Rattle.pl_migrate.specs.Keeping.{IsCaughtUp}
use Rattle.pl_migrate.specs.Orders.{IsChanged, with_tenancy}
use Rattle.pl_migrate.specs.PortGrants.{TakesPlaceOf}
use Rattle.pl_migrate.specs.Standings.{CanStandAs, CanStandSo, stands_so}
use Rattle.pl_migrate.specs.declared.tenancy.Standing.{Standing}
use Rattle.pl_migrate.specs.declared.tenancy.Standing.TheVariants.{Fresh, Asked, Trapped, Resting, Free}
use Rattle.pl_migrate.specs.declared.tenancy.Tenancy.{Tenancy}
use Rattle.pl_migrate.specs.Tenancies.{AreInOrder, IsPast, addresses_in, grant_of, is_of, list_of, table_view, tenancy_at, tenancy_number}
use Rattle.pl_migrate.proofs.Ages.{caught_up_put, granted_is, granted_of, others_granted}
use Rattle.pl_migrate.proofs.Entries.{is_kept, past_in_place, tenancies_of}
use Rattle.pl_migrate.proofs.KnownIp.{caught_up_ip, in_order_ip, of_ip, view_ip}
use Rattle.pl_migrate.proofs.Placed.{IsPut, in_order_put, put_changed}
use Rattle.pl_migrate.proofs.PortUses.{stands_in_place}
use Rattle.pl_migrate.proofs.Views.{standing_now, stands_now}

-- What is read of a port.
pub read_port : (ports : List (List Tenancy)) (n port : ℕ) (ts : List Tenancy) → ts ≡ get_or ports n ts → n ≡ port → port < length ports →
    ts ≡ tenancies_of ports port
read_port ports n port ts is same within =
    get_or_read ports n ts (subst (λ m. m < length ports) (sym same) within) is [] ∙ ap (tenancies_of ports) same

-- and what is written there
pub written : (ports : List (List Tenancy)) (n : ℕ) (x : Pmac) (ts more : List Tenancy) (t : Tenancy) → n ≡ x.port → ts ≡ tenancies_of ports x.port →
    more ≡ slice_set ts (x.vmid - 1) t → slice_set ports n more ≡ with_tenancy ports x t
written ports n x ts more t at is new =
    ap (λ m. slice_set ports m more) at ∙ ap (slice_set ports x.port) (new ∙ ap (λ (us : List Tenancy). slice_set us (x.vmid - 1) t) is)

pub list_within : (port many : ℕ) (standing : Standing) → port < many → list_of port standing < 4 + many
list_within port many Fresh within = omega arith
list_within port many Asked within = omega arith
list_within port many (Trapped trap) within = omega arith
list_within port many (Resting number) within = omega arith
list_within port many Free within = omega arith

unasked : (port : ℕ) (standing : Standing) (grant : Grant) → CanStandAs standing grant → (1 == list_of port standing) ≡ false
unasked port Fresh grant can = refl
unasked port Asked grant can = absurd can
unasked port (Trapped trap) grant can = refl
unasked port (Resting number) grant can = refl
unasked port Free grant can = ne_eqb 1 (4 + port) (λ e. omega arith)

module _ (pod position now : ℕ) (ports : List (List Tenancy)) (orders : Lists Pmac) (order : AreInOrder pod position now ports orders) where
  abbrev shown : List (List Tenancy) → Lists Pmac → AddressTableView
  shown after entered = table_view pod position now after entered

  pub many_shown : (table : AddressTableView) → shown ports orders ≡ table → length table.grants ≡ length ports
  many_shown table view = sym (ap (λ (t : AddressTableView). length t.grants) view) ∙ length-map ports (map (grant_of now))

  pub in_a_list_of : (x : Pmac) (t : Tenancy) (standing : Standing) → tenancy_at ports x ≡ Some t → list_of x.port standing < length orders.lists
  in_a_list_of x t standing found =
      subst (λ n. list_of x.port standing < n) (sym order.lists) (list_within x.port (length ports) standing (is_kept ports x t found).within)

  -- What an address is used for changes.

  -- what is known of an address that may be used so
  pub record MayStand (x : Pmac) (t : Tenancy) (standing : Standing) : Type 0 where
    pub here : is_of pod position x ≡ true
    pub can : CanStandAs standing (grant_of now t)

  can_by : (x : Pmac) (t : Tenancy) (standing : Standing) (b : Bool) → is_of pod position x ≡ b →
      CanStandSo standing (cond b (Some (grant_of now t)) None) → MayStand x t standing
  can_by x t standing true here can = record { here = here; can = can }
  can_by x t standing false here can = absurd can

  pub may_stand : (table : AddressTableView) (x : Pmac) (t : Tenancy) (standing : Standing) → shown ports orders ≡ table → tenancy_at ports x ≡ Some t →
      CanStandSo standing (granted_in table x) → MayStand x t standing
  may_stand table x t standing view found can =
      can_by x t standing (is_of pod position x) refl
      (subst (CanStandSo standing)
      (sym (ap (λ u. granted_in u x) view) ∙ granted_is pod position now ports orders x
      ∙ ap (λ o. cond (is_of pod position x) (option_map (grant_of now) o) None) found) can)

  cannot_by : (standing : Standing) (b : Bool) → CanStandSo standing (cond b None None) → ⊥
  cannot_by standing true can = can
  cannot_by standing false can = can

  pub cannot_stand : (table : AddressTableView) (x : Pmac) (standing : Standing) → shown ports orders ≡ table → tenancy_at ports x ≡ None →
      CanStandSo standing (granted_in table x) → ⊥
  cannot_stand table x standing view none can =
      cannot_by standing (is_of pod position x)
      (subst (CanStandSo standing)
      (sym (ap (λ u. granted_in u x) view) ∙ granted_is pod position now ports orders x
      ∙ ap (λ o. cond (is_of pod position x) (option_map (grant_of now) o) None) none) can)

  pub takes_place : (x : Pmac) (t : Tenancy) (standing : Standing) (ts : List Tenancy) → MayStand x t standing →
      TakesPlaceOf ts (standing_now t standing now t.key) (Some t)
  takes_place x t standing ts may = stands_in_place (now - t.since) ts t (standing_now t standing now t.key) (grant_of now t) refl refl may.can

  pub record HasStood (table : AddressTableView) (after : List (List Tenancy)) (entered : Lists Pmac) (x : Pmac) (standing : Standing) : Type 0 where
    pub in_order : AreInOrder pod position now after entered
    pub asked : (shown after entered).asked ≡ without x table.asked
    pub step : (v : SwitchView) → address_table_in (shown after entered) v ≡ stands_so standing (address_table_in table v) x (granted_in table x)
    pub others : (other : Pmac) → other ≢ x → granted_in (shown after entered) other ≡ granted_in table other
    pub caught_up : IsCaughtUp table → IsCaughtUp (shown after entered)

  stood : (after : List (List Tenancy)) (entered : Lists Pmac) (x : Pmac) (t : Tenancy) (standing : Standing) → tenancy_at ports x ≡ Some t →
      MayStand x t standing →
      IsChanged ports after orders entered x t (standing_now t standing now t.key) → HasStood (shown ports orders) after entered x standing
  stood after entered x t standing found may changed =
      let new : Tenancy = standing_now t standing now changed.key in
      let put : IsPut pod position ports after orders entered x new =
      put_changed pod position now ports after orders entered x t (standing_now t standing now t.key) order may.here found
      (in_a_list_of x t standing found) changed in
      let not_asked = unasked x.port standing (grant_of now t) may.can in
      record {
        in_order = in_order_put pod position now ports after orders entered x new order put refl not_asked
            (subst (AllByRecursion (AllByRecursion (IsPast now))) (sym changed.ports) (past_in_place now ports x new (omega arith) order.past));
        asked = put.addresses 1 ∙ ap (λ b. without x (addresses_in orders 1) ++ cond b (x ∷ []) []) not_asked ∙ append-nil (without x (addresses_in orders 1));
        step = λ v.
            stands_now pod position now ports after orders entered x t standing changed.key order found may.can put changed.ports
            (is_kept ports x t found).within v
            ∙ sym (ap (stands_so standing (address_table_in (shown ports orders) v) x) (granted_of pod position now ports orders x t may.here found));
        others = others_granted pod position now ports after orders entered x new put;
        caught_up = caught_up_put pod position now ports after orders entered x new put may.here refl not_asked;
      }

  pub has_stood : (table : AddressTableView) (after : List (List Tenancy)) (entered : Lists Pmac) (x : Pmac) (t : Tenancy) (standing : Standing) →
      shown ports orders ≡ table →
      tenancy_at ports x ≡ Some t → CanStandSo standing (granted_in table x) → IsChanged ports after orders entered x t (standing_now t standing now t.key) →
      HasStood table after entered x standing
  has_stood table after entered x t standing view found can changed =
      subst (λ u. HasStood u after entered x standing) view
      (stood after entered x t standing found (may_stand table x t standing view found can) changed)

  -- A host's IPv4 address is kept for an address.

  some_by : (x : Pmac) (b : Bool) (o : Option Tenancy) → is_of pod position x ≡ b → IsSome (cond b (option_map (grant_of now) o) None) →
      is_of pod position x ≡ true
  some_by x true o here some = here
  some_by x false o here some = absurd (let e : false ≡ true = some in cc)

  pub is_here_of : (table : AddressTableView) (x : Pmac) → shown ports orders ≡ table → IsSome (granted_in table x) → is_of pod position x ≡ true
  is_here_of table x view some =
      some_by x (is_of pod position x) (tenancy_at ports x) refl
      (subst (λ (o : Option Grant). IsSome o) (sym (ap (λ u. granted_in u x) view) ∙ granted_is pod position now ports orders x) some)

  none_by : (b : Bool) → IsSome (cond b (option_map (grant_of now) None) None) → ⊥
  none_by true some = let e : false ≡ true = some in cc
  none_by false some = let e : false ≡ true = some in cc

  pub never_none : (table : AddressTableView) (x : Pmac) → shown ports orders ≡ table → tenancy_at ports x ≡ None → IsSome (granted_in table x) → ⊥
  never_none table x view none some =
      none_by (is_of pod position x)
      (subst (λ (o : Option Grant). IsSome o)
      (sym (ap (λ u. granted_in u x) view) ∙ granted_is pod position now ports orders x
      ∙ ap (λ o. cond (is_of pod position x) (option_map (grant_of now) o) None) none) some)

  pub takes_own_place : (x : Pmac) (t : Tenancy) (ip : Ip4) (ts : List Tenancy) → tenancy_at ports x ≡ Some t → ts ≡ tenancies_of ports x.port →
      TakesPlaceOf ts (of_ip t ip) (tenancy_number ts x.vmid)
  takes_own_place x t ip ts found is =
      subst (TakesPlaceOf ts (of_ip t ip)) (sym (ap (λ (us : List Tenancy). tenancy_number us x.vmid) is ∙ found)) (λ used. inl (refl, used))

  pub record HasIpKept (table : AddressTableView) (after : List (List Tenancy)) (x : Pmac) (ip : Ip4) : Type 0 where
    pub in_order : AreInOrder pod position now after orders
    pub step : (v : SwitchView) → address_table_in (shown after orders) v ≡ with_ip (address_table_in table v) x ip (granted_in table x)
    pub caught_up : IsCaughtUp table → IsCaughtUp (shown after orders)

  pub has_ip_kept : (table : AddressTableView) (after : List (List Tenancy)) (x : Pmac) (t : Tenancy) (ip : Ip4) → shown ports orders ≡ table →
      tenancy_at ports x ≡ Some t →
      IsSome (granted_in table x) → after ≡ with_tenancy ports x (of_ip t ip) → HasIpKept table after x ip
  has_ip_kept table after x t ip view found some is =
      subst (λ ps. HasIpKept table ps x ip) (sym is)
      (subst (λ u. HasIpKept u (with_tenancy ports x (of_ip t ip)) x ip) view (record {
        in_order = in_order_ip pod position now ports orders x t ip order found;
        step = view_ip pod position now ports orders x t ip order found (is_here_of table x view some);
        caught_up = caught_up_ip pod position now ports orders x t ip order found;
      }))
