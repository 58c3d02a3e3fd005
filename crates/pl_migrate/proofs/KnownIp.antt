-- An address table where a host's IPv4 address is kept for an address.
use Rattle.std.proofs.Common.{◌≡◌, ◌<◌, ◌≤◌, ℕ, ◌+◌, ◌-◌, Bool, true, false, cond, List, [], ◌∷◌, ◌++◌, length, map, Option, Some, None, refl, inl, inr, sym, ap, subst, ◌∙◌, arith}
use Rattle.std.specs.List.{AllByRecursion}
use Rattle.std.specs.Option.{option_map}
use Rattle.std.proofs.lemmas.Bool.{cases_eq}
use Rattle.std.proofs.lemmas.List.{length-set}
use Rattle.std.proofs.lemmas.Option.{same_Some}
use Rattle.pl_lemmas.proofs.Exports.{all_weaker}
use Rattle.pl_frame.specs.declared.address.Ip4.{Ip4}
use Rattle.pl_pmac.specs.declared.pmac.Pmac.{Pmac}
use Rattle.pl_node.specs.PortRecords.{ports_of_switch}
use Rattle.pl_node.specs.SwitchViews.{SwitchView}
use Rattle.pl_pool.specs.declared.key.Key.{Key}
use Rattle.pl_pool.specs.Pool.{Lists, item_at, list_at}
use Rattle.pl_switch_rule.specs.Aging.{ticks_to_probe, ticks_to_rest}
use Rattle.pl_migrate.specs.AddressTables.{AddressTableView, address_table_in, granted_in, use_of, with_ip}
use Rattle.pl_migrate.specs.Keeping.{IsCaughtUp, ticks_as, ticks_in, ticks_since}
use Rattle.pl_migrate.specs.declared.tenancy.Tenancy.{Tenancy}
use Rattle.pl_migrate.specs.Orders.{with_tenancy}
use Rattle.pl_migrate.specs.Tenancies.{AreInOrder, DoRise, StandsIn, addresses_in, freed_in, grant_of, is_of, list_of, since_of, table_view, tenancy_at, use_after}
use Rattle.pl_migrate.proofs.Ages.{granted_is, granted_of}
use Rattle.pl_migrate.proofs.Entries.{IsSet, past_in_place, past_of, set_in_place, tenancies_of}
use Rattle.pl_migrate.proofs.Numbers.{at_number}
use Rattle.pl_migrate.proofs.Placed.{all_always, rises_same, since_in_place}
use Rattle.pl_migrate.proofs.Views.{grants_in_place}

abbrev pub of_ip : Tenancy → Ip4 → Tenancy
of_ip old ip = record old { ip = Some ip }

module _ (pod position now : ℕ) (ports : List (List Tenancy)) (orders : Lists Pmac) (x : Pmac) (old : Tenancy) (ip : Ip4)
    (order : AreInOrder pod position now ports orders) (found : tenancy_at ports x ≡ Some old) where
  abbrev after : List (List Tenancy)
  after = with_tenancy ports x (of_ip old ip)

  set : IsSet ports after x (of_ip old ip)
  set = set_in_place ports x old (of_ip old ip) found

  many : length after ≡ length ports
  many = length-set ports x.port _

  -- what is kept of an address before and now is the same but for that
  record IsAlike (was is : Option Tenancy) : Type 0 where
    pub standing : option_map (λ (t : Tenancy). t.standing) is ≡ option_map (λ (t : Tenancy). t.standing) was
    pub since : option_map (λ (t : Tenancy). t.since) is ≡ option_map (λ (t : Tenancy). t.since) was
    pub key : option_map (λ (t : Tenancy). t.key) is ≡ option_map (λ (t : Tenancy). t.key) was

  alike : (y : Pmac) → IsAlike (tenancy_at ports y) (tenancy_at after y)
  alike y = elim (cases_eq y.port x.port) [
    | inl port ↦ elim (cases_eq y.vmid x.vmid) [
      | inl vmid ↦
          let here : (ps : List (List Tenancy)) → tenancy_at ps y ≡ tenancy_at ps x =
          (λ ps. ap (λ n. at_number (tenancies_of ps n) y.vmid) port ∙ ap (λ n. at_number (tenancies_of ps x.port) n) vmid) in
          subst (λ o. IsAlike o (tenancy_at after y)) (sym (here ports ∙ found))
          (subst (λ o. IsAlike (Some old) o) (sym (here after ∙ set.there)) (record { standing = refl; since = refl; key = refl }))
      | inr apart ↦ subst (λ o. IsAlike (tenancy_at ports y) o) (sym (set.others y (λ e. apart))) (record { standing = refl; since = refl; key = refl })
    ]
    | inr apart ↦ subst (λ o. IsAlike (tenancy_at ports y) o) (sym (set.others y (λ e f. apart e))) (record { standing = refl; since = refl; key = refl })
  ]

  -- The table is in order.

  placed_by : (y : Pmac) (t : Tenancy) (was : Option Tenancy) → is_of pod position y ≡ true → tenancy_at ports y ≡ was → IsAlike was (Some t) →
      item_at (list_at orders (list_of y.port t.standing)) t.key ≡ Some y
  placed_by y t None here was like = absurd (let e = like.key in cc)
  placed_by y t (Some t0) here was like =
      ap (λ s. item_at (list_at orders (list_of y.port s)) t.key) (same_Some _ _ like.standing)
      ∙ ap (λ (k : Key). item_at (list_at orders (list_of y.port t0.standing)) k) (same_Some _ _ like.key) ∙ order.placed y t0 here was

  stands_by : (list : ℕ) (pair : Key × Pmac) (stands : StandsIn pod position ports list pair) (is : Option Tenancy) → tenancy_at after pair.1 ≡ is →
      IsAlike (Some stands.tenancy) is → StandsIn pod position after list pair
  stands_by list pair stands None is like = absurd (let e = like.key in cc)
  stands_by list pair stands (Some t) is like = record {
    here = stands.here;
    tenancy = t;
    found = is;
    key = same_Some _ _ like.key ∙ stands.key;
    list_is = stands.list_is ∙ sym (ap (λ s. list_of pair.1.port s) (same_Some _ _ like.standing));
  }

  still_stands : (list : ℕ) (pair : Key × Pmac) → StandsIn pod position ports list pair → StandsIn pod position after list pair
  still_stands list pair stands =
      stands_by list pair stands (tenancy_at after pair.1) refl (subst (λ o. IsAlike o (tenancy_at after pair.1)) stands.found (alike pair.1))

  same_since : (y : Pmac) → since_of after y ≡ since_of ports y
  same_since y = since_in_place ports after x old (of_ip old ip) set found refl y

  pub in_order_ip : AreInOrder pod position now after orders
  in_order_ip = record {
    few = subst (λ n. n ≤ 255) (sym many) order.few;
    lists = order.lists ∙ ap (λ n. 4 + n) (sym many);
    placed = λ y t here at. placed_by y t (tenancy_at ports y) here refl (subst (IsAlike (tenancy_at ports y)) at (alike y));
    listed = λ list. all_weaker (StandsIn pod position ports list) (StandsIn pod position after list) (still_stands list) (list_at orders list)
        (order.listed list);
    apart = order.apart;
    past = past_in_place now ports x (of_ip old ip) (past_of now ports x old order.past found) order.past;
    used = rises_same (since_of ports) (since_of after) (addresses_in orders 1 ++ addresses_in orders 0)
        (all_always (λ y. since_of after y ≡ since_of ports y) same_since (addresses_in orders 1 ++ addresses_in orders 0)) order.used;
    trapped = rises_same (since_of ports) (since_of after) (addresses_in orders 2)
        (all_always (λ y. since_of after y ≡ since_of ports y) same_since (addresses_in orders 2)) order.trapped;
  }

  -- And so it is seen.

  abbrev was_table : AddressTableView
  was_table = table_view pod position now ports orders

  abbrev is_table : AddressTableView
  is_table = table_view pod position now after orders

  pub view_ip : is_of pod position x ≡ true → (v : SwitchView) →
      address_table_in is_table v ≡ with_ip (address_table_in was_table v) x ip (granted_in was_table x)
  view_ip here v =
      ap (λ n. record (address_table_in is_table v) { freed = map (freed_in orders) (ports_of_switch n) }) many
      ∙ ap (λ grants. record (address_table_in was_table v) { grants = grants }) (grants_in_place now ports x (of_ip old ip))
      ∙ sym (ap (with_ip (address_table_in was_table v) x ip) (granted_of pod position now ports orders x old here found))

  same_held : (here : Bool) (was is : Option Tenancy) → IsAlike was is →
      ticks_since (use_of (cond here (option_map (grant_of now) is) None)) ≡ ticks_since (use_of (cond here (option_map (grant_of now) was) None))
  same_held false was is like = refl
  same_held true None None like = refl
  same_held true None (Some t) like = absurd (let e = like.key in cc)
  same_held true (Some t0) None like = absurd (let e = like.key in cc)
  same_held true (Some t0) (Some t) like =
      ap (λ s. ticks_as (use_after (now - t.since) s)) (same_Some _ _ like.standing)
      ∙ ap (λ n. ticks_as (use_after (now - n) t0.standing)) (same_Some _ _ like.since)

  same_ticks : (y : Pmac) → ticks_in is_table y ≡ ticks_in was_table y
  same_ticks y =
      ap (λ o. ticks_since (use_of o)) (granted_is pod position now after orders y)
      ∙ same_held (is_of pod position y) (tenancy_at ports y) (tenancy_at after y) (alike y)
      ∙ sym (ap (λ o. ticks_since (use_of o)) (granted_is pod position now ports orders y))

  pub caught_up_ip : IsCaughtUp was_table → IsCaughtUp is_table
  caught_up_ip caught = record {
    fresh = all_weaker (λ y. ticks_in was_table y < ticks_to_probe) (λ y. ticks_in is_table y < ticks_to_probe)
        (λ y young. let e = same_ticks y in omega arith) (addresses_in orders 0) caught.fresh;
    asked = all_weaker (λ y. (ticks_to_probe ≤ ticks_in was_table y) × (ticks_in was_table y < ticks_to_rest))
        (λ y. (ticks_to_probe ≤ ticks_in is_table y) × (ticks_in is_table y < ticks_to_rest))
        (λ y both. let e = same_ticks y in let low = both.0 in let high = both.1 in (omega arith, omega arith)) (addresses_in orders 1) caught.asked;
    trapped = all_weaker (λ y. ticks_in was_table y < ticks_to_rest) (λ y. ticks_in is_table y < ticks_to_rest)
        (λ y young. let e = same_ticks y in omega arith) (addresses_in orders 2) caught.trapped;
  }
