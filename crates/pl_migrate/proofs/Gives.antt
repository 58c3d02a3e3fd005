-- Where the next address of a port is granted, the table is in order, and is seen so.
use Rattle.std.proofs.Common.{◌≡◌, ◌<◌, ◌≤◌, ◌⊎◌, ℕ, ◌+◌, ◌-◌, ◌==◌, true, false, List, [], ◌∷◌, ◌++◌, length, get_or, Option, Some, None, Result, Ok, Err, OnOk, refl, inl, inr, sym, ap, subst, ◌∙◌, arith}
use Rattle.std.specs.List.{AllByRecursion}
use Rattle.std.specs.Prelude.{OnErr, slice_set}
use Rattle.std.proofs.lemmas.List.{set-get_or}
use Rattle.std.proofs.lemmas.Option.{same_Some}
use Rattle.pl_frame.specs.declared.address.Ip4.{Ip4}
use Rattle.pl_frame.specs.declared.address.Mac.{Mac}
use Rattle.pl_pmac.specs.declared.pmac.Pmac.{Pmac}
use Rattle.pl_node.specs.SwitchViews.{SwitchView}
use Rattle.pl_pool.specs.declared.key.Key.{Key}
use Rattle.pl_pool.specs.Pool.{Lists}
use Rattle.pl_switch_rule.specs.Granting.{grants_new}
use Rattle.pl_migrate.specs.AddressTables.{AddressTableView, address_in_use, address_table_in, next_address}
use Rattle.pl_migrate.specs.Keeping.{IsCaughtUp}
use Rattle.pl_migrate.specs.Orders.{IsChanged, IsEntered}
use Rattle.pl_migrate.specs.PortGrants.{TakesPlaceOf, used_vmid}
use Rattle.pl_migrate.specs.declared.tenancy.Standing.TheVariants.{Fresh}
use Rattle.pl_migrate.specs.declared.tenancy.Tenancy.{Tenancy}
use Rattle.pl_migrate.specs.Tenancies.{AreInOrder, IsPast, is_of, table_view, tenancy_at}
use Rattle.pl_migrate.proofs.Ages.{caught_up_put}
use Rattle.pl_migrate.proofs.Entries.{next_is_new, past_behind, past_in_place, tenancies_of}
use Rattle.pl_migrate.proofs.Next.{IsFreed, IsNew, IsNextOf, granted_as, next_is, view_again, view_new}
use Rattle.pl_migrate.proofs.Placed.{IsPut, in_order_put, put_changed, put_new}
use Rattle.pl_migrate.proofs.PortUses.{unused_at}
use Rattle.pl_migrate.proofs.Stands.{in_a_list_of, many_shown}

module _ (pod position now : ℕ) (ports : List (List Tenancy)) (orders : Lists Pmac) (order : AreInOrder pod position now ports orders)
    (table : AddressTableView)
    (view : table_view pod position now ports orders ≡ table) (x : Pmac) (amac : Mac) (ip : Option Ip4) (port : x.port < length table.grants)
    (unused : address_in_use table x.port amac ≡ None) (next : next_address table x.port ≡ Some x) where
  abbrev shown : List (List Tenancy) → Lists Pmac → AddressTableView
  shown after entered = table_view pod position now after entered

  pub within : x.port < length ports
  within = subst (λ n. x.port < n) (many_shown pod position now ports orders order table view) port

  pub next_of : IsNextOf pod position ports orders x.port x
  next_of = next_is pod position now ports orders order x.port x within (ap (λ t. next_address t x.port) view ∙ next)

  pub unused_there : used_vmid (tenancies_of ports x.port) amac ≡ None
  unused_there = unused_at pod position now ports orders x.port amac (ap (λ t. address_in_use t x.port amac) view ∙ unused)

  pub record HasGiven (after : List (List Tenancy)) (entered : Lists Pmac) : Type 0 where
    pub in_order : AreInOrder pod position now after entered
    pub step : (v : SwitchView) → address_table_in (shown after entered) v ≡ (grants_new (address_table_in table v) x.port amac ip x).view
    pub caught_up : IsCaughtUp table → IsCaughtUp (shown after entered)

  -- One that is free is given again.

  freed_by : (t : Tenancy) → tenancy_at ports x ≡ Some t → IsFreed ports orders x ⊎ IsNew ports orders x → IsFreed ports orders x
  freed_by t found (inl freed) = freed
  freed_by t found (inr new) = absurd (let none = next_is_new ports x new.next in let e = sym none ∙ found in cc)

  pub takes_free_place : (t : Tenancy) (ts : List Tenancy) → ts ≡ tenancies_of ports x.port → TakesPlaceOf ts (granted_as amac ip now t.key) (Some t)
  takes_free_place t ts is = λ used. inr (ap (λ (us : List Tenancy). used_vmid us amac) is ∙ unused_there)

  pub given_again : (after : List (List Tenancy)) (entered : Lists Pmac) (t : Tenancy) → tenancy_at ports x ≡ Some t →
      IsChanged ports after orders entered x t (granted_as amac ip now t.key) → HasGiven after entered
  given_again after entered t found changed =
      let new : Tenancy = granted_as amac ip now changed.key in
      let put : IsPut pod position ports after orders entered x new =
      put_changed pod position now ports after orders entered x t (granted_as amac ip now t.key) order next_of.here found
      (in_a_list_of pod position now ports orders order x t Fresh found) changed in
      let freed = freed_by t found next_of.which in
      record {
        in_order = in_order_put pod position now ports after orders entered x new order put refl refl
            (subst (AllByRecursion (AllByRecursion (IsPast now))) (sym changed.ports) (past_in_place now ports x new (omega arith) order.past));
        step = λ v.
            view_again pod position now ports after orders entered x amac ip changed.key order within put freed changed.ports v
            ∙ ap (λ t. (grants_new (address_table_in t v) x.port amac ip x).view) view;
        caught_up = λ caught. caught_up_put pod position now ports after orders entered x new put next_of.here refl refl (subst IsCaughtUp (sym view) caught);
      }

  -- One that was never granted is given.

  new_by : tenancy_at ports x ≡ None → IsFreed ports orders x ⊎ IsNew ports orders x → IsNew ports orders x
  new_by none (inl freed) = absurd (let e = sym none ∙ freed.found in cc)
  new_by none (inr new) = new

  pub has_room : (ts : List Tenancy) → ts ≡ tenancies_of ports x.port → tenancy_at ports x ≡ None → length ts < 65535
  has_room ts is none = subst (λ (us : List Tenancy). length us < 65535) (sym is) (new_by none next_of.which).few

  pub unused_new : (ts : List Tenancy) → ts ≡ tenancies_of ports x.port → used_vmid ts amac ≡ None
  unused_new ts is = ap (λ (us : List Tenancy). used_vmid us amac) is ∙ unused_there

  pub lists_there : 4 ≤ length orders.lists
  lists_there = let e = order.lists in omega arith

  entered_by : (n : ℕ) (ts more : List Tenancy) (entered : Lists Pmac) → n ≡ x.port → ts ≡ tenancies_of ports x.port → tenancy_at ports x ≡ None →
      IsEntered ts more orders entered x amac ip now → HasGiven (slice_set ports n more) entered
  entered_by n ts more entered at is none new =
      let fresh = new_by none next_of.which in
      let same : slice_set ports n more ≡ slice_set ports x.port more = ap (λ m. slice_set ports m more) at in
      let of_port : IsEntered (tenancies_of ports x.port) more orders entered x amac ip now = subst (λ
      (us : List Tenancy). IsEntered us more orders entered x amac ip now) is new in
      let t : Tenancy = granted_as amac ip now of_port.key in
      let put : IsPut pod position ports (slice_set ports n more) orders entered x t =
      put_new pod position now ports (slice_set ports n more) more orders entered x amac ip order next_of.here within fresh.next same of_port in
      let placed : slice_set ports n more ≡ slice_set ports x.port (tenancies_of ports x.port ++ t ∷ []) = same
      ∙ ap (slice_set ports x.port) of_port.tenancies in
      record {
        in_order = in_order_put pod position now ports (slice_set ports n more) orders entered x t order put refl refl
            (subst (AllByRecursion (AllByRecursion (IsPast now))) (sym placed) (past_behind now ports x.port t (omega arith) order.past));
        step = λ v.
            view_new pod position now ports (slice_set ports n more) orders entered x amac ip of_port.key order within put fresh placed v
            ∙ ap (λ t. (grants_new (address_table_in t v) x.port amac ip x).view) view;
        caught_up = λ caught. caught_up_put pod position now ports (slice_set ports n more) orders entered x t put next_of.here refl refl (subst IsCaughtUp
            (sym view) caught);
      }

  -- without memory nothing is given
  pub nothing_given : (n : ℕ) (ts more : List Tenancy) → ts ≡ get_or ports n ts → more ≡ ts → slice_set ports n more ≡ ports
  nothing_given n ts more is same = ap (slice_set ports n) (same ∙ is) ∙ set-get_or ports n ts

  pub table_kept : (after : List (List Tenancy)) (entered : Lists Pmac) → after ≡ ports → entered ≡ orders → shown after entered ≡ table
  table_kept after entered same still = ap (λ ps. shown ps entered) same ∙ ap (shown ports) still ∙ view

  pub in_order_given : {T E : Type 0} (n : ℕ) (ts more : List Tenancy) (entered : Lists Pmac) (result : Result T E) → n ≡ x.port → ts ≡ get_or ports n ts →
      ts ≡ tenancies_of ports x.port → tenancy_at ports x ≡ None → OnOk result (IsEntered ts more orders entered x amac ip now) →
      OnErr result ((more ≡ ts) × (entered ≡ orders)) → AreInOrder pod position now (slice_set ports n more) entered
  in_order_given n ts more entered (Ok y) at read is none ok err = (entered_by n ts more entered at is none ok).in_order
  in_order_given n ts more entered (Err e) at read is none ok err =
      subst (λ ps. AreInOrder pod position now ps entered) (sym (nothing_given n ts more read err.0))
      (subst (AreInOrder pod position now ports) (sym err.1) order)

  pub step_given : {T E : Type 0} (n : ℕ) (ts more : List Tenancy) (entered : Lists Pmac) (result : Result T E) → n ≡ x.port → ts ≡ get_or ports n ts →
      ts ≡ tenancies_of ports x.port → tenancy_at ports x ≡ None → OnOk result (IsEntered ts more orders entered x amac ip now) →
      OnOk result ((v : SwitchView) → address_table_in (shown (slice_set ports n more) entered) v
      ≡ (grants_new (address_table_in table v) x.port amac ip x).view)
  step_given n ts more entered (Ok y) at read is none ok = (entered_by n ts more entered at is none ok).step
  step_given n ts more entered (Err e) at read is none ok = tt

  pub err_given : {T E : Type 0} (n : ℕ) (ts more : List Tenancy) (entered : Lists Pmac) (result : Result T E) → ts ≡ get_or ports n ts →
      OnErr result ((more ≡ ts) × (entered ≡ orders)) → OnErr result (shown (slice_set ports n more) entered ≡ table)
  err_given n ts more entered (Ok y) read err = tt
  err_given n ts more entered (Err e) read err = table_kept (slice_set ports n more) entered (nothing_given n ts more read err.0) err.1

  pub caught_up_given : {T E : Type 0} (n : ℕ) (ts more : List Tenancy) (entered : Lists Pmac) (result : Result T E) → n ≡ x.port → ts ≡ get_or ports n ts →
      ts ≡ tenancies_of ports x.port → tenancy_at ports x ≡ None → OnOk result (IsEntered ts more orders entered x amac ip now) →
      OnErr result ((more ≡ ts) × (entered ≡ orders)) → IsCaughtUp table → IsCaughtUp (shown (slice_set ports n more) entered)
  caught_up_given n ts more entered (Ok y) at read is none ok err = (entered_by n ts more entered at is none ok).caught_up
  caught_up_given n ts more entered (Err e) at read is none ok err =
      λ caught. subst IsCaughtUp (sym (table_kept (slice_set ports n more) entered (nothing_given n ts more read err.0) err.1)) caught
