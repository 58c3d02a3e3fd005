-- What a tick makes of an address table is what the rule says: who is probed, and what comes to rest.
use Rattle.std.proofs.Common.{◌≡◌, ◌≢◌, ◌<◌, ◌≤◌, ◌⊎◌, ℕ, ◌+◌, ◌==◌, Bool, true, false, cond, not, List, [], ◌∷◌, ◌++◌, length, map, Option, Some, None, Result, Ok, Err, IsOk, OnOk, is_ok, is_some, refl, inl, inr, sym, ap, subst, ◌∙◌, append_assoc, arith}
use Rattle.std.specs.List.{AllByRecursion, filter, flat_map, slice_get}
use Rattle.std.proofs.lemmas.Bool.{both_ways, cond-true, eq-eqb, ne_eqb}
use Rattle.std.proofs.lemmas.List.{append-nil, flat_map_more, map_push}
use Rattle.std.proofs.lemmas.List.Elements.{filter-append}
use Rattle.pl_lemmas.proofs.Exports.{all_append, all_behind, all_filter, all_front, all_push, all_weaker}
use Rattle.pl_pmac.specs.declared.pmac.Pmac.{Pmac}
use Rattle.pl_layouts.specs.Equality.{same_pmac}
use Rattle.pl_layouts.proofs.Exports.{pmac_itself}
use Rattle.pl_node.specs.AddressUses.{is_in_use, standing_trap}
use Rattle.pl_node.specs.declared.acts.Act.{Act}
use Rattle.pl_node.specs.declared.acts.Act.TheVariants.{Tell}
use Rattle.pl_node.specs.declared.address_use.AddressUse.{AddressUse}
use Rattle.pl_node.specs.declared.address_use.AddressUse.TheVariants.{InUse, Trapped, Resting, Free}
use Rattle.pl_node.specs.declared.messages.ToManager.TheVariants.{Aged}
use Rattle.pl_node.specs.declared.switch_records.Grant.{Grant}
use Rattle.pl_node.specs.SwitchViews.{SwitchView}
use Rattle.pl_steps.specs.Steps.{SwitchStep, does, rests, ◌▹◌}
use Rattle.pl_steps.specs.Taken.{IsTaken, IsTakenByPart}
use Rattle.pl_switch_rule.specs.Aging.{ages, ages_out, all_age_out, is_held_so, is_idle_for, is_trapped_for, probe_of, probes_idle, ticks_to_probe, ticks_to_rest, to_probe, to_rest, with_older}
use Rattle.pl_switch_rule.specs.Delivering.{grant_trap}
use Rattle.pl_switch_rule.specs.Granting.{granted, without}
use Rattle.pl_switch_rule.specs.Messages.{probes, probes_at}
use Rattle.pl_delivery.proofs.Views.{any_view}
use Rattle.pl_migrate.specs.AddressTables.{AddressTableView, address_table_in, granted_in, is_address_in_use, is_used, trap_in, use_of}
use Rattle.pl_migrate.specs.Keeping.{DoFall, FallDueInOrder, IsAged, IsCaughtUp, IsOlder, IsToBeAsked, IsYoung, KeepsGrants, NothingIsDue, ticks_as, ticks_in, ticks_since}
use Rattle.pl_delivery.specs.Aging.{ComeToRest, Probes, TellsAged, probes_of, told_aged}
use Rattle.pl_delivery.proofs.Filters.{HasFirst, IsOther, absent_without, all_both, all_pass, first_gone, has_first, no_longer, none_pass, same_pass, was_absent, without_absent}

-- Ages.

idle_so : (n : ℕ) (o : Option Grant) → is_used o ≡ true → is_held_so (is_idle_for n) o ≡ (ticks_since (use_of o) == n)
idle_so n None used = absurd (let e = used in cc)
idle_so n (Some grant) used = by grant.held used
  where
    by : (held : AddressUse) → is_in_use held ≡ true → is_idle_for n held ≡ (ticks_as held == n)
    by (InUse idle) used = refl
    by (Trapped trap age) used = absurd (let e = used in cc)
    by (Resting number) used = absurd (let e = used in cc)
    by Free used = absurd (let e = used in cc)

trapped_so : (n : ℕ) (o : Option Grant) → is_some (grant_trap o) ≡ true → is_held_so (is_trapped_for n) o ≡ (ticks_since (use_of o) == n)
trapped_so n None trapped = absurd (let e = trapped in cc)
trapped_so n (Some grant) trapped = by grant.held trapped
  where
    by : (held : AddressUse) → is_some (standing_trap held) ≡ true → is_trapped_for n held ≡ (ticks_as held == n)
    by (InUse idle) trapped = absurd (let e = trapped in cc)
    by (Trapped trap age) trapped = refl
    by (Resting number) trapped = absurd (let e = trapped in cc)
    by Free trapped = absurd (let e = trapped in cc)

-- where the first is young, all that fall due behind it are
all_young : (table : AddressTableView) (ticks : ℕ) (xs : List Pmac) → IsYoung table ticks xs → DoFall (ticks_in table) xs →
    AllByRecursion (λ x. ticks_in table x < ticks) xs
all_young table ticks [] young falls = tt
all_young table ticks (x ∷ xs) young falls = (
  young,
  all_weaker (λ y. ticks_in table y ≤ ticks_in table x) (λ y. ticks_in table y < ticks)
      (λ y later. omega arith) xs falls.0,
)

falls_front : (ticks : Pmac → ℕ) (xs ys : List Pmac) → DoFall ticks (xs ++ ys) → DoFall ticks ys
falls_front ticks [] ys falls = falls
falls_front ticks (x ∷ xs) ys falls = falls_front ticks xs ys falls.1

falls_without : (ticks : Pmac → ℕ) (x : Pmac) (xs : List Pmac) → DoFall ticks xs → DoFall ticks (without x xs)
falls_without ticks x [] falls = tt
falls_without ticks x (y ∷ ys) falls = elim (same_pmac y x) as (λ b. DoFall ticks (cond (not b) (y ∷ without x ys) (without x ys))) [
  | true ↦ falls_without ticks x ys falls.1
  | false ↦ (all_filter (λ z. ticks z ≤ ticks y) (λ z. not (same_pmac z x)) ys falls.0, falls_without ticks x ys falls.1)
]

falls_same : (was now : Pmac → ℕ) (xs : List Pmac) → AllByRecursion (λ y. now y ≡ was y) xs → DoFall was xs → DoFall now xs
falls_same was now [] same falls = tt
falls_same was now (x ∷ xs) same falls = (
  all_both (λ y. now y ≡ was y) (λ y. was y ≤ was x) (λ y. now y ≤ now x) (λ y e later. let first = same.0 in omega arith) xs same.1 falls.0,
  falls_same was now xs same.1 falls.1,
)

-- The tests of the rule.

abbrev idle_in : AddressTableView → ℕ → Pmac → Bool
idle_in table n x = is_held_so (is_idle_for n) (granted_in table x)

abbrev led_in : AddressTableView → ℕ → Pmac → Bool
led_in table n x = is_held_so (is_trapped_for n) (granted_in table x)

abbrev rests_in : AddressTableView → List Pmac
rests_in table = filter (idle_in table ticks_to_rest) (table.asked ++ table.fresh) ++ filter (led_in table ticks_to_rest) table.trapped

not_idle : (table : AddressTableView) (n : ℕ) (x : Pmac) → is_address_in_use table x ≡ true → (ticks_in table x ≡ n → ⊥) → idle_in table n x ≡ false
not_idle table n x used apart = idle_so n (granted_in table x) used ∙ ne_eqb (ticks_in table x) n apart

now_idle : (table : AddressTableView) (n : ℕ) (x : Pmac) → is_address_in_use table x ≡ true → ticks_in table x ≡ n → idle_in table n x ≡ true
now_idle table n x used is = idle_so n (granted_in table x) used ∙ eq-eqb (ticks_in table x) n is

not_led : (table : AddressTableView) (n : ℕ) (x : Pmac) → is_some (trap_in table x) ≡ true → (ticks_in table x ≡ n → ⊥) → led_in table n x ≡ false
not_led table n x trapped apart = trapped_so n (granted_in table x) trapped ∙ ne_eqb (ticks_in table x) n apart

now_led : (table : AddressTableView) (n : ℕ) (x : Pmac) → is_some (trap_in table x) ≡ true → ticks_in table x ≡ n → led_in table n x ≡ true
now_led table n x trapped is = trapped_so n (granted_in table x) trapped ∙ eq-eqb (ticks_in table x) n is

-- What is known of a table in which addresses are to rest.
pub record IsReady (table : AddressTableView) : Type 0 where
  pub used : AllByRecursion (λ x. (is_address_in_use table x ≡ true) × (ticks_in table x ≤ ticks_to_rest)) (table.asked ++ table.fresh)
  pub trapped : AllByRecursion (λ x. (is_some (trap_in table x) ≡ true) × (ticks_in table x ≤ ticks_to_rest)) table.trapped
  pub used_falls : DoFall (ticks_in table) (table.asked ++ table.fresh)
  pub trapped_falls : DoFall (ticks_in table) table.trapped
  pub asked : AllByRecursion (λ x. ticks_to_probe ≤ ticks_in table x) table.asked
  pub fresh : AllByRecursion (λ x. ticks_in table x < ticks_to_probe) table.fresh

-- Who is probed.

module _ {T E : Type 0} (old now later : AddressTableView) (before after : List Act) (did : Result T E) (caught : IsCaughtUp old) (older : IsOlder old now)
    (order : FallDueInOrder now) (probed : Probes now later before after did) where
  abbrev IsUsed : Pmac → Type 0
  IsUsed x = is_address_in_use now x ≡ true

  abbrev IsLater : Pmac → Type 0
  IsLater x = ticks_in now x ≡ ticks_in old x + 1

  same_used : now.asked ++ now.fresh ≡ old.asked ++ old.fresh
  same_used = λ i. older.asked i ++ older.fresh i

  later_used : AllByRecursion IsLater (now.asked ++ now.fresh)
  later_used = subst (AllByRecursion IsLater) (sym same_used) older.of_used

  -- how old those are whose hosts were asked, and the others
  asked_old : AllByRecursion (λ x. (ticks_to_probe < ticks_in now x) × (ticks_in now x ≤ ticks_to_rest)) now.asked
  asked_old = all_both (λ x. (ticks_to_probe ≤ ticks_in old x) × (ticks_in old x < ticks_to_rest)) IsLater
      (λ x. (ticks_to_probe < ticks_in now x) × (ticks_in now x ≤ ticks_to_rest))
      (λ x both is. let low = both.0 in let high = both.1 in (omega arith, omega arith)) now.asked
      (subst (AllByRecursion (λ x. (ticks_to_probe ≤ ticks_in old x) × (ticks_in old x < ticks_to_rest))) (sym older.asked) caught.asked)
      (all_front IsLater now.asked now.fresh later_used)

  fresh_old : AllByRecursion (λ x. ticks_in now x ≤ ticks_to_probe) now.fresh
  fresh_old = all_both (λ x. ticks_in old x < ticks_to_probe) IsLater (λ x. ticks_in now x ≤ ticks_to_probe)
      (λ x young is. omega arith) now.fresh
      (subst (AllByRecursion (λ x. ticks_in old x < ticks_to_probe)) (sym older.fresh) caught.fresh)
      (all_behind IsLater now.asked now.fresh later_used)

  trapped_old : AllByRecursion (λ x. ticks_in now x ≤ ticks_to_rest) now.trapped
  trapped_old = all_both (λ x. ticks_in old x < ticks_to_rest) IsLater (λ x. ticks_in now x ≤ ticks_to_rest)
      (λ x young is. omega arith) now.trapped
      (subst (AllByRecursion (λ x. ticks_in old x < ticks_to_rest)) (sym older.trapped) caught.trapped)
      (subst (AllByRecursion IsLater) (sym older.trapped) older.of_trapped)

  fresh_used : AllByRecursion IsUsed (probed.due ++ later.fresh)
  fresh_used = subst (AllByRecursion IsUsed) probed.front (all_behind IsUsed now.asked now.fresh order.all_used)

  fresh_at_most : AllByRecursion (λ x. ticks_in now x ≤ ticks_to_probe) (probed.due ++ later.fresh)
  fresh_at_most = subst (AllByRecursion (λ x. ticks_in now x ≤ ticks_to_probe)) probed.front fresh_old

  rest_young : AllByRecursion (λ x. ticks_in now x < ticks_to_probe) later.fresh
  rest_young = all_young now ticks_to_probe later.fresh probed.young
      (falls_front (ticks_in now) probed.due later.fresh
      (subst (DoFall (ticks_in now)) probed.front (falls_front (ticks_in now) now.asked now.fresh order.used)))

  abbrev due_now : Pmac → Bool
  due_now x = idle_in now ticks_to_probe x

  none_asked : filter due_now now.asked ≡ []
  none_asked = none_pass due_now now.asked
      (all_both IsUsed (λ x. (ticks_to_probe < ticks_in now x) × (ticks_in now x ≤ ticks_to_rest)) (λ x. due_now x ≡ false)
      (λ x used both. not_idle now ticks_to_probe x used (λ e. let above = both.0 in omega arith)) now.asked
      (all_front IsUsed now.asked now.fresh order.all_used) asked_old)

  all_due : filter due_now probed.due ≡ probed.due
  all_due = all_pass due_now probed.due
      (all_both IsUsed (λ x. (ticks_in now x ≤ ticks_to_probe) × (ticks_to_probe ≤ ticks_in now x)) (λ x. due_now x ≡ true)
      (λ x used both. now_idle now ticks_to_probe x used (let low = both.0 in let high = both.1 in omega arith)) probed.due
      (all_front IsUsed probed.due later.fresh fresh_used)
      (all_both (λ x. ticks_in now x ≤ ticks_to_probe) (λ x. ticks_to_probe ≤ ticks_in now x)
      (λ x. (ticks_in now x ≤ ticks_to_probe) × (ticks_to_probe ≤ ticks_in now x))
      (λ x high low. (high, low)) probed.due (all_front (λ x. ticks_in now x ≤ ticks_to_probe) probed.due later.fresh fresh_at_most) probed.ripe))

  none_rest : filter due_now later.fresh ≡ []
  none_rest = none_pass due_now later.fresh
      (all_both IsUsed (λ x. ticks_in now x < ticks_to_probe) (λ x. due_now x ≡ false)
      (λ x used young. not_idle now ticks_to_probe x used (λ e. omega arith)) later.fresh
      (all_behind IsUsed probed.due later.fresh fresh_used) rest_young)

  pub probed_are : filter due_now (now.asked ++ now.fresh) ≡ probed.due
  probed_are =
      filter-append due_now now.asked now.fresh ∙ ap (λ xs. xs ++ filter due_now now.fresh) none_asked
      ∙ ap (filter due_now) probed.front ∙ filter-append due_now probed.due later.fresh
      ∙ ap (λ xs. xs ++ filter due_now later.fresh) all_due ∙ ap (λ xs. probed.due ++ xs) none_rest ∙ append-nil probed.due

  pub probes_are : (v : SwitchView) → probes_idle (address_table_in now v) ≡ probes_of now probed.due
  probes_are v = ap (λ xs. probes_of now xs) probed_are

  -- the order in which they were used is the same
  abbrev moved : AddressTableView
  moved = record now { asked = now.asked ++ probed.due; fresh = later.fresh }

  moved_used : (now.asked ++ probed.due) ++ later.fresh ≡ now.asked ++ now.fresh
  moved_used = append_assoc now.asked probed.due later.fresh ∙ ap (λ xs. now.asked ++ xs) (sym probed.front)

  pub view_probed : (v : SwitchView) → address_table_in later v ≡ address_table_in now v
  view_probed v =
      ap (λ (t : AddressTableView). address_table_in t v) probed.becomes
      ∙ ap (λ used. record (address_table_in now v) { used = used }) moved_used

  ready_moved : IsReady moved
  ready_moved = record {
    used = subst (AllByRecursion (λ x. IsUsed x × (ticks_in now x ≤ ticks_to_rest))) (sym moved_used)
        (all_both IsUsed (λ x. ticks_in now x ≤ ticks_to_rest) (λ x. IsUsed x × (ticks_in now x ≤ ticks_to_rest)) (λ x used high. (used, high))
        (now.asked ++ now.fresh) order.all_used
        (all_append (λ x. ticks_in now x ≤ ticks_to_rest) now.asked now.fresh
        (all_weaker (λ x. (ticks_to_probe < ticks_in now x) × (ticks_in now x ≤ ticks_to_rest)) (λ x. ticks_in now x ≤ ticks_to_rest)
        (λ x both. both.1) now.asked asked_old)
        (all_weaker (λ x. ticks_in now x ≤ ticks_to_probe) (λ x. ticks_in now x ≤ ticks_to_rest) (λ x high. omega arith) now.fresh fresh_old)));
    trapped = all_both (λ x. is_some (trap_in now x) ≡ true) (λ x. ticks_in now x ≤ ticks_to_rest) (λ x. (is_some (trap_in now x)
        ≡ true) × (ticks_in now x ≤ ticks_to_rest))
        (λ x trapped high. (trapped, high)) now.trapped order.all_trapped trapped_old;
    used_falls = subst (DoFall (ticks_in now)) (sym moved_used) order.used;
    trapped_falls = order.trapped;
    asked = all_append (λ x. ticks_to_probe ≤ ticks_in now x) now.asked probed.due
        (all_weaker (λ x. (ticks_to_probe < ticks_in now x) × (ticks_in now x ≤ ticks_to_rest)) (λ x. ticks_to_probe ≤ ticks_in now x)
        (λ x both. let low = both.0 in omega arith) now.asked asked_old) probed.ripe;
    fresh = rest_young;
  }

  pub ready_probed : IsReady later
  ready_probed = subst IsReady (sym probed.becomes) ready_moved

none_idle_in : (table : AddressTableView) → IsReady table → IsYoung table ticks_to_rest (table.asked ++ table.fresh) →
    filter (idle_in table ticks_to_rest) (table.asked ++ table.fresh) ≡ []
none_idle_in table ready young = none_pass (idle_in table ticks_to_rest) (table.asked ++ table.fresh)
    (all_both (λ x. (is_address_in_use table x ≡ true) × (ticks_in table x ≤ ticks_to_rest)) (λ x. ticks_in table x < ticks_to_rest)
    (λ x. idle_in table ticks_to_rest x ≡ false)
    (λ x both less. not_idle table ticks_to_rest x both.0 (λ e. omega arith)) (table.asked ++ table.fresh) ready.used
    (all_young table ticks_to_rest (table.asked ++ table.fresh) young ready.used_falls))

none_led_in : (table : AddressTableView) → IsReady table → IsYoung table ticks_to_rest table.trapped → filter (led_in table ticks_to_rest) table.trapped ≡ []
none_led_in table ready young = none_pass (led_in table ticks_to_rest) table.trapped
    (all_both (λ x. (is_some (trap_in table x) ≡ true) × (ticks_in table x ≤ ticks_to_rest)) (λ x. ticks_in table x < ticks_to_rest)
    (λ x. led_in table ticks_to_rest x ≡ false)
    (λ x both less. not_led table ticks_to_rest x both.0 (λ e. omega arith)) table.trapped ready.trapped
    (all_young table ticks_to_rest table.trapped young ready.trapped_falls))

-- An address comes to rest.

apart_of : (x y : Pmac) → IsOther x y → y ≢ x
apart_of x y other is = both_ways (same_pmac y x) other (ap (λ a. same_pmac a x) is ∙ pmac_itself x)

module _ (table next : AddressTableView) (x : Pmac) (number : ℕ) (ready : IsReady table) (aged : IsAged table next x number) where
  abbrev used : List Pmac
  used = table.asked ++ table.fresh

  same_granted : (y : Pmac) → IsOther x y → granted_in next y ≡ granted_in table y
  same_granted y other = aged.others y (apart_of x y other)

  same_ticks : (y : Pmac) → IsOther x y → ticks_in next y ≡ ticks_in table y
  same_ticks y other = ap (λ o. ticks_since (use_of o)) (same_granted y other)

  next_used : next.asked ++ next.fresh ≡ without x used
  next_used = (λ i. aged.asked i ++ aged.fresh i) ∙ sym (filter-append (λ other. not (same_pmac other x)) table.asked table.fresh)

  still : (P Q : Pmac → Type 0) (xs : List Pmac) → ((y : Pmac) → IsOther x y → P y → Q y) → AllByRecursion P xs → AllByRecursion Q (without x xs)
  still P Q xs each all = all_both (IsOther x) P Q each (without x xs) (absent_without x xs) (all_filter P (λ y. not (same_pmac y x)) xs all)

  still_falls : (xs : List Pmac) → DoFall (ticks_in table) xs → DoFall (ticks_in next) (without x xs)
  still_falls xs falls =
      falls_same (ticks_in table) (ticks_in next) (without x xs)
      (all_weaker (IsOther x) (λ y. ticks_in next y ≡ ticks_in table y) same_ticks (without x xs) (absent_without x xs))
      (falls_without (ticks_in table) x xs falls)

  pub still_ready : IsReady next
  still_ready = record {
    used = subst (AllByRecursion (λ y. (is_address_in_use next y ≡ true) × (ticks_in next y ≤ ticks_to_rest))) (sym next_used)
        (still (λ y. (is_address_in_use table y ≡ true) × (ticks_in table y ≤ ticks_to_rest)) (λ y. (is_address_in_use next y
        ≡ true) × (ticks_in next y ≤ ticks_to_rest)) used
        (λ y other both. (ap is_used (same_granted y other) ∙ both.0, (let e = same_ticks y other in let high = both.1 in omega arith))) ready.used);
    trapped = subst (AllByRecursion (λ y. (is_some (trap_in next y) ≡ true) × (ticks_in next y ≤ ticks_to_rest))) (sym aged.trapped)
        (still (λ y. (is_some (trap_in table y) ≡ true) × (ticks_in table y ≤ ticks_to_rest)) (λ y. (is_some (trap_in next y)
        ≡ true) × (ticks_in next y ≤ ticks_to_rest)) table.trapped
        (λ y other both. (
          ap (λ o. is_some (grant_trap o)) (same_granted y other)
              ∙ both.0,
          (let e = same_ticks y other in let high = both.1 in omega arith),
        )) ready.trapped);
    used_falls = subst (DoFall (ticks_in next)) (sym next_used) (still_falls used ready.used_falls);
    trapped_falls = subst (DoFall (ticks_in next)) (sym aged.trapped) (still_falls table.trapped ready.trapped_falls);
    asked = subst (AllByRecursion (λ y. ticks_to_probe ≤ ticks_in next y)) (sym aged.asked)
        (still (λ y. ticks_to_probe ≤ ticks_in table y) (λ y. ticks_to_probe ≤ ticks_in next y) table.asked
        (λ y other low. let e = same_ticks y other in omega arith) ready.asked);
    fresh = subst (AllByRecursion (λ y. ticks_in next y < ticks_to_probe)) (sym aged.fresh)
        (still (λ y. ticks_in table y < ticks_to_probe) (λ y. ticks_in next y < ticks_to_probe) table.fresh
        (λ y other low. let e = same_ticks y other in omega arith) ready.fresh);
  }

  -- those of a list without it are to rest as before
  same_idle : (xs : List Pmac) → AllByRecursion (IsOther x) xs → filter (idle_in next ticks_to_rest) xs ≡ filter (idle_in table ticks_to_rest) xs
  same_idle xs others = same_pass (idle_in table ticks_to_rest) (idle_in next ticks_to_rest) xs
      (all_weaker (IsOther x) (λ y. idle_in next ticks_to_rest y ≡ idle_in table ticks_to_rest y)
      (λ y other. ap (is_held_so (is_idle_for ticks_to_rest)) (same_granted y other)) xs others)

  same_led : (xs : List Pmac) → AllByRecursion (IsOther x) xs → filter (led_in next ticks_to_rest) xs ≡ filter (led_in table ticks_to_rest) xs
  same_led xs others = same_pass (led_in table ticks_to_rest) (led_in next ticks_to_rest) xs
      (all_weaker (IsOther x) (λ y. led_in next ticks_to_rest y ≡ led_in table ticks_to_rest y)
      (λ y other. ap (is_held_so (is_trapped_for ticks_to_rest)) (same_granted y other)) xs others)

  gone_many : length (without x used) + length (without x table.trapped) + 1 ≡ length used + length table.trapped
  gone_many = ap (λ xs. length xs + length (without x table.trapped) + 1) (sym next_used)
      ∙ ap (λ xs. length (next.asked ++ next.fresh) + length xs + 1) (sym aged.trapped) ∙ aged.fewer

  -- it stood first among those in use
  first_used : slice_get used 0 ≡ Some x → rests_in table ≡ x ∷ rests_in next
  first_used first =
      let is = has_first used x first in
      let gone : length (without x used) ≡ length (without x is.rest) = ap (λ xs. length (without x xs)) is.is ∙ ap length (first_gone x is.rest) in
      let long : length used ≡ length is.rest + 1 = ap length is.is ∙ (let e : length (x ∷ is.rest) ≡ length is.rest + 1 = omega arith in e) in
      let less = no_longer x is.rest in let less_trapped = no_longer x table.trapped in let many = gone_many in
      let others : AllByRecursion (IsOther x) is.rest = was_absent x is.rest (omega arith) in
      let trapped_others : AllByRecursion (IsOther x) table.trapped = was_absent x table.trapped (omega arith) in
      let rest : next.asked ++ next.fresh ≡ is.rest = next_used ∙ ap (without x) is.is ∙ first_gone x is.rest ∙ without_absent x is.rest others in
      let trapped : next.trapped ≡ table.trapped = aged.trapped ∙ without_absent x table.trapped trapped_others in
      let own = (subst (AllByRecursion (λ y. (is_address_in_use table y ≡ true) × (ticks_in table y ≤ ticks_to_rest))) is.is ready.used).0 in
      let idle : idle_in table ticks_to_rest x ≡ true = now_idle table ticks_to_rest x own.0 (let high = own.1 in let low = aged.due in omega arith) in
      ap (λ xs. filter (idle_in table ticks_to_rest) xs ++ filter (led_in table ticks_to_rest) table.trapped) is.is
      ∙ ap (λ b. cond b (x ∷ filter (idle_in table ticks_to_rest) is.rest)
      (filter (idle_in table ticks_to_rest) is.rest) ++ filter (led_in table ticks_to_rest) table.trapped) idle
      ∙ sym (ap (λ xs. x ∷ (xs ++ filter (led_in next ticks_to_rest) next.trapped)) (ap (filter (idle_in next ticks_to_rest)) rest ∙ same_idle is.rest others)
      ∙ ap (λ xs. x ∷ (filter (idle_in table ticks_to_rest) is.rest ++ xs)) (ap (filter (led_in next ticks_to_rest)) trapped
      ∙ same_led table.trapped trapped_others))

  -- or first among those with a trap, where none in use is to rest
  first_trapped : IsYoung table ticks_to_rest used → slice_get table.trapped 0 ≡ Some x → rests_in table ≡ x ∷ rests_in next
  first_trapped young first =
      let is = has_first table.trapped x first in
      let gone : length (without x table.trapped) ≡ length (without x is.rest) = ap (λ xs. length (without x xs)) is.is ∙ ap length (first_gone x is.rest) in
      let long : length table.trapped ≡ length is.rest + 1 = ap length is.is ∙ (let e : length (x ∷ is.rest) ≡ length is.rest + 1 = omega arith in e) in
      let less = no_longer x is.rest in let less_used = no_longer x used in let many = gone_many in
      let others : AllByRecursion (IsOther x) is.rest = was_absent x is.rest (omega arith) in
      let used_others : AllByRecursion (IsOther x) used = was_absent x used (omega arith) in
      let rest : next.trapped ≡ is.rest = aged.trapped ∙ ap (without x) is.is ∙ first_gone x is.rest ∙ without_absent x is.rest others in
      let same : next.asked ++ next.fresh ≡ used = next_used ∙ without_absent x used used_others in
      let own = (subst (AllByRecursion (λ y. (is_some (trap_in table y) ≡ true) × (ticks_in table y ≤ ticks_to_rest))) is.is ready.trapped).0 in
      let led : led_in table ticks_to_rest x ≡ true = now_led table ticks_to_rest x own.0 (let high = own.1 in let low = aged.due in omega arith) in
      let none : filter (idle_in table ticks_to_rest) used ≡ [] = none_idle_in table ready young in
      ap (λ xs. xs ++ filter (led_in table ticks_to_rest) table.trapped) none
      ∙ ap (filter (led_in table ticks_to_rest)) is.is
      ∙ ap (λ b. cond b (x ∷ filter (led_in table ticks_to_rest) is.rest) (filter (led_in table ticks_to_rest) is.rest)) led
      ∙ sym (ap (λ xs. x ∷ (xs ++ filter (led_in next ticks_to_rest) next.trapped)) (ap (filter (idle_in next ticks_to_rest)) same
      ∙ same_idle used used_others ∙ none)
      ∙ ap (λ xs. x ∷ xs) (ap (filter (led_in next ticks_to_rest)) rest ∙ same_led is.rest others))

  pub one_rests : rests_in table ≡ x ∷ rests_in next
  one_rests = elim aged.next [ inl first ↦ first_used first | inr later ↦ first_trapped later.0 later.1 ]

-- All that are to rest come to rest.

nothing_rests : (table : AddressTableView) → IsReady table → NothingIsDue table → rests_in table ≡ []
nothing_rests table ready none =
    ap (λ xs. xs ++ filter (led_in table ticks_to_rest) table.trapped) (none_idle_in table ready none.used) ∙ none_led_in table ready none.trapped

nothing_left : (table : AddressTableView) → IsReady table → NothingIsDue table → IsCaughtUp table
nothing_left table ready none =
    let young = all_young table ticks_to_rest (table.asked ++ table.fresh) none.used ready.used_falls in
    record {
      fresh = ready.fresh;
      asked = all_both (λ x. ticks_to_probe ≤ ticks_in table x) (λ x. ticks_in table x < ticks_to_rest)
          (λ x. (ticks_to_probe ≤ ticks_in table x) × (ticks_in table x < ticks_to_rest))
          (λ x low high. (low, high)) table.asked ready.asked (all_front (λ x. ticks_in table x < ticks_to_rest) table.asked table.fresh young);
      trapped = all_young table ticks_to_rest table.trapped none.trapped ready.trapped_falls;
    }

pub all_rest : (table new : AddressTableView) (aged : List (Pmac × ℕ)) → IsReady table → ComeToRest table aged new → (v : SwitchView) →
    all_age_out (rests_in table) (address_table_in table v) ≡ record { view = address_table_in new v; acts = map told_aged aged }
unfolding all_age_out
all_rest table new [] ready done v =
    ap (λ xs. all_age_out xs (address_table_in table v)) (nothing_rests table ready done.0)
    ∙ ap (λ (t : AddressTableView). rests (address_table_in t v)) (sym done.1)
all_rest table new (one ∷ more) ready done v =
    let between = done.0 in
    let aged = done.1 in
    let later = all_rest between new more (still_ready table between one.0 one.1 ready aged) done.2 v in
    ap (λ xs. all_age_out xs (address_table_in table v)) (one_rests table between one.0 one.1 ready aged)
    ∙ ap (λ (s : SwitchStep). s ▹ all_age_out (rests_in between)) (aged.becomes v)
    ∙ ap (λ (s : SwitchStep). record { view = s.view; acts = told_aged one ∷ s.acts }) later

pub all_caught_up : (table new : AddressTableView) (aged : List (Pmac × ℕ)) → IsReady table → ComeToRest table aged new → IsCaughtUp new
all_caught_up table new [] ready done = subst IsCaughtUp (sym done.1) (nothing_left table ready done.0)
all_caught_up table new (one ∷ more) ready done =
    all_caught_up done.0 new more (still_ready table done.0 one.0 one.1 ready done.1) done.2

-- A tick.

pub has_caught_up : {T E : Type 0} (old now later new : AddressTableView) (before between after : List Act) (did done : Result T E) → IsCaughtUp old →
    IsOlder old now →
    FallDueInOrder now → Probes now later before between did → TellsAged later new between after did done → IsCaughtUp new
has_caught_up old now later new before between after did done caught older order probed told =
    all_caught_up later new told.aged (ready_probed old now later before between did caught older order probed) told.rest

has_aged : {T E : Type 0} (old now later new : AddressTableView) (before between after : List Act) (did done : Result T E) → IsCaughtUp old →
    ((v : SwitchView) → address_table_in now v ≡ with_older (address_table_in old v)) → IsOlder old now → FallDueInOrder now →
    (probed : Probes now later before between did) → (told : TellsAged later new between after did done) → between ≡ before ++ probes_of now probed.due →
    after ≡ between ++ map told_aged told.aged → IsTakenByPart address_table_in ages old new before after
has_aged old now later new before between after did done caught step older order probed told sent said v =
    let ready = ready_probed old now later before between did caught older order probed in
    let w : SwitchView = address_table_in now v in
    let same = view_probed old now later before between did caught older order probed v in
    let rested : all_age_out (to_rest w) w ≡ record { view = address_table_in new v; acts = map told_aged told.aged } =
    sym (ap (λ u. all_age_out (to_rest u) u) same) ∙ all_rest later new told.aged ready told.rest v in
    let all : ages (address_table_in old v) ≡ record { view = address_table_in new v; acts = probes_of now probed.due ++ map told_aged told.aged } =
    sym (ap (λ u. does u (probes_idle u) ▹ (λ z. all_age_out (to_rest z) z)) (step v))
    ∙ ap (λ (s : SwitchStep). record { view = s.view; acts = probes_idle w ++ s.acts }) rested
    ∙ ap (λ acts. record { view = address_table_in new v; acts = acts ++ map told_aged told.aged })
    (probes_are old now later before between did caught older order probed v) in
    record {
      view = sym (ap (λ (s : SwitchStep). s.view) all);
      acts = said ∙ ap (λ acts. acts ++ map told_aged told.aged) sent ∙ append_assoc before (probes_of now probed.due) (map told_aged told.aged)
          ∙ sym (ap (λ (s : SwitchStep). before ++ s.acts) all);
    }

on_ok : {T E : Type 0} (first done : Result T E) (A B C : Type 0) → OnOk first A → OnOk done (IsOk first × B) → (A → B → C) → OnOk done C
on_ok (Ok x) (Ok y) A B C a b both = both a b.1
on_ok (Err x) (Ok y) A B C a b both = absurd (let e = b.0 in cc)
on_ok first (Err y) A B C a b both = tt

pub has_taken : {T E : Type 0} (old now later new : AddressTableView) (before between after : List Act) (did done : Result T E) → IsCaughtUp old →
    ((v : SwitchView) → address_table_in now v ≡ with_older (address_table_in old v)) → IsOlder old now → FallDueInOrder now →
    Probes now later before between did →
    TellsAged later new between after did done → OnOk done (IsTakenByPart address_table_in ages old new before after)
has_taken old now later new before between after did done caught step older order probed told =
    on_ok did done (between ≡ before ++ probes_of now probed.due) (after
    ≡ between ++ map told_aged told.aged) (IsTakenByPart address_table_in ages old new before after)
    probed.acts told.acts (has_aged old now later new before between after did done caught step older order probed told)

on_any : {T E : Type 0} (done : Result T E) (A : Type 0) → A → OnOk done A
on_any (Ok x) A a = a
on_any (Err e) A a = tt

-- whose an address is stays
keeps_moved : (now : AddressTableView) (asked fresh : List Pmac) → KeepsGrants now (record now { asked = asked; fresh = fresh })
keeps_moved now asked fresh = record { pod = refl; position = refl; ports = refl; grantees = λ address grantee found. found }

pub keeps_on : (a b c : AddressTableView) → KeepsGrants a b → KeepsGrants b c → KeepsGrants a c
keeps_on a b c first next = record {
  pod = next.pod ∙ first.pod;
  position = next.position ∙ first.position;
  ports = next.ports ∙ first.ports;
  grantees = λ address grantee found. next.grantees address grantee (first.grantees address grantee found);
}

pub keeps_probed : {T E : Type 0} (now later : AddressTableView) (before between : List Act) (did : Result T E) → Probes now later before between did →
    KeepsGrants now later
keeps_probed now later before between did probed = subst (KeepsGrants now) (sym probed.becomes) (keeps_moved now (now.asked ++ probed.due) later.fresh)

-- The loops.

pub record ProbesOn {T E : Type 0} (old now : AddressTableView) (before after : List Act) (done : Result T E) : Type 0 where
  pub due : List Pmac
  pub front : old.fresh ≡ due ++ now.fresh
  pub ripe : AllByRecursion (λ x. ticks_to_probe ≤ ticks_in old x) due
  pub becomes : now ≡ record old { asked = old.asked ++ due; fresh = now.fresh }
  pub acts : OnOk done (after ≡ before ++ probes_of old due)

pub none_probed : {T E : Type 0} (old : AddressTableView) (before : List Act) (done : Result T E) → ProbesOn old old before before done
none_probed old before done = record {
  due = [];
  front = refl;
  ripe = tt;
  becomes = sym (ap (λ asked. record old { asked = asked }) (append-nil old.asked));
  acts = on_any done (before ≡ before ++ []) (sym (append-nil before));
}

-- one more is probed
next_is : {T E : Type 0} (old now next : AddressTableView) (before after : List Act) (done : Result T E) (address : Pmac)
    (on : ProbesOn old now before after done) →
    IsToBeAsked now next address → next ≡ record old { asked = old.asked ++ (on.due ++ address ∷ []); fresh = next.fresh }
next_is old now next before after done address on asked =
    asked.becomes
    ∙ ap (λ (t : AddressTableView). record t { fresh = next.fresh; asked = t.asked ++ address ∷ [] }) on.becomes
    ∙ ap (λ xs. record old { asked = xs; fresh = next.fresh }) (append_assoc old.asked on.due (address ∷ []))

next_granted : {T E : Type 0} (old now next : AddressTableView) (before after : List Act) (done : Result T E) (address : Pmac)
    (on : ProbesOn old now before after done) →
    IsToBeAsked now next address → (x : Pmac) → granted_in next x ≡ granted_in old x
next_granted old now next before after done address on asked x = ap (λ t. granted_in t x) (next_is old now next before after done address on asked)

front_more : {T E : Type 0} (old now next : AddressTableView) (before after : List Act) (done : Result T E) (address : Pmac)
    (on : ProbesOn old now before after done) →
    IsToBeAsked now next address → old.fresh ≡ on.due ++ address ∷ next.fresh
front_more old now next before after done address on asked = on.front ∙ ap (λ xs. on.due ++ xs) asked.first

pub next_in_use : {T E : Type 0} (old now next : AddressTableView) (before after : List Act) (done : Result T E) (address : Pmac) → FallDueInOrder old →
    ProbesOn old now before after done → IsToBeAsked now next address → is_address_in_use next address ≡ true
next_in_use old now next before after done address order on asked =
    ap is_used (next_granted old now next before after done address on asked address)
    ∙ (all_behind (λ x. is_address_in_use old x ≡ true) on.due (address ∷ next.fresh)
    (subst (AllByRecursion (λ x. is_address_in_use old x ≡ true)) (front_more old now next before after done address on asked)
    (all_behind (λ x. is_address_in_use old x ≡ true) old.asked old.fresh order.all_used))).0

pub more_probed : {T E : Type 0} (old now next : AddressTableView) (before after told : List Act) (done then_ : Result T E) (address : Pmac) →
    FallDueInOrder old →
    ProbesOn old now before after done → IsToBeAsked now next address → OnOk then_ (IsOk done × (told ≡ after ++ probe_of address (granted_in next address))) →
    ProbesOn old next before told then_
more_probed old now next before after told done then_ address order on asked sent = record {
  due = on.due ++ address ∷ [];
  front = front_more old now next before after done address on asked ∙ sym (append_assoc on.due (address ∷ []) next.fresh);
  ripe = all_push (λ x. ticks_to_probe ≤ ticks_in old x) on.due address on.ripe
      (subst (λ n. ticks_to_probe ≤ n) (ap (λ t. ticks_in t address) on.becomes) asked.due);
  becomes = next_is old now next before after done address on asked;
  acts = on_ok done then_ (after ≡ before ++ probes_of old on.due) (told ≡ after ++ probe_of address (granted_in next address)) (told
      ≡ before ++ probes_of old (on.due ++ address ∷ []))
      on.acts sent
      (λ was is.
      is ∙ ap (λ acts. acts ++ probe_of address (granted_in next address)) was
      ∙ ap (λ o. (before ++ probes_of old on.due) ++ probe_of address o) (next_granted old now next before after done address on asked address)
      ∙ flat_map_more (λ x. probe_of x (granted_in old x)) before on.due address);
}

pub all_probed : {T E : Type 0} (old now : AddressTableView) (before after : List Act) (done : Result T E) → ProbesOn old now before after done →
    IsYoung now ticks_to_probe now.fresh → Probes old now before after done
all_probed old now before after done on young = record {
  due = on.due;
  front = on.front;
  ripe = on.ripe;
  young = subst (λ (t : AddressTableView). IsYoung t ticks_to_probe now.fresh) on.becomes young;
  becomes = on.becomes;
  acts = on.acts;
}

-- one address after the other came to rest
abbrev pub LeadsTo : AddressTableView → List (Pmac × ℕ) → AddressTableView → Type 0
LeadsTo old [] now = now ≡ old
LeadsTo old (aged ∷ more) now = (between : AddressTableView) × IsAged old between aged.0 aged.1 × LeadsTo between more now

leads_more : (old now next : AddressTableView) (aged : List (Pmac × ℕ)) (one : Pmac × ℕ) → LeadsTo old aged now → IsAged now next one.0 one.1 →
    LeadsTo old (aged ++ one ∷ []) next
leads_more old now next [] one leads aged = (next, subst (λ (t : AddressTableView). IsAged t next one.0 one.1) leads aged, refl)
leads_more old now next (first ∷ more) one leads aged = (leads.0, leads.1, leads_more leads.0 now next more one leads.2 aged)

leads_done : (old now : AddressTableView) (aged : List (Pmac × ℕ)) → LeadsTo old aged now → NothingIsDue now → ComeToRest old aged now
leads_done old now [] leads none = (subst NothingIsDue leads none, leads)
leads_done old now (first ∷ more) leads none = (leads.0, leads.1, leads_done leads.0 now more leads.2 none)

pub record TellsOn {T E : Type 0} (old now : AddressTableView) (before after : List Act) (first done : Result T E) : Type 0 where
  pub aged : List (Pmac × ℕ)
  pub leads : LeadsTo old aged now
  pub kept : KeepsGrants old now
  pub acts : OnOk done (IsOk first × (after ≡ before ++ map told_aged aged))

pub none_told : {T E : Type 0} (old : AddressTableView) (before : List Act) (first : Result T E) → TellsOn old old before before first first
none_told old before first = record {
  aged = [];
  leads = refl;
  kept = keeps_moved old old.asked old.fresh;
  acts = itself first before;
}
  where
    itself : {T E : Type 0} (first : Result T E) (before : List Act) → OnOk first (IsOk first × (before ≡ before ++ []))
    itself (Ok x) before = (refl, sym (append-nil before))
    itself (Err e) before = tt

pub more_told : {T E : Type 0} (old now next : AddressTableView) (before after told : List Act) (first done then_ : Result T E) (address : Pmac) (number : ℕ) →
    TellsOn old now before after first done → IsAged now next address number → KeepsGrants now next →
    OnOk then_ (IsOk done × (told ≡ after ++ Tell (Aged address number) ∷ [])) →
    TellsOn old next before told first then_
more_told old now next before after told first done then_ address number on aged kept sent = record {
  aged = on.aged ++ (address, number) ∷ [];
  leads = leads_more old now next on.aged (address, number) on.leads aged;
  kept = keeps_on old now next on.kept kept;
  acts = on_ok done then_ (IsOk first × (after ≡ before ++ map told_aged on.aged)) (told ≡ after ++ Tell (Aged address number) ∷ [])
      (IsOk first × (told ≡ before ++ map told_aged (on.aged ++ (address, number) ∷ []))) on.acts sent
      (λ was is. (
        was.0,
        is ∙ ap (λ acts. acts ++ Tell (Aged address number) ∷ []) was.1 ∙ append_assoc before (map told_aged on.aged) (Tell (Aged address number) ∷ [])
            ∙ ap (λ acts. before ++ acts) (sym (map_push told_aged on.aged (address, number))),
      ));
}

pub all_told : {T E : Type 0} (old now : AddressTableView) (before after : List Act) (first done : Result T E) → TellsOn old now before after first done →
    NothingIsDue now →
    TellsAged old now before after first done
all_told old now before after first done on none = record { aged = on.aged; rest = leads_done old now on.aged on.leads none; kept = on.kept; acts = on.acts }

-- One host is probed.

probes_so : (address : Pmac) (grant : Grant) (v : SwitchView) → is_in_use grant.held ≡ true → (probes address grant v).acts ≡ probe_of address (Some grant)
probes_so address grant v used =
    ap (λ (s : SwitchStep). s.acts) (cond-true {A = SwitchStep} (is_in_use grant.held) (probes_at address grant.amac grant.ip v) (rests v) used)

pub probed_so : {S T E F : Type 0} (table : AddressTableView) (address : Pmac) (grant : Grant) (done : Result S E) (result : Result T F)
    (before after : List Act) →
    granted_in table address ≡ Some grant → is_address_in_use table address ≡ true → (u : S) → done ≡ Ok u →
    OnOk result ((v : SwitchView) → IsTaken (probes address grant v) v before after) →
    OnOk result (IsOk done × (after ≡ before ++ probe_of address (granted_in table address)))
probed_so table address grant done (Err e) before after found used u ok taken = tt
probed_so table address grant done (Ok x) before after found used u ok taken =
    let held : is_in_use grant.held ≡ true = sym (ap is_used found) ∙ used in (
      ap is_ok ok,
      (taken any_view).acts ∙ ap (λ acts. before ++ acts) (probes_so address grant any_view held)
          ∙ sym (ap (λ o. before ++ probe_of address o) found),
    )

pub unprobed_so : {G : Type 0} (table : AddressTableView) (address : Pmac) → is_address_in_use table address ≡ true → granted_in table address ≡ None → G
unprobed_so table address used none = absurd (let e = sym (ap is_used none) ∙ used in cc)
