-- An address of a table stands in another list from now on, behind the last, or for the first time: what is kept of all others stays.
use Rattle.std.proofs.Common.{◌≡◌, ◌<◌, ◌≤◌, ℕ, zero, suc, ◌+◌, ◌-◌, ◌==◌, Bool, true, false, cond, not, List, [], ◌∷◌, ◌++◌, length, map, Option, Some, None, get_or, refl, inl, inr, sym, ap, subst, ◌∙◌, append_assoc, arith}
use Rattle.std.specs.List.{AllByRecursion, IsDistinct}
use Rattle.std.specs.Prelude.{slice_index_or, slice_set}
use Rattle.std.proofs.lemmas.Bool.{cases_eq, cond_both}
use Rattle.std.proofs.lemmas.List.{append-nil, length-set}
use Rattle.std.proofs.lemmas.List.Elements.{filter-append}
use Rattle.pl_lemmas.proofs.Exports.{all_append, all_filter, all_push, all_weaker}
use Rattle.pl_pmac.specs.declared.pmac.Pmac.{Pmac}
use Rattle.pl_frame.specs.declared.address.Ip4.{Ip4}
use Rattle.pl_frame.specs.declared.address.Mac.{Mac}
use Rattle.pl_layouts.specs.Equality.{same_pmac}
use Rattle.pl_pool.specs.declared.key.Key.{Key}
use Rattle.pl_pool.specs.Pool.{Lists, list_at}
use Rattle.pl_switch_rule.specs.Granting.{without}
use Rattle.pl_migrate.specs.declared.tenancy.Standing.TheVariants.{Fresh}
use Rattle.pl_migrate.specs.declared.tenancy.Tenancy.{Tenancy}
use Rattle.pl_migrate.specs.Orders.{IsChanged, IsEntered, taken_out, with_tenancy}
use Rattle.pl_migrate.specs.Tenancies.{AreInOrder, DoRise, IsPast, StandsIn, addresses_in, is_of, list_of, since_if, since_of, tenancy_at}
use Rattle.pl_migrate.proofs.Entries.{IsSet, next_is_new, past_behind, past_in_place, past_of, set_behind, set_in_place, tenancies_of}
use Rattle.pl_migrate.proofs.Listed.{AreListed, AreOthers, all_entered, all_here, are_listed, entered_addresses, has_left, new_is_nowhere, others_same}
use Rattle.pl_migrate.proofs.Numbers.{at_number}
use Rattle.pl_migrate.proofs.Pairs.{IsOther, absent_without, all_items, without_absent, without_first}

-- Lists that rise.

pub all_both : {X : Type 0} (P Q R : X → Type 0) → ((x : X) → P x → Q x → R x) → (xs : List X) → AllByRecursion P xs → AllByRecursion Q xs → AllByRecursion R xs
all_both P Q R each [] ps qs = tt
all_both P Q R each (x ∷ xs) ps qs = (each x ps.0 qs.0, all_both P Q R each xs ps.1 qs.1)

pub all_always : {X : Type 0} (P : X → Type 0) → ((x : X) → P x) → (xs : List X) → AllByRecursion P xs
all_always P each [] = tt
all_always P each (x ∷ xs) = (each x, all_always P each xs)

rises_without : (since : Pmac → ℕ) (x : Pmac) (xs : List Pmac) → DoRise since xs → DoRise since (without x xs)
rises_without since x [] rises = tt
rises_without since x (y ∷ ys) rises =
    cond_both (not (same_pmac y x)) (y ∷ without x ys) (without x ys) (DoRise since)
    (λ h. (all_filter (λ z. since y ≤ since z) (λ z. not (same_pmac z x)) ys rises.0, rises_without since x ys rises.1)) (λ h. rises_without since x ys rises.1)

pub rises_same : (since now : Pmac → ℕ) (xs : List Pmac) → AllByRecursion (λ y. now y ≡ since y) xs → DoRise since xs → DoRise now xs
rises_same since now [] same rises = tt
rises_same since now (x ∷ xs) same rises = (
  all_both (λ y. now y ≡ since y) (λ y. since x ≤ since y) (λ y. now x ≤ now y) (λ y e below. let d = same.0 in omega arith) xs same.1 rises.0,
  rises_same since now xs same.1 rises.1,
)

rises_push : (since : Pmac → ℕ) (x : Pmac) (xs : List Pmac) → DoRise since xs → AllByRecursion (λ y. since y ≤ since x) xs → DoRise since (xs ++ x ∷ [])
rises_push since x [] rises below = (tt, tt)
rises_push since x (y ∷ ys) rises below = (all_push (λ z. since y ≤ since z) ys x rises.0 below.0, rises_push since x ys rises.1 below.1)

-- where an address leaves, and stands last from now on, or is gone
rises_put : (since now : Pmac → ℕ) (x : Pmac) (last : Bool) (xs : List Pmac) → AllByRecursion (λ y. IsOther x y → now y ≡ since y) xs → ((y : Pmac) →
    now y ≤ now x) →
    DoRise since xs → DoRise now (without x xs ++ cond last (x ∷ []) [])
rises_put since now x last xs same below rises =
    let others : AllByRecursion (λ y. now y ≡ since y) (without x xs) =
    all_both (λ y. IsOther x y → now y ≡ since y) (IsOther x) (λ y. now y ≡ since y) (λ y e other. e other) (without x xs)
    (all_filter (λ y. IsOther x y → now y ≡ since y) (λ y. not (same_pmac y x)) xs same) (absent_without x xs) in
    let rest : DoRise now (without x xs) = rises_same since now (without x xs) others (rises_without since x xs rises) in
    elim last as (λ b. DoRise now (without x xs ++ cond b (x ∷ []) [])) [
      | true ↦ rises_push now x (without x xs) rest (all_always (λ y. now y ≤ now x) below (without x xs))
      | false ↦ subst (DoRise now) (sym (append-nil (without x xs))) rest
    ]

-- An address is put into its place.

-- it stands behind all others that are used so, and nowhere else; what is kept of others stays
pub record IsPut (pod position : ℕ) (before after : List (List Tenancy)) (left entered : Lists Pmac) (x : Pmac) (new : Tenancy) : Type 0 where
  pub listed : AreListed pod position after entered
  pub addresses : (list : ℕ) → addresses_in entered list ≡ without x (addresses_in left list) ++ cond (list == list_of x.port new.standing) (x ∷ []) []
  pub there : tenancy_at after x ≡ Some new
  pub others : (y : Pmac) → is_of pod position y ≡ true → IsOther x y → tenancy_at after y ≡ tenancy_at before y
  pub many : length after ≡ length before
  pub lists : length entered.lists ≡ length left.lists

abbrev pub keyed : Tenancy → Key → Tenancy
keyed new key = record new { key = key }

pub put_changed : (pod position now : ℕ) (ports after : List (List Tenancy)) (orders entered : Lists Pmac) (x : Pmac) (old new : Tenancy) →
    AreInOrder pod position now ports orders → is_of pod position x ≡ true → tenancy_at ports x ≡ Some old → list_of x.port new.standing < length orders.lists →
    (changed : IsChanged ports after orders entered x old new) → IsPut pod position ports after orders entered x (keyed new changed.key)
put_changed pod position now ports after orders entered x old new order here found within changed =
    let listed = are_listed pod position now ports orders order in
    let left = has_left pod position ports orders x old listed here found in
    let t : Tenancy = keyed new changed.key in
    let out : Lists Pmac = taken_out orders (list_of x.port old.standing) old.key in
    let many : length out.lists ≡ length orders.lists = length-set orders.lists (list_of x.port old.standing) _ in
    let inside : list_of x.port t.standing < length out.lists = subst (λ n. list_of x.port t.standing < n) (sym many) within in
    let set : IsSet ports after x t = subst (λ ps. IsSet ports ps x t) (sym changed.ports) (set_in_place ports x old t found) in
    record {
      listed = all_entered pod position ports after out entered x t left.others set here inside changed.moved.free changed.moved.lists;
      addresses = λ list.
          entered_addresses pod position ports after out entered x t left.others set here inside changed.moved.free changed.moved.lists list
          ∙ ap (λ xs. xs ++ cond (list == list_of x.port t.standing) (x ∷ []) []) (left.addresses list);
      there = set.there;
      others = others_same pod position ports after out entered x t left.others set here inside changed.moved.free changed.moved.lists;
      many = ap (λ (ps : List (List Tenancy)). length ps) changed.ports ∙ length-set ports x.port _;
      lists = ap (λ (ls : List (List (Key × Pmac))). length ls) changed.moved.lists ∙ length-set out.lists (list_of x.port t.standing) _ ∙ many;
    }

abbrev pub entered_as : Mac → Option Ip4 → ℕ → Key → Tenancy
entered_as amac ip now key = record { amac = amac; ip = ip; standing = Fresh; since = now; key = key }

pub put_new : (pod position now : ℕ) (ports after : List (List Tenancy)) (tenancies : List Tenancy) (orders entered : Lists Pmac) (x : Pmac) (amac : Mac)
    (ip : Option Ip4) →
    AreInOrder pod position now ports orders → is_of pod position x ≡ true → x.port < length ports → x.vmid ≡ length (tenancies_of ports x.port) + 1 →
    after ≡ slice_set ports x.port tenancies → (new : IsEntered (tenancies_of ports x.port) tenancies orders entered x amac ip now) →
    IsPut pod position ports after orders entered x (entered_as amac ip now new.key)
put_new pod position now ports after tenancies orders entered x amac ip order here within next is new =
    let listed = are_listed pod position now ports orders order in
    let others = new_is_nowhere pod position ports orders x listed (next_is_new ports x next) in
    let t : Tenancy = entered_as amac ip now new.key in
    let inside : 0 < length orders.lists = let e = order.lists in omega arith in
    let is_after : after ≡ slice_set ports x.port (tenancies_of ports x.port ++ t ∷ []) = is ∙ ap (slice_set ports x.port) new.tenancies in
    let set : IsSet ports after x t = subst (λ ps. IsSet ports ps x t) (sym is_after) (set_behind ports x t within next) in
    record {
      listed = all_entered pod position ports after orders entered x t others set here inside new.free new.lists;
      addresses = λ list.
          entered_addresses pod position ports after orders entered x t others set here inside new.free new.lists list
          ∙ ap (λ xs. xs ++ cond (list == 0) (x ∷ []) []) (sym (without_absent x (addresses_in orders list)
          (all_items (IsOther x) (list_at orders list)
          (all_weaker (λ pair. StandsIn pod position ports list pair × IsOther x pair.1) (λ pair. IsOther x pair.1) (λ pair both. both.1)
          (list_at orders list) (others.listed list)))));
      there = set.there;
      others = others_same pod position ports after orders entered x t others set here inside new.free new.lists;
      many = ap (λ (ps : List (List Tenancy)). length ps) is_after ∙ length-set ports x.port _;
      lists = ap (λ (ls : List (List (Key × Pmac))). length ls) new.lists ∙ length-set orders.lists 0 _;
    }

-- Ticks since which addresses are used as they are.

since_within : (now : ℕ) (ports : List (List Tenancy)) (y : Pmac) (o : Option Tenancy) → AllByRecursion (AllByRecursion (IsPast now)) ports →
    tenancy_at ports y ≡ o → since_if o ≤ now
since_within now ports y None past is = omega arith
since_within now ports y (Some t) past is = past_of now ports y t past is

pub since_below : (now : ℕ) (ports : List (List Tenancy)) → AllByRecursion (AllByRecursion (IsPast now)) ports → (y : Pmac) → since_of ports y ≤ now
since_below now ports past y = since_within now ports y (tenancy_at ports y) past refl

since_put : (pod position : ℕ) (ports after : List (List Tenancy)) (orders entered : Lists Pmac) (x : Pmac) (new : Tenancy) →
    IsPut pod position ports after orders entered x new → (xs : List Pmac) → AllByRecursion (λ y. is_of pod position y ≡ true) xs →
    AllByRecursion (λ y. IsOther x y → since_of after y ≡ since_of ports y) xs
since_put pod position ports after orders entered x new put xs here =
    all_weaker (λ y. is_of pod position y ≡ true) (λ y. IsOther x y → since_of after y
    ≡ since_of ports y) (λ y of other. ap since_if (put.others y of other)) xs here

-- Put behind all others in a list but that of hosts that were asked, an address that is used so from now on leaves the table in order.

pub used_put : (pod position : ℕ) (ports after : List (List Tenancy)) (orders entered : Lists Pmac) (x : Pmac) (new : Tenancy) →
    IsPut pod position ports after orders entered x new → (1 == list_of x.port new.standing) ≡ false →
    addresses_in entered 1 ++ addresses_in entered 0
    ≡ without x (addresses_in orders 1 ++ addresses_in orders 0) ++ cond (0 == list_of x.port new.standing) (x ∷ []) []
used_put pod position ports after orders entered x new put unasked =
    let asked : List Pmac = without x (addresses_in orders 1) in let fresh : List Pmac = without x (addresses_in orders 0) in
    let last : List Pmac = cond (0 == list_of x.port new.standing) (x ∷ []) [] in
    ap (λ xs. xs ++ addresses_in entered 0) (put.addresses 1 ∙ ap (λ b. asked ++ cond b (x ∷ []) []) unasked ∙ append-nil asked)
    ∙ ap (λ xs. asked ++ xs) (put.addresses 0)
    ∙ sym (append_assoc asked fresh last)
    ∙ ap (λ xs. xs ++ last) (sym (filter-append (λ other. not (same_pmac other x)) (addresses_in orders 1) (addresses_in orders 0)))

pub in_order_put : (pod position now : ℕ) (ports after : List (List Tenancy)) (orders entered : Lists Pmac) (x : Pmac) (new : Tenancy) →
    AreInOrder pod position now ports orders → IsPut pod position ports after orders entered x new → new.since ≡ now →
    (1 == list_of x.port new.standing) ≡ false →
    AllByRecursion (AllByRecursion (IsPast now)) after → AreInOrder pod position now after entered
in_order_put pod position now ports after orders entered x new order put since unasked past =
    let listed = are_listed pod position now ports orders order in
    let last : since_of after x ≡ now = ap since_if put.there ∙ since in
    let below : (y : Pmac) → since_of after y ≤ since_of after x = (λ y. subst (λ n. since_of after y ≤ n) (sym last) (since_below now after past y)) in
    let of_used : AllByRecursion (λ y. is_of pod position y ≡ true) (addresses_in orders 1 ++ addresses_in orders 0) =
    all_append (λ y. is_of pod position y ≡ true) (addresses_in orders 1) (addresses_in orders 0)
    (all_here pod position ports orders listed 1) (all_here pod position ports orders listed 0) in
    record {
      few = subst (λ n. n ≤ 255) (sym put.many) order.few;
      lists = put.lists ∙ order.lists ∙ ap (λ n. 4 + n) (sym put.many);
      placed = put.listed.placed;
      listed = put.listed.listed;
      apart = put.listed.apart;
      past = past;
      used = subst (DoRise (since_of after)) (sym (used_put pod position ports after orders entered x new put unasked))
          (rises_put (since_of ports) (since_of after) x (0 == list_of x.port new.standing) (addresses_in orders 1 ++ addresses_in orders 0)
          (since_put pod position ports after orders entered x new put (addresses_in orders 1 ++ addresses_in orders 0) of_used) below order.used);
      trapped = subst (DoRise (since_of after)) (sym (put.addresses 2))
          (rises_put (since_of ports) (since_of after) x (2 == list_of x.port new.standing) (addresses_in orders 2)
          (since_put pod position ports after orders entered x new put (addresses_in orders 2)
          (all_here pod position ports orders listed 2)) below order.trapped);
    }

-- An address whose host is asked moves from the front of one list to the end of the other: the order in which they were used is the same.

pub since_in_place : (ports after : List (List Tenancy)) (x : Pmac) (old new : Tenancy) → IsSet ports after x new → tenancy_at ports x ≡ Some old →
    new.since ≡ old.since →
    (y : Pmac) → since_of after y ≡ since_of ports y
since_in_place ports after x old new set found same y = elim (cases_eq y.port x.port) [
  | inl port ↦ elim (cases_eq y.vmid x.vmid) [
    | inl vmid ↦
        let here : (ps : List (List Tenancy)) → tenancy_at ps y ≡ tenancy_at ps x =
        (λ ps. ap (λ n. at_number (tenancies_of ps n) y.vmid) port ∙ ap (λ n. at_number (tenancies_of ps x.port) n) vmid) in
        ap since_if (here after ∙ set.there) ∙ same ∙ sym (ap since_if (here ports ∙ found))
    | inr apart ↦ ap since_if (set.others y (λ e. apart))
  ]
  | inr apart ↦ ap since_if (set.others y (λ e f. apart e))
]

pub in_order_asked : (pod position now : ℕ) (ports after : List (List Tenancy)) (orders entered : Lists Pmac) (x : Pmac) (old new : Tenancy)
    (rest : List Pmac) →
    AreInOrder pod position now ports orders → IsPut pod position ports after orders entered x new → IsSet ports after x new → tenancy_at ports x ≡ Some old →
    new.since ≡ old.since → list_of x.port new.standing ≡ 1 → addresses_in orders 0 ≡ x ∷ rest → without x (addresses_in orders 1) ≡ addresses_in orders 1 →
    without x (addresses_in orders 2) ≡ addresses_in orders 2 →
    AllByRecursion (AllByRecursion (IsPast now)) after → AreInOrder pod position now after entered
in_order_asked pod position now ports after orders entered x old new rest order put set found since asked first alone untrapped past =
    let fresh : addresses_in entered 0 ≡ rest =
    put.addresses 0 ∙ ap (λ n. without x (addresses_in orders 0) ++ cond (0 == n) (x ∷ []) []) asked ∙ append-nil (without x (addresses_in orders 0))
    ∙ ap (without x) first ∙ without_first x rest (subst (IsDistinct same_pmac) first (order.apart 0)) in
    let behind : addresses_in entered 1 ≡ addresses_in orders 1 ++ x ∷ [] =
    put.addresses 1 ∙ ap (λ n. without x (addresses_in orders 1) ++ cond (1 == n) (x ∷ []) []) asked ∙ ap (λ xs. xs ++ x ∷ []) alone in
    let used : addresses_in entered 1 ++ addresses_in entered 0 ≡ addresses_in orders 1 ++ addresses_in orders 0 =
    ap (λ xs. xs ++ addresses_in entered 0) behind ∙ ap (λ xs. (addresses_in orders 1 ++ x ∷ []) ++ xs) fresh
    ∙ append_assoc (addresses_in orders 1) (x ∷ []) rest ∙ ap (λ xs. addresses_in orders 1 ++ xs) (sym first) in
    let trapped : addresses_in entered 2 ≡ addresses_in orders 2 =
    put.addresses 2 ∙ ap (λ n. without x (addresses_in orders 2) ++ cond (2 == n) (x ∷ []) []) asked ∙ append-nil (without x (addresses_in orders 2))
    ∙ untrapped in
    let same = since_in_place ports after x old new set found since in
    record {
      few = subst (λ n. n ≤ 255) (sym put.many) order.few;
      lists = put.lists ∙ order.lists ∙ ap (λ n. 4 + n) (sym put.many);
      placed = put.listed.placed;
      listed = put.listed.listed;
      apart = put.listed.apart;
      past = past;
      used = subst (DoRise (since_of after)) (sym used)
          (rises_same (since_of ports) (since_of after) (addresses_in orders 1 ++ addresses_in orders 0)
          (all_always (λ y. since_of after y ≡ since_of ports y) same (addresses_in orders 1 ++ addresses_in orders 0)) order.used);
      trapped = subst (DoRise (since_of after)) (sym trapped)
          (rises_same (since_of ports) (since_of after) (addresses_in orders 2)
          (all_always (λ y. since_of after y ≡ since_of ports y) same (addresses_in orders 2)) order.trapped);
    }
