-- The view of an address table where one of its addresses is used for something else from now on, or is granted for the first time.
use Rattle.std.proofs.Common.{◌≡◌, ◌<◌, ◌≤◌, ℕ, zero, suc, ◌+◌, ◌-◌, ◌==◌, ◌⊎◌, Bool, true, false, cond, not, List, [], ◌∷◌, ◌++◌, length, map, Option, Some, None, get_or, is_some, refl, inl, inr, sym, ap, subst, ◌∙◌, arith}
use Rattle.std.specs.List.{range_with_len}
use Rattle.std.specs.Prelude.{slice_index_or, slice_set}
use Rattle.std.proofs.lemmas.Bool.{cases_eq, eq-eqb, ne_eqb}
use Rattle.std.proofs.lemmas.List.Elements.{filter-append}
use Rattle.std.proofs.lemmas.List.{append-nil, map-set, map_push, set-get_or}
use Rattle.pl_pmac.specs.declared.pmac.Pmac.{Pmac}
use Rattle.pl_layouts.specs.Equality.{same_pmac}
use Rattle.pl_pool.specs.declared.key.Key.{Key}
use Rattle.pl_pool.specs.Pool.{Lists}
use Rattle.pl_node.specs.declared.switch_records.Grant.{Grant}
use Rattle.pl_node.specs.AddressUses.{is_held, is_in_use, standing_trap}
use Rattle.pl_node.specs.declared.address_use.AddressUse.{AddressUse}
use Rattle.pl_node.specs.declared.address_use.AddressUse.TheVariants as as_used
use Rattle.pl_node.specs.declared.trap.Trap.{Trap}
use Rattle.pl_node.specs.PortRecords.{ports_of_switch}
use Rattle.pl_node.specs.SwitchViews.{SwitchView}
use Rattle.pl_switch_rule.specs.Granting.{without}
use Rattle.pl_migrate.specs.AddressTables.{AddressTableView, address_table_in, edge_at}
use Rattle.pl_migrate.specs.declared.tenancy.Standing.{Standing}
use Rattle.pl_migrate.specs.declared.tenancy.Standing.TheVariants.{Fresh, Asked, Trapped, Resting, Free}
use Rattle.pl_migrate.specs.declared.tenancy.Tenancy.{Tenancy}
use Rattle.pl_migrate.specs.Orders.{with_tenancy}
use Rattle.pl_migrate.specs.Standings.{CanStandAs, is_resting, stands_as}
use Rattle.pl_migrate.specs.Tenancies.{AreInOrder, addresses_in, freed_in, grant_of, is_of, is_used_so, list_of, table_view, tenancy_at, use_after}
use Rattle.pl_migrate.proofs.Entries.{get_or_map, tenancies_of}
use Rattle.pl_migrate.proofs.Listed.{AreListed, absent_elsewhere, are_listed}
use Rattle.pl_migrate.proofs.Placed.{IsPut, used_put}

-- Functions over a range, where one changes at one number.

map_range_same : {X : Type 0} (f g : ℕ → X) (n a p : ℕ) → p < a → ((q : ℕ) → (q ≡ p → ⊥) → g q ≡ f q) → map g (range_with_len a n) ≡ map f (range_with_len a n)
map_range_same f g zero a p before same = refl
map_range_same f g (suc n) a p before same =
    ap (λ y. y ∷ map g (range_with_len (a + 1) n)) (same a (λ e. omega arith)) ∙ ap (λ ys. f a ∷ ys) (map_range_same f g n (a + 1) p (omega arith) same)

map_range_set : {X : Type 0} (f g : ℕ → X) (n a i p : ℕ) → a + i ≡ p → ((q : ℕ) → (q ≡ p → ⊥) → g q ≡ f q) →
    map g (range_with_len a n) ≡ slice_set (map f (range_with_len a n)) i (g p)
map_range_set f g zero a i p at same = refl
map_range_set f g (suc n) a zero p at same =
    let here : a ≡ p = omega arith in
    ap (λ q. g q ∷ map g (range_with_len (a + 1) n)) here ∙ ap (λ ys. g p ∷ ys) (map_range_same f g n (a + 1) p (omega arith) same)
map_range_set f g (suc n) a (suc i) p at same =
    ap (λ y. y ∷ map g (range_with_len (a + 1) n)) (same a (λ e. omega arith)) ∙ ap (λ ys. f a ∷ ys) (map_range_set f g n (a + 1) i p (omega arith) same)

map_range_at : {X : Type 0} (f : ℕ → X) (n a i : ℕ) (d : X) → i < n → get_or (map f (range_with_len a n)) i d ≡ f (a + i)
map_range_at f zero a i d within = absurd (omega arith)
map_range_at f (suc n) a zero d within = ap f (omega arith)
map_range_at f (suc n) a (suc i) d within = map_range_at f n (a + 1) i d (omega arith) ∙ ap f (omega arith)

map_same : {X Y : Type 0} (f g : X → Y) → ((x : X) → g x ≡ f x) → (xs : List X) → map g xs ≡ map f xs
map_same f g same [] = refl
map_same f g same (x ∷ xs) = ap (λ y. y ∷ map g xs) (same x) ∙ ap (λ ys. f x ∷ ys) (map_same f g same xs)

-- Grants.

abbrev grants_in : ℕ → List (List Tenancy) → List (List Grant)
grants_in now ports = map (map (grant_of now)) ports

abbrev pub grants_at_port : List (List Grant) → ℕ → List Grant
grants_at_port grants port = slice_index_or grants port []

pub grants_of_port : (now : ℕ) (ports : List (List Tenancy)) (port : ℕ) → grants_at_port (grants_in now ports) port
    ≡ map (grant_of now) (tenancies_of ports port)
grants_of_port now ports port = get_or_map (map (grant_of now)) ports port []

pub grants_in_place : (now : ℕ) (ports : List (List Tenancy)) (x : Pmac) (new : Tenancy) →
    grants_in now (with_tenancy ports x new)
    ≡ slice_set (grants_in now ports) x.port (slice_set (grants_at_port (grants_in now ports) x.port) (x.vmid - 1) (grant_of now new))
grants_in_place now ports x new =
    map-set (map (grant_of now)) ports x.port (slice_set (tenancies_of ports x.port) (x.vmid - 1) new)
    ∙ ap (slice_set (grants_in now ports) x.port)
    (map-set (grant_of now) (tenancies_of ports x.port) (x.vmid - 1) new
    ∙ ap (λ (gs : List Grant). slice_set gs (x.vmid - 1) (grant_of now new)) (sym (grants_of_port now ports x.port)))

pub grants_behind : (now : ℕ) (ports : List (List Tenancy)) (port : ℕ) (new : Tenancy) →
    grants_in now (slice_set ports port (tenancies_of ports port ++ new ∷ []))
    ≡ slice_set (grants_in now ports) port (grants_at_port (grants_in now ports) port ++ grant_of now new ∷ [])
grants_behind now ports port new =
    map-set (map (grant_of now)) ports port (tenancies_of ports port ++ new ∷ [])
    ∙ ap (slice_set (grants_in now ports) port)
    (map_push (grant_of now) (tenancies_of ports port) new
    ∙ ap (λ (gs : List Grant). gs ++ grant_of now new ∷ []) (sym (grants_of_port now ports port)))

-- Free addresses.

abbrev all_freed : Lists Pmac → ℕ → List (List ℕ)
all_freed orders many = map (freed_in orders) (ports_of_switch many)

pub freed_at_port : (orders : Lists Pmac) (many port : ℕ) → port < many → slice_index_or (all_freed orders many) port [] ≡ freed_in orders port
freed_at_port orders many port within = map_range_at (freed_in orders) many 0 port [] within ∙ ap (freed_in orders) (omega arith)

pub freed_at_one : (orders entered : Lists Pmac) (many after port : ℕ) → after ≡ many → ((q : ℕ) → (q ≡ port → ⊥) → freed_in entered q ≡ freed_in orders q) →
    all_freed entered after ≡ slice_set (all_freed orders many) port (freed_in entered port)
freed_at_one orders entered many after port same others =
    ap (all_freed entered) same ∙ map_range_set (freed_in orders) (freed_in entered) many 0 port port (omega arith) others

pub freed_nowhere : (orders entered : Lists Pmac) (many after : ℕ) → after ≡ many → ((q : ℕ) → freed_in entered q ≡ freed_in orders q) →
    all_freed entered after ≡ all_freed orders many
freed_nowhere orders entered many after same all = ap (all_freed entered) same ∙ map_same (freed_in orders) (freed_in entered) all (ports_of_switch many)

-- Where an address stands by what it is used for.

in_a_free_list : (ticks port q : ℕ) (standing : Standing) → is_held (use_after ticks standing) ≡ true → 4 + q ≡ list_of port standing → ⊥
in_a_free_list ticks port q Fresh held is = omega arith
in_a_free_list ticks port q Asked held is = omega arith
in_a_free_list ticks port q (Trapped trap) held is = omega arith
in_a_free_list ticks port q (Resting number) held is = omega arith
in_a_free_list ticks port q Free held is = let e = held in cc

used_is_held : (held : AddressUse) → is_in_use held ≡ true → is_held held ≡ true
used_is_held (as_used.InUse idle) used = refl
used_is_held (as_used.Trapped trap age) used = refl
used_is_held (as_used.Resting number) used = refl
used_is_held as_used.Free used = used

trapped_is_held : (held : AddressUse) → is_some (standing_trap held) ≡ true → is_held held ≡ true
trapped_is_held (as_used.InUse idle) trapped = refl
trapped_is_held (as_used.Trapped trap age) trapped = refl
trapped_is_held (as_used.Resting number) trapped = refl
trapped_is_held as_used.Free trapped = trapped

used_untrapped : (ticks port : ℕ) (standing : Standing) → is_in_use (use_after ticks standing) ≡ true → 2 ≡ list_of port standing → ⊥
used_untrapped ticks port Fresh used is = omega arith
used_untrapped ticks port Asked used is = omega arith
used_untrapped ticks port (Trapped trap) used is = let e = used in cc
used_untrapped ticks port (Resting number) used is = let e = used in cc
used_untrapped ticks port Free used is = let e = used in cc

rests_in : (ticks port : ℕ) (standing : Standing) → is_resting (use_after ticks standing) ≡ true → list_of port standing ≡ 3
rests_in ticks port Fresh resting = let e = resting in cc
rests_in ticks port Asked resting = let e = resting in cc
rests_in ticks port (Trapped trap) resting = let e = resting in cc
rests_in ticks port (Resting number) resting = refl
rests_in ticks port Free resting = let e = resting in cc

-- The views of the whole switch.

abbrev pub of_parts : ℕ → ℕ → List (List Grant) → List Pmac → List Pmac → List (List ℕ) → SwitchView → SwitchView
of_parts pod position grants used trapped freed v =
    record v { place = edge_at pod position; grants = grants; used = used; trapped = trapped; freed = freed }

pub same_parts : (pod position : ℕ) (a b : List (List Grant)) (c d e f : List Pmac) (g h : List (List ℕ)) (v : SwitchView) → a ≡ b → c ≡ d → e ≡ f → g ≡ h →
    of_parts pod position a c e g v ≡ of_parts pod position b d f h v
same_parts pod position a b c d e f g h v grants used trapped freed = λ i. of_parts pod position (grants i) (used i) (trapped i) (freed i) v

module _ (pod position now : ℕ) (ports after : List (List Tenancy)) (orders entered : Lists Pmac) (x : Pmac) (old new : Tenancy)
    (order : AreInOrder pod position now ports orders) (found : tenancy_at ports x ≡ Some old)
    (put : IsPut pod position ports after orders entered x new) (placed : after ≡ with_tenancy ports x new) where
  abbrev before : AddressTableView
  before = table_view pod position now ports orders

  abbrev then_table : AddressTableView
  then_table = table_view pod position now after entered

  abbrev used : List Pmac
  used = addresses_in orders 1 ++ addresses_in orders 0

  abbrev stood : ℕ
  stood = list_of x.port old.standing

  away : (list : ℕ) → (list ≡ stood → ⊥) → without x (addresses_in orders list) ≡ addresses_in orders list
  away list apart = absent_elsewhere pod position ports orders x old (are_listed pod position now ports orders order) found list apart

  pub grants_put : (held : AddressUse) → grant_of now new ≡ record (grant_of now old) { held = held } →
      grants_in now after ≡ slice_set (grants_in now ports) x.port (slice_set (grants_at_port (grants_in now ports) x.port) (x.vmid - 1)
      (record (grant_of now old) { held = held }))
  grants_put held is =
      ap (grants_in now) placed ∙ grants_in_place now ports x new
      ∙ ap (λ (g : Grant). slice_set (grants_in now ports) x.port (slice_set (grants_at_port (grants_in now ports) x.port) (x.vmid - 1) g)) is

  -- nothing of the free ones changes, where it was not free, and is not free then
  freed_put : ((q : ℕ) → 4 + q ≡ stood → ⊥) → ((q : ℕ) → (4 + q == list_of x.port new.standing) ≡ false) → then_table.freed ≡ before.freed
  freed_put unfree still = freed_nowhere orders entered (length ports) (length after) put.many
      (λ q. ap (λ xs. map (λ (y : Pmac). y.vmid) xs)
      (put.addresses (4 + q) ∙ ap (λ b. without x (addresses_in orders (4 + q)) ++ cond b (x ∷ []) []) (still q)
      ∙ append-nil (without x (addresses_in orders (4 + q))) ∙ away (4 + q) (unfree q)))

  list_put : (list : ℕ) → (list == list_of x.port new.standing) ≡ false → addresses_in entered list ≡ without x (addresses_in orders list)
  list_put list no_more =
      put.addresses list ∙ ap (λ b. without x (addresses_in orders list) ++ cond b (x ∷ []) []) no_more ∙ append-nil (without x (addresses_in orders list))

  -- its host uses it
  pub put_fresh : (held : AddressUse) → grant_of now new ≡ record (grant_of now old) { held = held } → list_of x.port new.standing ≡ 0 →
      is_in_use (grant_of now old).held ≡ true → (v : SwitchView) →
      address_table_in then_table v
      ≡ of_parts pod position
      (slice_set (grants_in now ports) x.port (slice_set (grants_at_port (grants_in now ports) x.port) (x.vmid - 1)
      (record (grant_of now old) { held = held })))
      (without x used ++ x ∷ []) before.trapped before.freed v
  put_fresh held is to uses v = same_parts pod position _ _ _ _ _ _ _ _ v
      (grants_put held is)
      (used_put pod position ports after orders entered x new put (ap (λ n. 1 == n) to) ∙ ap (λ n. without x used ++ cond (0 == n) (x ∷ []) []) to)
      (list_put 2 (ap (λ n. 2 == n) to) ∙ away 2 (used_untrapped (now - old.since) x.port old.standing uses))
      (freed_put (λ q. in_a_free_list (now - old.since) x.port q old.standing (used_is_held (use_after (now - old.since) old.standing) uses))
      (λ q. ap (λ n. 4 + q == n) to ∙ ne_eqb (4 + q) 0 (λ e. omega arith)))

  -- a trap is set for it
  pub put_trapped : (held : AddressUse) → grant_of now new ≡ record (grant_of now old) { held = held } → list_of x.port new.standing ≡ 2 →
      is_held (grant_of now old).held ≡ true → (v : SwitchView) →
      address_table_in then_table v
      ≡ of_parts pod position
      (slice_set (grants_in now ports) x.port (slice_set (grants_at_port (grants_in now ports) x.port) (x.vmid - 1)
      (record (grant_of now old) { held = held })))
      (without x used) (without x before.trapped ++ x ∷ []) before.freed v
  put_trapped held is to stands v = same_parts pod position _ _ _ _ _ _ _ _ v
      (grants_put held is)
      (used_put pod position ports after orders entered x new put (ap (λ n. 1 == n) to) ∙ ap (λ n. without x used ++ cond (0 == n) (x ∷ []) []) to
      ∙ append-nil (without x used))
      (put.addresses 2 ∙ ap (λ n. without x before.trapped ++ cond (2 == n) (x ∷ []) []) to)
      (freed_put (λ q. in_a_free_list (now - old.since) x.port q old.standing stands) (λ q. ap (λ n. 4 + q == n) to ∙ ne_eqb (4 + q) 2 (λ e. omega arith)))

  -- it comes to rest
  pub put_resting : (held : AddressUse) → grant_of now new ≡ record (grant_of now old) { held = held } → list_of x.port new.standing ≡ 3 →
      is_held (grant_of now old).held ≡ true → (v : SwitchView) →
      address_table_in then_table v
      ≡ of_parts pod position
      (slice_set (grants_in now ports) x.port (slice_set (grants_at_port (grants_in now ports) x.port) (x.vmid - 1)
      (record (grant_of now old) { held = held })))
      (without x used) (without x before.trapped) before.freed v
  put_resting held is to stands v = same_parts pod position _ _ _ _ _ _ _ _ v
      (grants_put held is)
      (used_put pod position ports after orders entered x new put (ap (λ n. 1 == n) to) ∙ ap (λ n. without x used ++ cond (0 == n) (x ∷ []) []) to
      ∙ append-nil (without x used))
      (list_put 2 (ap (λ n. 2 == n) to))
      (freed_put (λ q. in_a_free_list (now - old.since) x.port q old.standing stands) (λ q. ap (λ n. 4 + q == n) to ∙ ne_eqb (4 + q) 3 (λ e. omega arith)))

  -- it is free
  pub put_free : (held : AddressUse) → grant_of now new ≡ record (grant_of now old) { held = held } → list_of x.port new.standing ≡ 4 + x.port →
      is_resting (grant_of now old).held ≡ true → x.port < length ports → (v : SwitchView) →
      address_table_in then_table v
      ≡ of_parts pod position
      (slice_set (grants_in now ports) x.port (slice_set (grants_at_port (grants_in now ports) x.port) (x.vmid - 1)
      (record (grant_of now old) { held = held })))
      used before.trapped (slice_set before.freed x.port (slice_index_or before.freed x.port [] ++ x.vmid ∷ [])) v
  put_free held is to rests within v =
      let stands : stood ≡ 3 = rests_in (now - old.since) x.port old.standing rests in
      let not_listed : (n : ℕ) → (n ≡ 3 → ⊥) → n ≡ stood → ⊥ = (λ n apart e. apart (e ∙ stands)) in
      same_parts pod position _ _ _ _ _ _ _ _ v
      (grants_put held is)
      (used_put pod position ports after orders entered x new put (ap (λ n. 1 == n) to ∙ ne_eqb 1 (4 + x.port) (λ e. omega arith))
      ∙ ap (λ b. without x used ++ cond b (x ∷ []) []) (ap (λ n. 0 == n) to ∙ ne_eqb 0 (4 + x.port) (λ e. omega arith)) ∙ append-nil (without x used)
      ∙ filter-append (λ other. not (same_pmac other x)) (addresses_in orders 1) (addresses_in orders 0)
      ∙ ap (λ xs. xs ++ without x (addresses_in orders 0)) (away 1 (not_listed 1 (λ e. omega arith)))
      ∙ ap (λ xs. addresses_in orders 1 ++ xs) (away 0 (not_listed 0 (λ e. omega arith))))
      (list_put 2 (ap (λ n. 2 == n) to ∙ ne_eqb 2 (4 + x.port) (λ e. omega arith)) ∙ away 2 (not_listed 2 (λ e. omega arith)))
      (freed_at_one orders entered (length ports) (length after) x.port put.many
      (λ q apart. ap (λ xs. map (λ (y : Pmac). y.vmid) xs)
      (list_put (4 + q) (ap (λ n. 4 + q == n) to ∙ ne_eqb (4 + q) (4 + x.port) (λ e. apart (omega arith)))
      ∙ away (4 + q) (not_listed (4 + q) (λ e. omega arith))))
      ∙ ap (slice_set before.freed x.port)
      (ap (λ xs. map (λ (y : Pmac). y.vmid) xs)
      (put.addresses (4 + x.port) ∙ ap (λ b. without x (addresses_in orders (4 + x.port)) ++ cond b (x ∷ []) []) (ap (λ n. 4 + x.port == n) to
      ∙ eq-eqb (4 + x.port) (4 + x.port) refl)
      ∙ ap (λ xs. xs ++ x ∷ []) (away (4 + x.port) (not_listed (4 + x.port) (λ e. omega arith))))
      ∙ map_push (λ (y : Pmac). y.vmid) (addresses_in orders (4 + x.port)) x
      ∙ ap (λ xs. xs ++ x.vmid ∷ []) (sym (freed_at_port orders (length ports) x.port within))))

-- What an address that was granted is used for changes now.

abbrev pub standing_now : Tenancy → Standing → ℕ → Key → Tenancy
standing_now old standing now key = record old { standing = standing; since = now; key = key }

none_idle : (now : ℕ) → now - now ≡ 0
none_idle now = omega arith

trapped_or_used : (held : AddressUse) → (is_in_use held ≡ true) ⊎ (is_some (standing_trap held) ≡ true) → is_held held ≡ true
trapped_or_used held (inl used) = used_is_held held used
trapped_or_used held (inr trapped) = trapped_is_held held trapped

pub stands_now : (pod position now : ℕ) (ports after : List (List Tenancy)) (orders entered : Lists Pmac) (x : Pmac) (old : Tenancy) (standing : Standing)
    (key : Key) →
    AreInOrder pod position now ports orders → tenancy_at ports x ≡ Some old → CanStandAs standing (grant_of now old) →
    IsPut pod position ports after orders entered x (standing_now old standing now key) →
    after ≡ with_tenancy ports x (standing_now old standing now key) → x.port < length ports →
    (v : SwitchView) → address_table_in (table_view pod position now after entered) v
    ≡ stands_as standing (address_table_in (table_view pod position now ports orders) v) x (grant_of now old)
stands_now pod position now ports after orders entered x old Fresh key order found can put placed within v =
    put_fresh pod position now ports after orders entered x old (standing_now old Fresh now key) order found put placed (as_used.InUse 0)
    (ap (λ n. record (grant_of now old) { held = as_used.InUse n }) (none_idle now)) refl can v
stands_now pod position now ports after orders entered x old Asked key order found can put placed within v = absurd can
stands_now pod position now ports after orders entered x old (Trapped trap) key order found can put placed within v =
    put_trapped pod position now ports after orders entered x old (standing_now old (Trapped trap) now key) order found put placed (as_used.Trapped trap 0)
    (ap (λ n. record (grant_of now old) { held = as_used.Trapped trap n }) (none_idle now)) refl can v
stands_now pod position now ports after orders entered x old (Resting number) key order found can put placed within v =
    put_resting pod position now ports after orders entered x old (standing_now old (Resting number) now key) order found put placed (as_used.Resting number)
    refl refl (trapped_or_used (use_after (now - old.since) old.standing) can) v
stands_now pod position now ports after orders entered x old Free key order found can put placed within v =
    put_free pod position now ports after orders entered x old (standing_now old Free now key) order found put placed as_used.Free
    refl refl can within v
