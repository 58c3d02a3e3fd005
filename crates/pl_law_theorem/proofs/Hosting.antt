-- What switches know of the hosts at their ports is what the journal says; and so all is given that each step needs but for groups.
use Rattle.std.proofs.Common.{◌≡◌, ◌⊎◌, ◌≤◌, ◌<◌, ◌+◌, ◌-◌, ◌==◌, ◌&&◌, ◌||◌, not, nat_lt, ℕ, if◌then◌else◌, cond, Bool, true, false, Contains, List, [], ◌∷◌, length, reverse, Option, Some, None, is_none, is_some, option_map, slice_get, refl, sym, ap, subst, ◌∙◌, inl, inr, arith}
use Rattle.std.specs.List.{AllByRecursion}
use Rattle.std.proofs.lemmas.Bool.{and_from, and_parts, cases_Bool, cases_lt, cond-false, cond-true, eq-eqb, eqb-true, false≢true, le-ltb, lt-ltb, or_left, or_right}
use Rattle.std.proofs.lemmas.List.{get_or_past}
use Rattle.std.proofs.lemmas.List.Elements.{All-contains, All-from_recursion}
use Rattle.std.proofs.lemmas.Option.{get_or_from_slice_get, none-some, same_Some}
use Rattle.pl_lemmas.proofs.Exports.{all_found}
use Rattle.pl_frame.specs.declared.address.Mac.{Mac}
use Rattle.pl_frame.specs.Ethernet.{source_of}
use Rattle.pl_pmac.specs.declared.pmac.Pmac.{Pmac}
use Rattle.pl_pmac.specs.Pmac.{PmacFits, pmac_number}
use Rattle.pl_pmac.proofs.Exports.{same_pmac_number}
use Rattle.pl_wiring.specs.declared.host.Host.{Host}
use Rattle.pl_journal.specs.declared.entry.Entry.{Entry}
use Rattle.pl_journal.specs.declared.entry.Entry.TheVariants.{Granted}
use Rattle.pl_journal.specs.Lossy.{mac_of_host}
use Rattle.pl_journal.specs.Places.{EdgePort, are_live_there, at_port, granted_at, has_stood, is_live, is_spent, same_edge_port}
use Rattle.pl_node.specs.AddressUses.{is_held}
use Rattle.pl_node.specs.declared.switch_records.Grant.{Grant}
use Rattle.pl_node.specs.Accounting.{IsShaped}
use Rattle.pl_node.specs.PortRecords.{port_of}
use Rattle.pl_node.specs.SwitchViews.{SwitchView}
use Rattle.pl_switch_rule.specs.Granting.{address_at_port, freed_at, grant_number, granted, grants_at, in_use, is_port_spent, next_vmid, unless_free}
use Rattle.pl_switch_rule.proofs.Exports.{granted_parts}
use Rattle.pl_queues.specs.Queues.{items_at}
use Rattle.pl_world.specs.declared.item.Item.{Item}
use Rattle.pl_world.specs.declared.item.Item.TheVariants.{Data}
use Rattle.pl_world.specs.Booting.{me_of}
use Rattle.pl_world.specs.Changes.{host_of}
use Rattle.pl_world.specs.Worlds.{WorldView}
use Rattle.pl_law_control_plane.specs.ControlPlanes.{control_plane, no_switch}
use Rattle.pl_law_control_plane.specs.HostsAtEdges.{IsAtEdge}
use Rattle.pl_law_addresses.specs.EdgeAddresses.{is_settled}
use Rattle.pl_law_addresses.specs.FreeVmids.{AreFreeVmids, is_free, is_in}
use Rattle.pl_law_addresses.specs.OwnFrames.{IsOwnItem}
use Rattle.pl_law_addresses.proofs.Exports.{number_past, exists_at, granted_here, local_here, number_within, used_is}
use Rattle.pl_law_epochs.proofs.Exports.{world_tables}
use Rattle.pl_law_invariant.specs.ControlInvariant.{ControlInvariant}
use Rattle.pl_law_ledger.specs.Leading.{HoldsLedger}
use Rattle.pl_law_ledger.specs.Ledgers.{IsBacked, IsLedger, ledger}
use Rattle.pl_law_ledger.proofs.Exports.{grounds, IsLast, same_says, Says, source_is, spent_there}
use Rattle.pl_law_flights.specs.Standing.{KnowsHosts, StandsOn, StandsOnHosts}
use Rattle.pl_law_flights.proofs.Exports.{host_by_mac}
use Rattle.pl_law_theorem.proofs.Addressing.{each_entry, fits_at, is_next, knows_addresses}
use Rattle.pl_law_theorem.proofs.Knowing.{knows_neighbours, knows_places}

-- a place in a list of grants
number_there : (gs : List Grant) (n : ℕ) → n < length gs → (g : Grant) × (grant_number gs (n + 1) ≡ Some g)
number_there gs n less =
    let at = exists_at gs n less in
    let other : (n + 1 == 0) ≡ false = not_zero (n + 1) (omega arith) in
    let back : n + 1 - 1 ≡ n = omega arith in
    (at.0, ap (λ b. cond b None (slice_get gs (n + 1 - 1))) other ∙ ap (λ m. slice_get gs m) back ∙ at.1)
  where
    not_zero : (m : ℕ) → 0 < m → (m == 0) ≡ false
    not_zero m h = elim (cases_Bool (m == 0)) [ inl is ↦ (let z = eqb-true m 0 is in absurd (omega (arith, h, z))) | inr other ↦ other ]

-- ---- the next vmid of a port
not_true : (b : Bool) → not b ≡ false → b ≡ true
not_true true is = refl
not_true false is = absurd (false≢true (sym is))

free_is : (o : Option Grant) → is_free o ≡ true → unless_free o ≡ None
free_is None is = refl
free_is (Some g) is = by (is_held g.held) is
  where
    by : (b : Bool) → not b ≡ true → cond b (Some g) None ≡ None
    by true h = absurd (false≢true h)
    by false h = refl

-- it is that of an address that is free, or was not granted, and none is larger than the largest
next_free : (freed : List ℕ) (grants : List Grant) (vmid : ℕ) → AreFreeVmids grants freed → length grants ≤ 65535 → next_vmid freed grants ≡ Some vmid →
    (unless_free (grant_number grants vmid) ≡ None) × (vmid ≤ 65535)
next_free (n ∷ freed) grants vmid are few is =
    let same : n ≡ vmid = same_Some n vmid is in
    let free : is_free (grant_number grants n) ≡ true = sym (are.listed n) ∙ or_left (n == n) (is_in n freed) (eq-eqb n n refl) in
    let there = some_free (grant_number grants n) free in
    let low = (number_within grants n there.0 there.1).1 in
    (ap (λ m. unless_free (grant_number grants m)) (sym same) ∙ free_is (grant_number grants n) free, omega (arith, same, low, few))
  where
    some_free : (o : Option Grant) → is_free o ≡ true → (g : Grant) × (o ≡ Some g)
    some_free None is = absurd (false≢true is)
    some_free (Some g) is = (g, refl)
next_free [] grants vmid are few is = by (cases_lt (length grants) 65535)
  where
    by : (length grants < 65535) ⊎ (65535 ≤ length grants) → (unless_free (grant_number grants vmid) ≡ None) × (vmid ≤ 65535)
    by (inl less) =
        let same : length grants + 1 ≡ vmid = same_Some (length grants + 1) vmid
        (sym (cond-true (nat_lt (length grants) 65535) (Some (length grants + 1)) None (lt-ltb (length grants) 65535 less)) ∙ is) in
        (ap (λ m. unless_free (grant_number grants m)) (sym same) ∙ ap unless_free (number_past grants), omega (arith, same, less))
    by (inr more) = absurd (none-some vmid (sym (cond-false (nat_lt (length grants) 65535) (Some (length grants + 1)) None (le-ltb (length grants) 65535 more))
        ∙ is))

-- where there is none, the largest was given, and no address is free
none_next : (freed : List ℕ) (grants : List Grant) → not (is_some (next_vmid freed grants)) ≡ true → (freed ≡ []) × (65535 ≤ length grants)
none_next (n ∷ freed) grants none = absurd (false≢true none)
none_next [] grants none = (refl, by (cases_lt (length grants) 65535))
  where
    by : (length grants < 65535) ⊎ (65535 ≤ length grants) → 65535 ≤ length grants
    by (inl less) = absurd (false≢true (sym (ap (λ b. not (is_some (cond b (Some (length grants + 1)) None))) (lt-ltb (length grants) 65535 less)) ∙ none))
    by (inr more) = more

-- ---- each address that was granted at a port is live
abbrev IsLiveAt : (ℕ → Bool) → EdgePort → Entry → Type 0
IsLiveAt live there (Granted y h e p) = same_edge_port (at_port e.0 p) there ≡ true → live (pmac_number y) ≡ true
IsLiveAt live there entry = Unit {0}

live_at : (live : ℕ → Bool) (entries : List Entry) (there : EdgePort) → AllByRecursion (IsLiveAt live there) entries → are_live_there live entries there ≡ true
live_at live [] there all = refl
live_at live (Granted y h e p ∷ entries) there all =
    and_from (not (same_edge_port (at_port e.0 p) there) || live (pmac_number y)) (are_live_there live entries there)
    (elim (cases_Bool (same_edge_port (at_port e.0 p) there)) [
      | inl same ↦ or_right (not (same_edge_port (at_port e.0 p) there)) (live (pmac_number y)) (all.0 same)
      | inr other ↦ or_left (not (same_edge_port (at_port e.0 p) there)) (live (pmac_number y)) (ap not other)
    ]) (live_at live entries there all.1)
live_at live (entry ∷ entries) there all = live_at live entries there all.1

-- ---- the address that a host was granted last at a port, by its ledger alone
same_granted : (past : List Entry) (h : ℕ) (there : EdgePort) → granted_at past h there ≡ granted_at (ledger past) h there
same_granted [] h there = refl
same_granted (Granted y g e p ∷ past) h there = ap (λ (o : Option Pmac). if (g.0 == h) && same_edge_port (at_port e.0 p) there then Some y else o)
    (same_granted past h there)
same_granted (entry ∷ past) h there = same_granted past h there

module _ (w : WorldView) (kept : ControlInvariant w) (entered : IsLedger w) where
  size_at : (t : ℕ) (v : SwitchView) → slice_get w.switches t ≡ Some v → IsShaped v
  size_at t v found = all_found IsShaped w.switches t v kept.counted.shaped found

  -- the address that a host has in use at a port is the last that it was granted there
  used_so : (t : ℕ) (v : SwitchView) → slice_get w.switches t ≡ Some v → (port vmid h : ℕ) (amac : Mac) → is_settled v.place ≡ true →
      in_use (grants_at v port) amac ≡ Some vmid →
      mac_of_host w.plan h ≡ Some amac → granted_at (reverse w.journal) h (at_port t port) ≡ Some (address_at_port v port vmid)
  used_so t v found port vmid h amac settled uses of =
      let u = used_is (grants_at v port) amac vmid uses in
      let x : Pmac = address_at_port v port vmid in
      let here = local_here v port vmid settled in
      let is : granted v x ≡ Some u.grant = granted_here v x here ∙ u.found in
      let host : host_of w.plan u.grant.amac ≡ Some h = ap (host_of w.plan) u.mac_is ∙ host_by_mac w.plan h amac kept.counted.formed.plan of in
      same_granted (reverse w.journal) h (at_port t port) ∙ entered.last t v x u.grant h found is u.used host

  -- where no address of a port is free, each one that was granted there is live
  live_so : (t : ℕ) (v : SwitchView) → slice_get w.switches t ≡ Some v → (port : ℕ) → freed_at v port ≡ [] →
      are_live_there (is_live (reverse w.journal)) (reverse w.journal) (at_port t port) ≡ true
  live_so t v found port none_free =
      let past : List Entry = reverse w.journal in
      ap (λ (f : Says). f.all_live (is_live past) (at_port t port)) (sym (same_says w.plan past))
      ∙ live_at (is_live past) (ledger past) (at_port t port) (each_entry (IsBacked w.switches) (IsLiveAt (is_live past) (at_port t port)) one_live
      (ledger past) entered.backed)
    where
      one_live : (entry : Entry) → IsBacked w.switches entry → IsLiveAt (is_live (reverse w.journal)) (at_port t port) entry
      one_live (Granted y h e p) there = λ same.
          let parts = and_parts (e.0 == t) (p == port) same in
          let at : y.port ≡ port = sym there.port_is ∙ eqb-true p port parts.1 in
          let view : there.view ≡ v = same_Some there.view v (sym there.found ∙ ap (slice_get w.switches) (eqb-true e.0 t parts.0) ∙ found) in
          let numbered : grant_number (grants_at v port) y.vmid ≡ Some there.grant =
          ap (λ n. grant_number (grants_at v n) y.vmid) (sym at) ∙ ap (λ (u : SwitchView). grant_number (grants_at u y.port) y.vmid) (sym view) ∙
          (granted_parts there.view y there.grant there.is).1 in
          let listed = (world_tables w kept.counted kept.addresses t v found).free port in
          let unlisted : is_in y.vmid (freed_at v port) ≡ false = ap (λ (vs : List ℕ). is_in y.vmid vs) none_free in
          let held : is_held there.grant.held ≡ true = not_true (is_held there.grant.held)
          (ap is_free (sym numbered) ∙ sym (listed.listed y.vmid) ∙ unlisted) in
          ap (λ (f : Says). f.live (pmac_number y)) (sym (same_says w.plan (reverse w.journal))) ∙
          (entered.grants e.0 there.view y there.grant there.found there.is).live ∙ held
      one_live entry there = tt

  -- a port that has given the largest vmid
  largest_given : (t : ℕ) (v : SwitchView) → slice_get w.switches t ≡ Some v → (port : ℕ) → is_settled v.place ≡ true → 65535 ≤ length (grants_at v port) →
      is_spent (reverse w.journal) (at_port t port) ≡ true
  largest_given t v found port settled many =
      let at = number_there (grants_at v port) 65534 (omega (arith, many)) in
      let x : Pmac = address_at_port v port 65535 in
      let here = local_here v port 65535 settled in
      let is : granted v x ≡ Some at.0 = granted_here v x here ∙ at.1 in
      let e = entered.grants t v x at.0 found is in
      ap (λ (f : Says). f.spent (at_port t port)) (sym (same_says w.plan (reverse w.journal)))
      ∙ spent_there (ledger (reverse w.journal)) (pmac_number x) (at_port t port)
      (each_entry (IsBacked w.switches) (IsLast (pmac_number x)) (last_entry x (fits_at w kept entered t v x at.0 found is) refl)
      (ledger (reverse w.journal)) entered.backed) e.there
    where
      last_entry : (x : Pmac) → PmacFits x → x.vmid ≡ 65535 → (entry : Entry) → IsBacked w.switches entry → IsLast (pmac_number x) entry
      last_entry x fits last (Granted y h e p) there = λ same.
          ap (λ (z : Pmac). z.vmid) (same_pmac_number y x (fits_at w kept entered e.0 there.view y there.grant there.found there.is) fits same) ∙ last
      last_entry x fits last entry there = tt

  -- and each of whose addresses is live, since none is free
  spent_so : (t : ℕ) (v : SwitchView) → slice_get w.switches t ≡ Some v → (port : ℕ) → is_settled v.place ≡ true → is_port_spent v port ≡ true →
      (is_spent (reverse w.journal) (at_port t port) && are_live_there (is_live (reverse w.journal)) (reverse w.journal) (at_port t port)) ≡ true
  spent_so t v found port settled spent =
      let none = none_next (freed_at v port) (grants_at v port) spent in
      and_from (is_spent (reverse w.journal) (at_port t port)) (are_live_there (is_live (reverse w.journal)) (reverse w.journal) (at_port t port))
      (largest_given t v found port settled none.1) (live_so t v found port none.0)

  view_at : (t : ℕ) (v : SwitchView) → slice_get w.switches t ≡ Some v → (control_plane w).view t ≡ v
  view_at t v found = get_or_from_slice_get w.switches t v no_switch found

  knows_hosts : (t : ℕ) (v : SwitchView) → slice_get w.switches t ≡ Some v → KnowsHosts w.plan (reverse w.journal) t v
  unfolding view_at
  knows_hosts t v found =
      let address_table = world_tables w kept.counted kept.addresses t v found in
      let shaped = size_at t v found in
      record {
        unheard = λ port free.
            let none : (port_of v port).heard ≡ None = ap (λ (u : SwitchView). (port_of u port).heard) (sym (view_at t v found))
            ∙ kept.placed.strangers t port free in
            or_right (port_of v port).host (is_none (port_of v port).heard) (ap is_none none);
        positions = λ n is.
            let own = (kept.placed.own t).position n (ap (λ (u : SwitchView). u.place.position) (view_at t v found) ∙ is) in
            ap (λ (u : SwitchView). u.place.level) (sym (view_at t v found)) ∙ own.0;
        tables = address_table.many;
        used = used_so t v found;
        spent = spent_so t v found;
        empty = address_table.empty;
        stood = λ port h source is of.
            let e = entered.sources t v port source found is in
            let same : e.host ≡ h = same_Some e.host h (sym e.of_mac ∙ of) in
            ap (λ (f : Says). f.stood h (at_port t port)) (sym (same_says w.plan (reverse w.journal)))
            ∙ subst (λ (n : ℕ). has_stood w.plan (ledger (reverse w.journal)) n (at_port t port) ≡ true) same e.stood;
        next = λ port vmid free within settled next.
            let x : Pmac = address_at_port v port vmid in
            let here = local_here v port vmid settled in
            let size : v.k ≡ w.plan.k = all_found (λ (u : SwitchView). u.k ≡ w.plan.k) w.switches t v kept.counted.formed.ports found in
            let is = next_free (freed_at v port) (grants_at v port) vmid (address_table.free port) (entered.few t v port found) next in
            is_next w kept entered t v found x here (ap unless_free (granted_here v x here) ∙ is.0) (subst (λ n. port < n) (sym size) within) shaped.high is.1;
      }

  own_item : (h id : ℕ) (frame : List ℕ) → Contains (items_at w.from_hosts h) (Data id frame) → mac_of_host w.plan h ≡ Some (source_of frame)
  own_item h id frame there = elim (cases_lt h (length w.from_hosts)) [
    | inr past ↦ (let none = (subst (λ (xs : List Item). Contains xs (Data id frame)) (get_or_past w.from_hosts h [] past) there).1 in absurd
        (omega (arith, none)))
    | inl within ↦
        let formed = kept.counted.formed in
        let host = exists_at w.plan.hosts h (subst (λ n. h < n) formed.from_hosts within) in
        let view = exists_at w.hosts h (subst (λ n. h < n) (formed.from_hosts ∙ sym formed.hosts) within) in
        let all = (kept.own h host.0 view.0 host.1 view.1).sends in
        let mine = All-contains (IsOwnItem (me_of host.0)) (items_at w.from_hosts h) (Data id frame)
        (All-from_recursion (IsOwnItem (me_of host.0)) (items_at w.from_hosts h) all) there in
        ap (option_map (λ (x : Host). x.mac)) host.1 ∙ ap Some (sym (source_is host.0 frame mine))
  ]

  pub stands_on_hosts : StandsOnHosts w
  stands_on_hosts = record {
    hosts = knows_hosts;
    at_ports = λ h attachment is. let edge : IsAtEdge w.plan attachment = all_found (IsAtEdge w.plan) w.attachments h attachment kept.hosts is in
        (edge.free, edge.port);
    own = own_item;
  }

pub stands_on : (w : WorldView) → ControlInvariant w → HoldsLedger w → StandsOn w
stands_on w kept holds = record {
  places = knows_places w kept;
  neighbours = knows_neighbours w kept;
  addresses = knows_addresses w kept holds;
  evidence = (grounds w kept).neighbours;
}
