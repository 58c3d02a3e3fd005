-- What switches know of addresses is what the journal says of them.
use Rattle.std.proofs.Common.{◌≡◌, ◌≤◌, ◌<◌, ◌%◌, ◌^◌, ◌==◌, ◌&&◌, ℕ, Bool, true, false, List, [], ◌∷◌, length, reverse, Option, Some, None, option_map, slice_get, slice_index, refl, sym, ap, subst, subst₂, ◌∙◌, inl, inr, arith}
use Rattle.std.specs.List.{AllByRecursion}
use Rattle.std.proofs.lemmas.Bool.{and_from, and_parts, cases_Bool, cond-false, cond-true, eq-eqb, eqb-true, false≢true, ne_eqb}
use Rattle.std.proofs.lemmas.Iterator.Adapters.{position_from-zero}
use Rattle.std.proofs.lemmas.Option.{get_or_from_slice_get, none-some, same_Some, slice_get_within}
use Rattle.pl_frame.specs.declared.address.Mac.{Mac}
use Rattle.pl_pmac.specs.declared.pmac.Pmac.{Pmac}
use Rattle.pl_pmac.specs.Pmac.{PmacFits, mac_of, pmac_number}
use Rattle.pl_pmac.proofs.Exports.{same_pmac_number}
use Rattle.pl_layouts.specs.Equality.{same_mac}
use Rattle.pl_layouts.specs.Memberships.{is_group}
use Rattle.pl_layouts.specs.Placement.{is_known}
use Rattle.pl_layouts.proofs.Exports.{mac_is}
use Rattle.pl_wiring.specs.declared.host.Host.{Host}
use Rattle.pl_wiring.specs.Plan.{IsHostMac, IsPlan, Plan}
use Rattle.pl_journal.specs.declared.entry.Entry.{Entry}
use Rattle.pl_journal.specs.declared.entry.Entry.TheVariants.{Granted}
use Rattle.pl_journal.specs.Lossy.{IsNewer, mac_of_host}
use Rattle.pl_journal.specs.Places.{EdgePort, are_alike, at_port, holder, is_live, live_holder, same_pod_and_position, edge_port}
use Rattle.pl_journal.proofs.Exports.{not_held_not_live, not_held_nowhere}
use Rattle.pl_node.specs.declared.switch_records.Grant.{Grant}
use Rattle.pl_node.specs.declared.trap.Trap.{Trap}
use Rattle.pl_node.specs.SwitchViews.{SwitchView}
use Rattle.pl_switch_rule.specs.Delivering.{grant_trap, trap_for}
use Rattle.pl_switch_rule.specs.Granting.{granted, held_here, is_local, unless_free}
use Rattle.pl_switch_rule.proofs.Exports.{free_one, granted_parts, held_one, held_parts}
use Rattle.pl_world.specs.Changes.{host_of}
use Rattle.pl_world.specs.Worlds.{WorldView}
use Rattle.pl_law_control_plane.specs.ControlPlanes.{control_plane, no_switch}
use Rattle.pl_law_addresses.proofs.Exports.{first_passes, known_same}
use Rattle.pl_law_invariant.specs.ControlInvariant.{ControlInvariant}
use Rattle.pl_law_ledger.specs.Leading.{HoldsLedger, Leads}
use Rattle.pl_law_ledger.specs.Ledgers.{IsBacked, IsGrantedThere, IsLedger, ledger}
use Rattle.pl_law_ledger.proofs.Exports.{are_led, fits_there, grounds, held_somewhere, in_bounds, IsAlike, of_edge, same_says, Says}
use Rattle.pl_law_flights.specs.OnTheWay.{history_of}
use Rattle.pl_law_flights.specs.Standing.{IsGranted, IsNextAddress, KnowsAddresses, TrapLeadsOn, WasGranted}
use Rattle.pl_law_flights.proofs.Exports.{host_unicast}

-- ---- addresses of hosts
-- the host that is found by an actual address has it
pub host_at : (plan : Plan) (mac : Mac) (h : ℕ) → host_of plan mac ≡ Some h → mac_of_host plan h ≡ Some mac
host_at plan mac h is =
    let f = first_passes (λ (host : Host). same_mac host.mac mac) plan.hosts 0 h
    (sym (position_from-zero (λ (host : Host). same_mac host.mac mac) plan.hosts) ∙ is) in
    let it = f.is in
    let place : h ≡ f.at = omega (arith, it) in
    ap (λ n. option_map (λ (host : Host). host.mac) (slice_get plan.hosts n)) place ∙ ap (option_map (λ (host : Host). host.mac)) f.found ∙ ap Some
    (mac_is f.item.mac mac f.passes)

pub six_bytes : (plan : Plan) → IsPlan plan → (mac : Mac) (h : ℕ) → mac_of_host plan h ≡ Some mac → length mac.0 ≡ 6
six_bytes plan is mac h at = by (slice_get plan.hosts h) refl at
  where
    by : (o : Option Host) → slice_get plan.hosts h ≡ o → option_map (λ (host : Host). host.mac) o ≡ Some mac → length mac.0 ≡ 6
    by None found e = absurd (none-some mac e)
    by (Some host) found e =
        let it : IsHostMac host.mac = subst (λ (q : Host). IsHostMac q.mac) (get_or_from_slice_get plan.hosts h host host found)
        (is.host_macs h host (slice_get_within plan.hosts h host found)) in
        subst (λ (m : Mac). length m.0 ≡ 6) (same_Some host.mac mac e) it.six_bytes

-- a pseudo address whose pod is of one byte is an address of one host
pub pmac_unicast : (x : Pmac) → PmacFits x → x.pod < 2 ^ 8 → is_group (mac_of x) ≡ false
pmac_unicast x fits small =
    let a = fits.position in
    let b = fits.port in
    let c = fits.vmid in
    ne_eqb (slice_index (mac_of x).0 0 % 2) 1 (λ odd. absurd (omega (arith, a, b, c, small, odd)))

-- ---- entries
-- an address of this number was granted at a port
pub record IsGrantedSomewhere (switches : List SwitchView) (n s port : ℕ) : Type 0 where
  pub pmac : Pmac
  pub same : pmac_number pmac ≡ n
  pub there : IsGrantedThere switches pmac s port

granted_somewhere : (switches : List SwitchView) (entries : List Entry) (n : ℕ) (at : EdgePort) → AllByRecursion (IsBacked switches) entries →
    edge_port entries n ≡ Some at →
    IsGrantedSomewhere switches n at.edge at.port
granted_somewhere switches [] n at all is = absurd (none-some at is)
granted_somewhere switches (Granted x g e p ∷ entries) n at all is = elim (cases_Bool (pmac_number x == n)) [
  | inl same ↦
      let here : at_port e.0 p ≡ at = same_Some (at_port e.0 p) at
      (sym (cond-true (pmac_number x == n) (Some (at_port e.0 p)) (edge_port entries n) same) ∙ is) in
      subst (λ (q : EdgePort). IsGrantedSomewhere switches n q.edge q.port) here (record { pmac = x; same = eqb-true (pmac_number x) n same; there = all.0 })
  | inr other ↦ granted_somewhere switches entries n at all.1 (sym (cond-false (pmac_number x == n) (Some (at_port e.0 p)) (edge_port entries n) other) ∙ is)
]
granted_somewhere switches (entry ∷ entries) n at all is = granted_somewhere switches entries n at all.1 is

pub each_entry : (P Q : Entry → Type 0) → ((entry : Entry) → P entry → Q entry) → (entries : List Entry) → AllByRecursion P entries → AllByRecursion Q entries
each_entry P Q f [] all = tt
each_entry P Q f (entry ∷ entries) all = (f entry all.0, each_entry P Q f entries all.1)

both_true : (a b : Bool) → a ≡ true → b ≡ true → are_alike a b ≡ true
both_true true true is so = refl
both_true true false is so = absurd (false≢true so)
both_true false b is so = absurd (false≢true is)

pub both_false : (a b : Bool) → a ≡ false → b ≡ false → are_alike a b ≡ true
both_false false false is so = refl
both_false false true is so = absurd (false≢true (sym so))
both_false true b is so = absurd (false≢true (sym is))

module _ (w : WorldView) (kept : ControlInvariant w) (entered : IsLedger w) where
  -- the whole journal says no more of addresses than its ledger
  same_holder : (n : ℕ) → holder (reverse w.journal) n ≡ holder (ledger (reverse w.journal)) n
  same_holder n = ap (λ (f : Says). f.hold n) (sym (same_says w.plan (reverse w.journal)))

  same_live : (n : ℕ) → is_live (reverse w.journal) n ≡ is_live (ledger (reverse w.journal)) n
  same_live n = ap (λ (f : Says). f.live n) (sym (same_says w.plan (reverse w.journal)))

  -- who holds a live address
  holds_live : (n h : ℕ) → is_live (ledger (reverse w.journal)) n ≡ true → holder (ledger (reverse w.journal)) n ≡ Some h →
      live_holder (reverse w.journal) n ≡ Some h
  holds_live n h live held =
      cond-true (is_live (reverse w.journal) n) (holder (reverse w.journal) n) None (same_live n ∙ live) ∙ same_holder n ∙ held

  same_edge_ports : (n : ℕ) → edge_port (reverse w.journal) n ≡ edge_port (ledger (reverse w.journal)) n
  same_edge_ports n = ap (λ (f : Says). f.edge_ports n) (sym (same_says w.plan (reverse w.journal)))

  pub fits_at : (s : ℕ) (v : SwitchView) (x : Pmac) (g : Grant) → slice_get w.switches s ≡ Some v → granted v x ≡ Some g → PmacFits x
  fits_at s v x g found is = fits_there w.switches kept.counted.shaped (in_bounds w kept) entered.few s v x g found is

  pub own_at : (s : ℕ) (v : SwitchView) (x : Pmac) → slice_get w.switches s ≡ Some v → is_local v x ≡ true → PmacFits x → is_group (mac_of x) ≡ false
  own_at s v x found local fits = pmac_unicast x fits (in_bounds w kept s v x found local).pod

  -- ---- what a switch granted
  granted_then : (t : ℕ) (v : SwitchView) → slice_get w.switches t ≡ Some v → (x : Pmac) (g : Grant) → granted v x ≡ Some g →
      WasGranted (history_of (reverse w.journal)) t x
  granted_then t v found x g is =
      let e = entered.grants t v x g found is in
      let fits = fits_at t v x g found is in
      record { there = same_edge_ports (pmac_number x) ∙ e.there; fits = fits; own = own_at t v x found (granted_parts v x g is).0 fits }

  -- and what is not free
  granted_so : (t : ℕ) (v : SwitchView) → slice_get w.switches t ≡ Some v → (x : Pmac) (g : Grant) → held_here v x ≡ Some g →
      IsGranted w.plan (history_of (reverse w.journal)) t x g
  granted_so t v found x g held =
      let is = held_parts v x g held in
      let e = entered.grants t v x g found is in
      let mac = host_at w.plan g.amac e.host e.of_mac in
      let fits = fits_at t v x g found is in
      record {
        host = e.host;
        held = holds_live (pmac_number x) e.host (e.live ∙ held_one v x g held) e.held;
        there = same_edge_ports (pmac_number x) ∙ e.there;
        mac = mac;
        six = six_bytes w.plan kept.counted.formed.plan g.amac e.host mac;
        unicast = host_unicast w.plan e.host g.amac kept.counted.formed.plan mac;
        for_hosts = e.for_hosts;
        fits = fits;
        own = own_at t v x found (granted_parts v x g is).0 fits;
      }

  -- what it did not grant nobody holds
  pub held_by_none : (t : ℕ) (v : SwitchView) → slice_get w.switches t ≡ Some v → (x : Pmac) → PmacFits x → is_local v x ≡ true → granted v x ≡ None →
      holder (reverse w.journal) (pmac_number x) ≡ None
  held_by_none t v found x fits local none = by (holder (reverse w.journal) (pmac_number x)) refl
    where
      by : (o : Option ℕ) → holder (reverse w.journal) (pmac_number x) ≡ o → o ≡ None
      by None is = refl
      by (Some h) is =
          let at = held_somewhere w.switches (ledger (reverse w.journal)) (pmac_number x) h entered.backed (sym (same_holder (pmac_number x)) ∙ is) in
          let same : at.pmac ≡ x = same_pmac_number at.pmac x (fits_at at.switch at.there.view at.pmac at.there.grant at.there.found at.there.is) fits at.same in
          let home : is_local at.there.view x ≡ true =
          subst (λ (y : Pmac). is_local at.there.view y ≡ true) same (granted_parts at.there.view at.pmac at.there.grant at.there.is).0 in
          let one : t ≡ at.switch = (grounds w kept).apart t at.switch v at.there.view x found at.there.found local home in
          let view : v ≡ at.there.view = same_Some v at.there.view (sym found ∙ ap (slice_get w.switches) one ∙ at.there.found) in
          absurd (none-some at.there.grant (sym none ∙ ap (λ (u : SwitchView). granted u x) view ∙ ap (λ y. granted at.there.view y) (sym same) ∙ at.there.is))

  -- and what is free, or was not granted, is not live
  dead_here : (t : ℕ) (v : SwitchView) → slice_get w.switches t ≡ Some v → (x : Pmac) → PmacFits x → is_local v x ≡ true → held_here v x ≡ None →
      is_live (reverse w.journal) (pmac_number x) ≡ false
  dead_here t v found x fits local none = by (granted v x) refl none
    where
      by : (o : Option Grant) → granted v x ≡ o → unless_free o ≡ None → is_live (reverse w.journal) (pmac_number x) ≡ false
      by None is free = not_held_not_live (reverse w.journal) (pmac_number x) (held_by_none t v found x fits local is)
      by (Some g) is free = same_live (pmac_number x) ∙ (entered.grants t v x g found is).live ∙ free_one g free

  -- so it has no holder that is live
  held_live_by_none : (t : ℕ) (v : SwitchView) → slice_get w.switches t ≡ Some v → (x : Pmac) → PmacFits x → is_local v x ≡ true → held_here v x ≡ None →
      live_holder (reverse w.journal) (pmac_number x) ≡ None
  held_live_by_none t v found x fits local none =
      let past : List Entry = reverse w.journal in
      cond-false (is_live past (pmac_number x)) (holder past (pmac_number x)) None (dead_here t v found x fits local none)

  -- an address that is granted somewhere, and that has a holder, is for one host
  own_of_held : (x : Pmac) (h : ℕ) → PmacFits x → holder (reverse w.journal) (pmac_number x) ≡ Some h → is_group (mac_of x) ≡ false
  own_of_held x h fits held =
      let at = held_somewhere w.switches (ledger (reverse w.journal)) (pmac_number x) h entered.backed (sym (same_holder (pmac_number x)) ∙ held) in
      let same : at.pmac ≡ x = same_pmac_number at.pmac x (fits_at at.switch at.there.view at.pmac at.there.grant at.there.found at.there.is) fits at.same in
      own_at at.switch at.there.view x at.there.found
      (subst (λ (y : Pmac). is_local at.there.view y ≡ true) same (granted_parts at.there.view at.pmac at.there.grant at.there.is).0) fits

  -- a trap leads on, as the journal says
  leads_on : (x : Pmac) (trap : Trap) (h : ℕ) → holder (reverse w.journal) (pmac_number x) ≡ Some h → Leads (reverse w.journal) x trap.new trap.number →
      TrapLeadsOn (history_of (reverse w.journal)) x trap
  leads_on x trap h held l =
      let past : List Entry = reverse w.journal in
      let first = l.numbers.rises in
      let last = l.numbers.within in
      let more : l.numbers.from < l.numbers.to = omega (arith, first, last) in
      record {
        same_host = cond-true (is_live past (pmac_number trap.new)) (holder past (pmac_number trap.new)) None l.live.1
            ∙ l.host ∙ sym (cond-true (is_live past (pmac_number x)) (holder past (pmac_number x)) None l.live.0);
        newer = subst₂ IsNewer (sym l.numbers.old_has) (sym l.numbers.new_has) more;
        fits = l.fits;
        unicast = own_of_held trap.new h l.fits (l.host ∙ held);
      }

  back_so : (t : ℕ) (v : SwitchView) → slice_get w.switches t ≡ Some v → (x : Pmac) (port : ℕ) → PmacFits x →
      edge_port (reverse w.journal) (pmac_number x) ≡ Some (at_port t port) →
      (is_local v x ≡ true) × (x.port ≡ port)
  back_so t v found x port fits is =
      let at = granted_somewhere w.switches (ledger (reverse w.journal)) (pmac_number x) (at_port t port) entered.backed
      (sym (same_edge_ports (pmac_number x)) ∙ is) in
      let same : at.pmac ≡ x = same_pmac_number at.pmac x (fits_at t at.there.view at.pmac at.there.grant at.there.found at.there.is) fits at.same in
      let view : at.there.view ≡ v = same_Some at.there.view v (sym at.there.found ∙ found) in (
        subst (λ (u : SwitchView). is_local u x ≡ true) view
            (subst (λ (y : Pmac). is_local at.there.view y ≡ true) same (granted_parts at.there.view at.pmac at.there.grant at.there.is).0),
        sym (at.there.port_is ∙ ap (λ (y : Pmac). y.port) same),
      )

  -- ---- what a switch may grant next
  -- entries of addresses with the pod and position of an address are those of its switch
  alike_so : (t : ℕ) (v : SwitchView) → slice_get w.switches t ≡ Some v → (x : Pmac) → is_local v x ≡ true →
      AllByRecursion (IsAlike x t) (ledger (reverse w.journal))
  alike_so t v found x local = each_entry (IsBacked w.switches) (IsAlike x t) alike_entry (ledger (reverse w.journal)) entered.backed
    where
      alike_by : (y : Pmac) (e p : ℕ) → IsGrantedThere w.switches y e p → are_alike (same_pod_and_position x y) (e == t) ≡ true
      alike_by y e p there = elim (cases_Bool (e == t)) [
        | inl same ↦
            let view : there.view ≡ v = same_Some there.view v (sym there.found ∙ ap (slice_get w.switches) (eqb-true e t same) ∙ found) in
            let home : is_local v y ≡ true = subst (λ (u : SwitchView). is_local u y ≡ true) view (granted_parts there.view y there.grant there.is).0 in
            let mine = and_parts (is_known v.place.level 0) (is_known v.place.pod x.pod && is_known v.place.position x.position) local in
            let my = and_parts (is_known v.place.pod x.pod) (is_known v.place.position x.position) mine.1 in
            let yours = and_parts (is_known v.place.level 0) (is_known v.place.pod y.pod && is_known v.place.position y.position) home in
            let your = and_parts (is_known v.place.pod y.pod) (is_known v.place.position y.position) yours.1 in
            let pods : x.pod ≡ y.pod = known_same v.place.pod x.pod y.pod my.0 your.0 in
            let positions : x.position ≡ y.position = known_same v.place.position x.position y.position my.1 your.1 in
            both_true (same_pod_and_position x y) (e == t) (and_from (x.pod == y.pod) (x.position == y.position) (eq-eqb x.pod y.pod pods)
            (eq-eqb x.position y.position positions)) same
        | inr other ↦ elim (cases_Bool (same_pod_and_position x y)) [
          | inr apart ↦ both_false (same_pod_and_position x y) (e == t) apart other
          | inl alike ↦
              let parts = and_parts (x.pod == y.pod) (x.position == y.position) alike in
              let there_too : is_local v y ≡ true =
              subst₂ (λ (p q : ℕ). (is_known v.place.level 0 && (is_known v.place.pod p && is_known v.place.position q)) ≡ true) (eqb-true x.pod y.pod parts.0)
              (eqb-true x.position y.position parts.1) local in
              let one : e ≡ t = (grounds w kept).apart e t there.view v y there.found found (granted_parts there.view y there.grant there.is).0 there_too in
              absurd (false≢true (sym other ∙ eq-eqb e t one))
        ]
      ]

      alike_entry : (entry : Entry) → IsBacked w.switches entry → IsAlike x t entry
      alike_entry (Granted y h e p) there = alike_by y e.0 p there
      alike_entry entry there = tt

  -- one that was granted before, and is free, was granted at its port
  given_here : (t : ℕ) (v : SwitchView) → slice_get w.switches t ≡ Some v → (x : Pmac) → PmacFits x → is_local v x ≡ true → (o : Option Grant) →
      granted v x ≡ o → (at : EdgePort) →
      edge_port (reverse w.journal) (pmac_number x) ≡ Some at → at ≡ at_port t x.port
  given_here t v found x fits local None none at is = absurd (not_held_nowhere (reverse w.journal) (pmac_number x) at
      (held_by_none t v found x fits local none) is)
  given_here t v found x fits local (Some g) granted_it at is = same_Some at (at_port t x.port) (sym is ∙ (granted_then t v found x g granted_it).there)

  pub is_next : (t : ℕ) (v : SwitchView) → slice_get w.switches t ≡ Some v → (x : Pmac) → is_local v x ≡ true → held_here v x ≡ None → x.port < v.k →
      v.k ≤ 24 → x.vmid ≤ 65535 →
      IsNextAddress (reverse w.journal) t x
  is_next t v found x local none within few last =
      let low = in_bounds w kept t v x found local in
      let pod = low.pod in
      let position = low.position in
      let fits : PmacFits x = record {
        pod = omega (arith, pod);
        position = omega (arith, position);
        port = omega (arith, within, few);
        vmid = omega
            (arith, last);
      } in
      record {
        fresh = dead_here t v found x fits local none;
        again = λ at is. given_here t v found x fits local (granted v x) refl at is;
        edge = ap (λ (f : Says). f.of_edge x t) (sym (same_says w.plan (reverse w.journal))) ∙ of_edge (ledger (reverse w.journal)) x t
            (alike_so t v found x local);
        fits = fits;
        own = pmac_unicast x fits low.pod;
      }

module _ (w : WorldView) (kept : ControlInvariant w) (holds : HoldsLedger w) where
  leads_so : (t : ℕ) (v : SwitchView) → slice_get w.switches t ≡ Some v → (x : Pmac) (trap : Trap) → trap_for v x ≡ Some trap →
      TrapLeadsOn (history_of (reverse w.journal)) x trap
  leads_so t v found x trap is = by (granted v x) refl is
    where
      by : (o : Option Grant) → granted v x ≡ o → grant_trap o ≡ Some trap → TrapLeadsOn (history_of (reverse w.journal)) x trap
      by None at e = absurd (none-some trap e)
      by (Some g) at e =
          let entry = holds.entered.grants t v x g found at in
          leads_on w kept holds.entered x trap entry.host (same_holder w kept holds.entered (pmac_number x) ∙ entry.held)
          (are_led w kept holds t v x trap.new trap.number found
          (inl (record { grant = g; trap = trap; found = at; set = e; leads_to = refl; carries = refl })))

  view_at : (t : ℕ) (v : SwitchView) → slice_get w.switches t ≡ Some v → (control_plane w).view t ≡ v
  view_at t v found = get_or_from_slice_get w.switches t v no_switch found

  pub knows_addresses : (t : ℕ) (v : SwitchView) → slice_get w.switches t ≡ Some v → KnowsAddresses w.plan (history_of (reverse w.journal)) t v
  unfolding view_at
  knows_addresses t v found = record {
    granted_there = granted_then w kept holds.entered t v found;
    granted_here = granted_so w kept holds.entered t v found;
    not_granted = held_live_by_none w kept holds.entered t v found;
    trapped = leads_so t v found;
    pods = λ n is.
        let own_place = (kept.placed.own t).pod n (ap (λ (u : SwitchView). u.place.pod) (view_at t v found) ∙ is) in let small = own_place.1 in omega
        (arith, small);
    back = back_so w kept holds.entered t v found;
  }
