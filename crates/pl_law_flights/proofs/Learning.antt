-- What an edge switch knows of addresses stays so when a host uses its address, or is granted the next one.
use Rattle.std.proofs.Common.{◌≡◌, ℕ, ◌-◌, ◌<◌, ◌==◌, true, false, inl, inr, List, [], ◌∷◌, length, Option, None, Some, set, refl, sym, ◌∙◌, ap, subst, get_or-set_same}
use Rattle.std.proofs.lemmas.Bool.{cond-false, cond-true, cond_both, eq-eqb, eqb-true, cases_Bool, false≢true, ne_eqb}
use Rattle.std.proofs.lemmas.Option.{none-some, same_Some}
use Rattle.pl_frame.specs.declared.address.Ip4.{Ip4}
use Rattle.pl_frame.specs.declared.address.Mac.{Mac}
use Rattle.pl_pmac.specs.declared.pmac.Pmac.{Pmac}
use Rattle.pl_pmac.specs.Pmac.{pmac_number}
use Rattle.pl_pmac.proofs.Exports.{same_pmac_number}
use Rattle.pl_wiring.specs.declared.link.Peer.TheVariants.{HostPort}
use Rattle.pl_wiring.specs.Peers.{peer_of}
use Rattle.pl_wiring.specs.Plan.{Plan}
use Rattle.pl_layouts.specs.Equality.{is_ip, same_pmac}
use Rattle.pl_layouts.specs.Memberships.{is_group}
use Rattle.pl_layouts.proofs.Exports.{pmac_itself}
use Rattle.pl_journal.specs.declared.entry.Entry.{Entry}
use Rattle.pl_journal.specs.declared.entry.Entry.TheVariants.{Granted}
use Rattle.pl_journal.specs.Lossy.{mac_of_host, IsNewer}
use Rattle.pl_journal.specs.Places.{EdgePort, at_port, edge_port, live_holder, number}
use Rattle.pl_node.specs.AddressUses.{is_in_use}
use Rattle.pl_node.specs.Accounting.{WereGranted}
use Rattle.pl_node.specs.declared.acts.Act.{Act}
use Rattle.pl_node.specs.declared.acts.Act.TheVariants.{Tell}
use Rattle.pl_node.specs.declared.address_use.AddressUse.TheVariants.{InUse}
use Rattle.pl_node.specs.declared.messages.ToManager.TheVariants.{Learned}
use Rattle.pl_node.specs.declared.switch_records.Grant.{Grant}
use Rattle.pl_node.specs.SwitchViews.{SwitchView}
use Rattle.pl_node.proofs.Exports.{in_use_has_no_trap, in_use_is_held}
use Rattle.pl_switch_rule.specs.Delivering.{grant_trap, trap_for}
use Rattle.pl_switch_rule.specs.Granting.{address_at_port, freed_at, grant_number, granted, grants_at, held_here, in_use, is_local, learns_ip, new_grant, next_vmid, unless_free, uses, with_grants, with_next}
use Rattle.pl_steps.specs.Steps.{SwitchStep, rests}
use Rattle.pl_switch_rule.proofs.Exports.{held_parts}
use Rattle.pl_world.specs.Changes.{host_no, switch_no}
use Rattle.pl_law_flights.specs.OnTheWay.{history_of}
use Rattle.pl_law_addresses.specs.EdgeAddresses.{is_settled}
use Rattle.pl_law_flights.specs.Standing.{IsGranted, IsNextAddress, KnowsAddresses, TrapLeadsOn, WasGranted}
use Rattle.pl_law_flights.proofs.FindingHosts.{LooksAlike}
use Rattle.pl_law_flights.proofs.Granting.{history_more, live_more, live_now, live_other}
use Rattle.pl_law_flights.proofs.GrantsAlike.{AgreesWith, IsLike, like_itself, trapped_here}
use Rattle.pl_law_flights.proofs.KeepingFlights.{KeepsHistory}
use Rattle.pl_law_addresses.proofs.Exports.{granted_here, is_or_other, local_here, now_at, number_set_other, number_set_same, number_within, others_at}
use Rattle.pl_law_flights.proofs.NextGrants.{in_use_next, in_use_set, number_next_other, number_next_same}
use Rattle.pl_law_flights.proofs.SilentSteps.{AreSilent}
use Rattle.pl_journal.proofs.Exports.{granted_apart, live_one}

-- ---- an address that is used
module _ (v : SwitchView) (port vmid : ℕ) (g : Grant) (ip : Option Ip4) (settled : is_settled v.place ≡ true) (within : port < length v.grants)
    (found : grant_number (grants_at v port) vmid ≡ Some g) (used : is_in_use g.held ≡ true) where
  x : Pmac
  x = address_at_port v port vmid

  known : Grant
  known = record g { ip = ip; held = InUse 0 }

  list : List Grant
  list = set (grants_at v port) (vmid - 1) (record g { ip = ip; held = InUse 0 })

  now_used : IsLike g (record g { ip = ip; held = InUse 0 })
  now_used = record { amac = refl; trap = in_use_has_no_trap g.held used; held = in_use_is_held g.held used }

  use_agrees : AgreesWith v (uses v (address_at_port v port vmid) (record g { ip = ip }))
  unfolding x known list
  use_agrees =
      let here : is_local v x ≡ true = local_here v port vmid settled in
      let some = (number_within (grants_at v port) vmid g found).0 in
      let was : granted v x ≡ Some g = granted_here v x here ∙ found in
      let now : granted (with_grants v port list) x ≡ Some known = now_at v x list within here ∙ number_set_same (grants_at v port) vmid g known found in
      let others : (z : Pmac) → same_pmac z x ≡ false → granted (with_grants v port list) z ≡ granted v z =
      others_at v x list within here (λ n other. number_set_other (grants_at v port) vmid n known some other) in
      record {
        local = λ y. refl;
        pod = refl;
        some = λ y h is. elim (is_or_other y x) [
          | inl it ↦
              let same : known ≡ h = same_Some known h (sym now ∙ ap (λ z. granted (with_grants v port list) z) (sym it) ∙ is) in
              (g, ap (λ z. granted v z) it ∙ was, subst (IsLike g) same now_used)
          | inr other ↦ (h, sym (others y other) ∙ is, like_itself h)
        ];
        none = λ y is. elim (is_or_other y x) [
          | inl it ↦ absurd (none-some known (sym is ∙ ap (λ z. granted (with_grants v port list) z) it ∙ now))
          | inr other ↦ sym (others y other) ∙ is
        ];
      }

  use_stays : (mac : Mac) → in_use (grants_at (uses v (address_at_port v port vmid) (record g { ip = ip })) port) mac ≡ in_use (grants_at v port) mac
  unfolding x known list
  use_stays mac = ap (λ gs. in_use gs mac) (get_or-set_same v.grants port list [] within) ∙ in_use_set (grants_at v port) mac vmid g known found (sym used) refl

-- what is learnt of a source that has an address in use
pub record Learns (v : SwitchView) (port : ℕ) (step : SwitchStep) : Type 0 where
  pub alike : LooksAlike v step.view
  pub agrees : AgreesWith v step.view
  pub uses : (mac : Mac) → in_use (grants_at step.view port) mac ≡ in_use (grants_at v port) mac
  pub silent : AreSilent step.acts

learns_use : (v : SwitchView) (port vmid : ℕ) → is_settled v.place ≡ true → port < length v.grants → (g : Grant) → grant_number (grants_at v port) vmid ≡ Some g →
    is_in_use g.held ≡ true → (ip : Option Ip4) (acts : List Act) → AreSilent acts →
    Learns v port (record { view = uses v (address_at_port v port vmid) (record g { ip = ip }); acts = acts })
learns_use v port vmid settled within g found used ip acts silent = record {
  alike = record { place = refl; heard = λ q. refl; usable = λ q. refl };
  agrees = use_agrees v port vmid g ip settled within found used;
  uses = use_stays v port vmid g ip settled within found used;
  silent = silent;
}

pub learns_of : (v : SwitchView) (port vmid : ℕ) → is_settled v.place ≡ true → port < length v.grants → (g : Grant) →
    grant_number (grants_at v port) vmid ≡ Some g → is_in_use g.held ≡ true → (ip : Option Ip4) → Learns v port (learns_ip v (address_at_port v port vmid) (Some g) ip)
learns_of v port vmid settled within g found used None = learns_use v port vmid settled within g found used g.ip [] tt
learns_of v port vmid settled within g found used (Some ip) =
    let x : Pmac = address_at_port v port vmid in
    let told : List Act = Tell (Learned x g.amac (Some ip)) ∷ [] in
    cond_both (is_ip g.ip ip) (rests (uses v x g)) (record { view = uses v x (record g { ip = Some ip }); acts = told }) (Learns v port)
    (λ known. learns_use v port vmid settled within g found used g.ip [] tt) (λ new. learns_use v port vmid settled within g found used (Some ip) told (tt, tt))

-- ---- the next address
-- two addresses that fit have two numbers

module _ (plan : Plan) (past : List Entry) (t : ℕ) (v : SwitchView) (port vmid h : ℕ) (mac : Mac) (ip : Option Ip4) (settled : is_settled v.place ≡ true)
    (within : port < length v.grants) (peer : peer_of plan t port ≡ HostPort) (of_host : mac_of_host plan h ≡ Some mac) (six : length mac.0 ≡ 6)
    (unicast : is_group mac ≡ false) (may : IsNextAddress past t (address_at_port v port vmid))
    (is_next : next_vmid (freed_at v port) (grants_at v port) ≡ Some vmid) (were : WereGranted (grants_at v port) (freed_at v port)) (knows : KnowsAddresses plan (history_of past) t v) where
  next : Pmac
  next = address_at_port v port vmid

  more : List Grant
  more = with_next (freed_at v port) (grants_at v port) (new_grant mac ip)

  -- the journal then
  abbrev pub granted_past : List Entry
  granted_past = Granted (address_at_port v port vmid) (host_no h) (switch_no t) port ∷ past

  still_newer : (o p q r : Option ℕ) → q ≡ o → r ≡ p → IsNewer o p → IsNewer q r
  still_newer o p q r a b is = subst (λ (x : Option ℕ). IsNewer x r) (sym a) (subst (λ (x : Option ℕ). IsNewer o x) (sym b) is)

  -- the number of an address that is held stays
  number_apart_from : (y g : ℕ) → live_holder past y ≡ Some g → number granted_past y ≡ number past y
  number_apart_from y g held =
      let n : ℕ = pmac_number (address_at_port v port vmid) in
      cond-false (n == y) None (number past y) (granted_apart past n y may.fresh (live_one past y g held))

  pub knows_next : KnowsAddresses plan (history_of granted_past) t (with_grants v port (with_next (freed_at v port) (grants_at v port) (new_grant mac ip)))
  unfolding next more
  knows_next =
      let n : ℕ = pmac_number next in
      let here : is_local v next ≡ true = local_here v port vmid settled in
      let now : granted (with_grants v port more) next ≡ Some (new_grant mac ip) = now_at v next more within here
      ∙ number_next_same (freed_at v port) (grants_at v port) (new_grant mac ip) vmid is_next were in
      let others : (y : Pmac) → same_pmac y next ≡ false → granted (with_grants v port more) y ≡ granted v y =
      others_at v next more within here (number_next_other (freed_at v port) (grants_at v port) (new_grant mac ip) vmid is_next were) in
      let others_held : (y : Pmac) → same_pmac y next ≡ false → held_here (with_grants v port more) y ≡ held_here v y = λ y other. ap unless_free (others y other) in
      let keeps : KeepsHistory (history_of past) (history_of granted_past) = history_more plan past next (host_no h) (switch_no t) port may.again in
      let itself : IsGranted plan (history_of granted_past) t next (new_grant mac ip) = record {
        host = h;
        held = live_now past next (host_no h) (switch_no t) port;
        there = cond-true (n == n) (Some (at_port t port)) (edge_port past n) (eq-eqb n n refl);
        mac = of_host;
        six = six;
        unicast = unicast;
        for_hosts = peer;
        fits = may.fits;
        own = may.own;
      } in
      let there_too : WasGranted (history_of granted_past) t next = record { there = itself.there; fits = may.fits; own = may.own } in
      record {
        granted_there = λ y g is. elim (is_or_other y next) [
          | inl it ↦ subst (WasGranted (history_of granted_past) t) (sym it) there_too
          | inr other ↦
              let was = knows.granted_there y g (sym (others y other) ∙ is) in
              record { there = keeps.there (pmac_number y) _ was.there; fits = was.fits; own = was.own }
        ];
        granted_here = λ y g is. elim (is_or_other y next) [
          | inl it ↦
              let found : granted (with_grants v port more) y ≡ Some g = held_parts (with_grants v port more) y g is in
              let same : new_grant mac ip ≡ g = same_Some (new_grant mac ip) g (sym now ∙ ap (λ z. granted (with_grants v port more) z) (sym it) ∙ found) in
              subst (λ (z : Pmac). IsGranted plan (history_of granted_past) t z g) (sym it) (subst (λ (k : Grant). IsGranted plan (history_of granted_past) t next k) same itself)
          | inr other ↦
              let was = knows.granted_here y g (sym (others_held y other) ∙ is) in
              record {
                host = was.host;
                held = live_more past next (host_no h) (switch_no t) port (pmac_number y) was.host may.fresh was.held;
                there = keeps.there (pmac_number y) _ was.there;
                mac = was.mac;
                six = was.six;
                unicast = was.unicast;
                for_hosts = was.for_hosts;
                fits = was.fits;
                own = was.own;
              }
        ];
        not_granted = λ y fits own is. elim (is_or_other y next) [
          | inl it ↦ absurd (none-some (new_grant mac ip) (sym is ∙ ap (λ z. held_here (with_grants v port more) z) it ∙ ap unless_free now))
          | inr other ↦
              live_other past next (host_no h) (switch_no t) port (pmac_number y)
              (ne_eqb n (pmac_number y) (λ same. false≢true (sym other ∙ ap (λ z. same_pmac y z) (sym (same_pmac_number y next fits may.fits (sym same))) ∙ pmac_itself y)))
              ∙ knows.not_granted y fits own (sym (others_held y other) ∙ is)
        ];
        trapped = λ y trap is. elim (is_or_other y next) [
          | inl it ↦ absurd (none-some trap (sym (ap grant_trap (ap (λ z. granted (with_grants v port more) z) it ∙ now)) ∙ is))
          | inr other ↦
              let before : trap_for v y ≡ Some trap = ap grant_trap (sym (others y other)) ∙ is in
              let leads : TrapLeadsOn (history_of past) y trap = knows.trapped y trap before in
              let some = trapped_here v y trap before in
              let was = knows.granted_here y some.0 some.1 in
              record {
                same_host = live_more past next (host_no h) (switch_no t) port (pmac_number trap.new) was.host may.fresh (leads.same_host ∙ was.held)
                    ∙ sym (live_more past next (host_no h) (switch_no t) port (pmac_number y) was.host may.fresh was.held);
                newer = still_newer (number past (pmac_number y)) (number past (pmac_number trap.new)) _ _
                    (number_apart_from (pmac_number y) was.host was.held) (number_apart_from (pmac_number trap.new) was.host (leads.same_host ∙ was.held)) leads.newer;
                fits = leads.fits;
                unicast = leads.unicast;
              }
        ];
        pods = knows.pods;
        back = λ y p fits is. elim (cases_Bool (n == pmac_number y)) [
          | inl same ↦
              let it : y ≡ next = same_pmac_number y next fits may.fits (sym (eqb-true n (pmac_number y) same)) in
              let at : at_port t port ≡ at_port t p =
              same_Some (at_port t port) (at_port t p) (sym (cond-true (n == pmac_number y) (Some (at_port t port)) (edge_port past (pmac_number y)) same) ∙ is) in
              (ap (λ z. is_local v z) it ∙ here, ap (λ (z : Pmac). z.port) it ∙ ap (λ (a : EdgePort). a.port) at)
          | inr other ↦ knows.back y p fits (sym (cond-false (n == pmac_number y) (Some (at_port t port)) (edge_port past (pmac_number y)) other) ∙ is)
        ];
      }

  pub next_granted : held_here (with_grants v port (with_next (freed_at v port) (grants_at v port) (new_grant mac ip))) (address_at_port v port vmid) ≡ Some (new_grant mac ip)
  next_granted = ap unless_free
      (now_at v (address_at_port v port vmid) (with_next (freed_at v port) (grants_at v port) (new_grant mac ip)) within (local_here v port vmid settled)
      ∙ number_next_same (freed_at v port) (grants_at v port) (new_grant mac ip) vmid is_next were)

  pub next_in_use : in_use (grants_at v port) mac ≡ None →
      in_use (grants_at (with_grants v port (with_next (freed_at v port) (grants_at v port) (new_grant mac ip))) port) mac ≡ Some vmid
  next_in_use none =
      ap (λ gs. in_use gs mac) (get_or-set_same v.grants port (with_next (freed_at v port) (grants_at v port) (new_grant mac ip)) [] within)
      ∙ in_use_next (freed_at v port) (grants_at v port) mac ip vmid is_next were none
