-- A switch that passes a frame of a group on lets no more come to any port than the frame itself might.
use Rattle.std.proofs.Common.{◌≡◌, ℕ, ◌+◌, ◌≤◌, ◌<◌, ◌==◌, ◌&&◌, ◌||◌, ◌⊎◌, not, nat_lt, Bool, true, false, if◌then◌else◌, List, [], ◌∷◌, map, Option, None, Some, refl, sym, ap, ◌∙◌, subst, arith, inl, inr}
use Rattle.std.specs.List.{AllByRecursion, filter, list_any, range_with_len}
use Rattle.std.proofs.lemmas.Bool.{and_parts, cases_Bool, cond_both, eqb-true, false≢true, ltb-true}
use Rattle.pl_frame.specs.declared.address.SwitchId.{SwitchId}
use Rattle.pl_frame.specs.Ethernet.{destination_of, source_of}
use Rattle.pl_pmac.specs.declared.pmac.Pmac.{Pmac}
use Rattle.pl_pmac.specs.Pmac.{pmac_of}
use Rattle.pl_wiring.specs.declared.label.SwitchNo.{SwitchNo}
use Rattle.pl_wiring.specs.declared.link.Peer.{Peer}
use Rattle.pl_wiring.specs.declared.link.Peer.TheVariants.{HostPort, Switch}
use Rattle.pl_wiring.specs.Labels.{label_of}
use Rattle.pl_wiring.specs.Peers.{peer_of}
use Rattle.pl_wiring.specs.Plan.{IsPlan, Plan}
use Rattle.pl_layouts.specs.declared.place.Place.{Place}
use Rattle.pl_layouts.specs.Memberships.{flood, is_group}
use Rattle.pl_journal.specs.Places.{EdgePort, at_port, same_edge_port}
use Rattle.pl_node.specs.declared.acts.Act.TheVariants as act
use Rattle.pl_node.specs.declared.messages.TreePart.{TreePart}
use Rattle.pl_node.specs.declared.switch_records.Member.{Member}
use Rattle.pl_node.specs.PortRecords.{heard_id, id_at, is_usable, place_at, port_of}
use Rattle.pl_node.specs.SwitchFacts.{part_of}
use Rattle.pl_node.specs.SwitchViews.{SwitchView}
use Rattle.pl_journal.specs.declared.cause.Cause.{Cause}
use Rattle.pl_switch_rule.specs.declared.came.Came.TheVariants.{FromAbove, FromBelow}
use Rattle.pl_switch_rule.specs.declared.came.Way.{Way}
use Rattle.pl_switch_rule.specs.declared.came.Way.TheVariants.{Down, Nowhere, ToHosts, Up}
use Rattle.pl_switch_rule.specs.Forwarding.{came_between, came_by}
use Rattle.pl_switch_rule.specs.GroupForwarding.{at_most_one, destination_group, forwards_group, group_ports, is_down, is_reached, is_source, is_up, no_way, passes_or_drops, way_of}
use Rattle.pl_law_counts.proofs.Exports.{one_at_most, claim, CountsAlone, one_only, one_port, Rung, rung, sum_of, used}
use Rattle.pl_law_counts.proofs.Exports.Rung.{DownFromCore, DownToEdge, UpFromEdge, UpToCore}
use Rattle.pl_law_copies.specs.Copies.{leads_to, may_come, may_come_by}
use Rattle.pl_law_copies.specs.Standing.{KnowsTree}
use Rattle.pl_law_copies.proofs.Ways.{LeadsDown, leads_apart, leads_within, may_come_down}
use Rattle.pl_journal.specs.Flights.{label_level}

-- which way a frame of a group goes, by the level of the switch and of the neighbour that it came from
abbrev pub GoesBy : ℕ → ℕ → Way → Type 0
GoesBy own other Up = other < own
GoesBy own other Down = (own ≡ 2) ⊎ ((own ≡ 1) × (own < other))
GoesBy own other ToHosts = own ≡ 0
GoesBy own other Nowhere = Unit {0}

pub ways : (level position pod near : Option ℕ) (own other : ℕ) → ((n : ℕ) → level ≡ Some n → n ≡ own) → ((n : ℕ) → near ≡ Some n → n ≡ other) →
    GoesBy own other (way_of (record { level = level; position = position; pod = pod }) (came_between level near))
ways None position pod near own other is also = tt
ways (Some a) position pod None own other is also =
    cond_both (a == 2) Down Nowhere (GoesBy own other) (λ two. inl (sym (is a refl) ∙ eqb-true a 2 two)) (λ no_core. tt)
ways (Some a) position pod (Some b) own other is also =
    let place : Place = record { level = Some a; position = position; pod = pod } in
    let here = is a refl in
    let there = also b refl in
    cond_both (nat_lt b a) (Some FromBelow) (if nat_lt a b then Some FromAbove else None) (λ c. GoesBy own other (way_of place c))
    (λ below. let less = ltb-true b a below in
    cond_both (a == 2) Down (if a == 1 then Up else Nowhere) (GoesBy own other) (λ two. inl (sym here ∙ eqb-true a 2 two))
    (λ no_core. cond_both (a == 1) Up Nowhere (GoesBy own other) (λ one. omega arith) (λ no_other. tt)))
    (λ not_below. cond_both (nat_lt a b) (Some FromAbove) None (λ c. GoesBy own other (way_of place c))
    (λ above. let less = ltb-true a b above in
    cond_both (a == 0) ToHosts (if a == 1 then Down else Nowhere) (GoesBy own other) (λ zero. sym here ∙ eqb-true a 0 zero)
    (λ no_edge. cond_both (a == 1) Down Nowhere (GoesBy own other) (λ one. inr (sym here ∙ eqb-true a 1 one, omega arith)) (λ no_other. tt)))
    (λ beside. cond_both (a == 2) Down Nowhere (GoesBy own other) (λ two. inl (sym here ∙ eqb-true a 2 two)) (λ no_core. tt)))

-- of a frame of a group, each pass to a port
sum_used : (plan : Plan) (t : ℕ) (there : EdgePort) (frame : List ℕ) (ports : List ℕ) →
    used may_come_by plan t there (map (λ p. act.Pass p frame) ports) ≡ sum_of (λ p. claim may_come_by plan t p there frame) ports
sum_used plan t there frame [] = refl
sum_used plan t there frame (p ∷ ports) = ap (λ n. claim may_come_by plan t p there frame + n) (sum_used plan t there frame ports)

passed_used : (plan : Plan) (t : ℕ) (there : EdgePort) (frame : List ℕ) (why : Cause) (ports : List ℕ) →
    used may_come_by plan t there (passes_or_drops ports frame why) ≡ sum_of (λ p. claim may_come_by plan t p there frame) ports
passed_used plan t there frame why [] = refl
passed_used plan t there frame why (p ∷ ports) = sum_used plan t there frame (p ∷ ports)

one_used : (plan : Plan) (t : ℕ) (there : EdgePort) (frame : List ℕ) (ports : List ℕ) → sum_of (λ p. claim may_come_by plan t p there frame) (at_most_one ports) ≤ 1
one_used plan t there frame [] = omega arith
one_used plan t there frame (p ∷ ports) = (let most = one_at_most (may_come_by plan t p there frame) in omega arith)

claim_of_group : (plan : Plan) (t p : ℕ) (there : EdgePort) (frame : List ℕ) (b : Bool) → is_group (destination_of frame) ≡ true → may_come plan.k t p (peer_of plan t p) there ≡ b →
    claim may_come_by plan t p there frame ≡ (if b then 1 else 0)
claim_of_group plan t p there frame b group is =
    ap (λ g. if◌then◌else◌ {A = ℕ} (not g || may_come plan.k t p (peer_of plan t p) there) 1 0) group ∙ ap (λ c. if◌then◌else◌ {A = ℕ} c 1 0) is

-- ports that lead down count alone, and only where the frame might come
module _ (plan : Plan) (is_plan : IsPlan plan) (t : ℕ) (there : EdgePort) (frame : List ℕ) (group : is_group (destination_of frame) ≡ true) where
  leads_there : (p : ℕ) → (d : LeadsDown plan t p) → may_come plan.k t p (peer_of plan t p) there ≡ true →
      leads_to (label_of plan.k t) (label_of plan.k d.to.0) (d.to.0 == there.edge) (label_of plan.k there.edge) ≡ true
  leads_there p d may = may_come_down plan.k t p d.to d.at (peer_of plan t p) there d.peer may

  counts_alone : (test : ℕ → Bool) (most : ℕ) → ((p : ℕ) → test p ≡ true → LeadsDown plan t p) →
      ((p : ℕ) → LeadsDown plan t p → may_come plan.k t p (peer_of plan t p) there ≡ true → 1 ≤ most) → (q : ℕ) → test q ≡ true →
      CountsAlone test (λ p. claim may_come_by plan t p there frame) most q
  counts_alone test most down within q passes = elim (cases_Bool (may_come plan.k t q (peer_of plan t q) there)) [
    | inr never ↦ inl (claim_of_group plan t q there frame false group never)
    | inl may ↦ inr (
      (let some = within q (down q passes) may in let one = one_at_most (may_come_by plan t q there frame) in omega arith),
      λ p also other.
          elim (cases_Bool (may_come plan.k t p (peer_of plan t p) there)) [
            | inr never ↦ claim_of_group plan t p there frame false group never
            | inl may_too ↦
                let d = down q passes in
                let e = down p also in
                absurd (other (one_port plan is_plan t q p d.at e.at d.to e.to d.peer e.peer
                (leads_apart plan.k t d.to.0 e.to.0 there.edge (rung plan is_plan t q d.to d.at d.peer) (rung plan is_plan t p e.to e.at e.peer) d.lower e.lower
                (leads_there q d may) (leads_there p e may_too))))
          ],
    )
  ]

  -- and so do ports for hosts
  hosts_alone : (test : ℕ → Bool) (most : ℕ) → ((p : ℕ) → test p ≡ true → peer_of plan t p ≡ HostPort) →
      ((p : ℕ) → same_edge_port (at_port t p) there ≡ true → 1 ≤ most) → (q : ℕ) → test q ≡ true → CountsAlone test (λ p. claim may_come_by plan t p there frame) most q
  hosts_alone test most at within q passes = elim (cases_Bool (same_edge_port (at_port t q) there)) [
    | inr never ↦ inl (claim_of_group plan t q there frame false group (ap (λ p. may_come plan.k t q p there) (at q passes) ∙ never))
    | inl may ↦ inr (
      (let some = within q may in let one = one_at_most (may_come_by plan t q there frame) in omega arith),
      λ p also other.
          elim (cases_Bool (same_edge_port (at_port t p) there)) [
            | inr never ↦ claim_of_group plan t p there frame false group (ap (λ o. may_come plan.k t p o there) (at p also) ∙ never)
            | inl may_too ↦
                let one = and_parts (t == there.edge) (q == there.port) may in
                let two = and_parts (t == there.edge) (p == there.port) may_too in
                absurd (other (eqb-true q there.port one.1 ∙ sym (eqb-true p there.port two.1)))
          ],
    )
  ]

-- What a switch knows of its ports.
module _ (plan : Plan) (is_plan : IsPlan plan) (t : ℕ) (v : SwitchView) (knows : KnowsTree plan t v) where
  pub record IsNamedDown (group q : ℕ) : Type 0 where
    pub part : TreePart
    pub id : SwitchId
    pub part_is : part_of v group ≡ Some part
    pub id_is : id_at v q ≡ Some id
    pub named : list_any (λ d. d.0 == id.0) part.down ≡ true

  pub named_down : (group q : ℕ) → is_down (part_of v group) (id_at v q) ≡ true → IsNamedDown group q
  named_down group q down = by_both (part_of v group) (id_at v q) refl refl down
    where
      by_both : (o : Option TreePart) (x : Option SwitchId) → part_of v group ≡ o → id_at v q ≡ x → is_down o x ≡ true → IsNamedDown group q
      by_both None x part_is id_is is = absurd (false≢true is)
      by_both (Some part) None part_is id_is is = absurd (false≢true is)
      by_both (Some part) (Some id) part_is id_is is = record { part = part; id = id; part_is = part_is; id_is = id_is; named = is }

  pub below : (group q : ℕ) (u : SwitchNo) (r : ℕ) → IsNamedDown group q → peer_of plan t q ≡ Switch u r → label_level (label_of plan.k u.0) + 1 ≡ label_level (label_of plan.k t)
  below group q u r n peer = knows.down group n.part q u r n.id n.part_is peer n.id_is n.named

  pub above : (group q : ℕ) (u : SwitchNo) (r : ℕ) → is_up (part_of v group) (id_at v q) ≡ true → peer_of plan t q ≡ Switch u r →
      label_level (label_of plan.k u.0) ≡ label_level (label_of plan.k t) + 1
  above group q u r leads peer = by_both (part_of v group) (id_at v q) refl refl leads
    where
      by_up : (part : TreePart) (id : SwitchId) (o : Option SwitchId) → part_of v group ≡ Some part → id_at v q ≡ Some id → part.up ≡ o →
          is_up (Some (record { up = o; down = part.down })) (Some id) ≡ true → label_level (label_of plan.k u.0) ≡ label_level (label_of plan.k t) + 1
      by_up part id None part_is id_is up_is is = absurd (false≢true is)
      by_up part id (Some x) part_is id_is up_is is = knows.up group part q u r id part_is peer id_is
          (up_is ∙ ap Some (ap (λ n. let y : SwitchId = record { 0 = n } in y) (eqb-true x.0 id.0 is)))

      by_both : (o : Option TreePart) (x : Option SwitchId) → part_of v group ≡ o → id_at v q ≡ x → is_up o x ≡ true → label_level (label_of plan.k u.0) ≡ label_level (label_of plan.k t) + 1
      by_both None x part_is id_is is = absurd (false≢true is)
      by_both (Some part) None part_is id_is is = absurd (no_id part.up is)
        where
          no_id : (o : Option SwitchId) → is_up (Some (record { up = o; down = part.down })) None ≡ true → ⊥
          no_id None e = false≢true e
          no_id (Some y) e = false≢true e
      by_both (Some part) (Some id) part_is id_is is = by_up part id part.up part_is id_is refl is

  pub leads_down : (group q : ℕ) → (is_usable v q && is_down (part_of v group) (id_at v q)) ≡ true → LeadsDown plan t q
  leads_down group q passes =
      let n = named_down group q (and_parts (is_usable v q) (is_down (part_of v group) (id_at v q)) passes).1 in
      by_peer n (peer_of plan t q) refl
    where
      by_peer : IsNamedDown group q → (p : Peer) → peer_of plan t q ≡ p → LeadsDown plan t q
      by_peer n (Switch u r) peer = record { to = u; at = r; peer = peer; lower = (let next = below group q u r n peer in omega (arith, next)) }
      by_peer n HostPort peer = (let none : id_at v q ≡ None = ap heard_id (knows.strangers q peer) in let some = n.id_is in absurd (cc))

  pub for_hosts : (group q : ℕ) (source : Pmac) → (is_reached v group q && not (is_source v source q)) ≡ true → peer_of plan t q ≡ HostPort
  for_hosts group q source passes =
      knows.hosts q (cond_both (group == flood) (port_of v q).host (list_any (λ (m : Member). (m.group == group) && (m.port == q)) v.members)
      (λ b. b ≡ true → (port_of v q).host ≡ true) (λ flooded is. is) (λ routed is. found v.members knows.members is)
      (and_parts (is_reached v group q) (not (is_source v source q)) passes).0)
    where
      found : (members : List Member) → AllByRecursion (λ m. (port_of v m.port).host ≡ true) members →
          list_any (λ (m : Member). (m.group == group) && (m.port == q)) members ≡ true → (port_of v q).host ≡ true
      found [] all is = absurd (false≢true is)
      found (m ∷ members) all is = elim (cases_Bool ((m.group == group) && (m.port == q))) [
        | inl here ↦ ap (λ n. (port_of v n).host) (sym (eqb-true m.port q (and_parts (m.group == group) (m.port == q) here).1)) ∙ all.0
        | inr other ↦ found members all.1 (sym (ap (λ b. b || list_any (λ (m : Member). (m.group == group) && (m.port == q)) members) other) ∙ is)
      ]

  -- a frame of a group that came from another switch
  module _ (s port q : ℕ) (at : SwitchNo) (itself : at.0 ≡ t) (peer : peer_of plan s port ≡ Switch at q) (there : EdgePort) (frame : List ℕ)
      (group : is_group (destination_of frame) ≡ true) where
    came_rung : Rung plan.k s t
    came_rung = subst (λ n. Rung plan.k s n) itself (rung plan is_plan s port at q peer)

    claim_is : (b : Bool) → leads_to (label_of plan.k s) (label_of plan.k t) (t == there.edge) (label_of plan.k there.edge) ≡ b → claim may_come_by plan s port there frame ≡ (if b then 1 else 0)
    claim_is b is = claim_of_group plan s port there frame b group (ap (λ p. may_come plan.k s port p there) peer
        ∙ ap (λ n. leads_to (label_of plan.k s) (label_of plan.k n) (n == there.edge) (label_of plan.k there.edge)) itself ∙ is)

    most_up : label_level (label_of plan.k s) < label_level (label_of plan.k t) → claim may_come_by plan s port there frame ≡ 1
    most_up less = by_rung came_rung
      where
        by_rung : Rung plan.k s t → claim may_come_by plan s port there frame ≡ 1
        by_rung (UpFromEdge p i j from to) = claim_is true (rw from refl)
        by_rung (UpToCore p j m from to) = claim_is true (rw (from, to) refl)
        by_rung (DownFromCore p j m from to) = (let x = ap label_level from in let y = ap label_level to in absurd (omega arith))
        by_rung (DownToEdge p i j from to) = (let x = ap label_level from in let y = ap label_level to in absurd (omega arith))

    most_at_core : label_level (label_of plan.k t) ≡ 2 → claim may_come_by plan s port there frame ≡ 1
    most_at_core two = by_rung came_rung
      where
        by_rung : Rung plan.k s t → claim may_come_by plan s port there frame ≡ 1
        by_rung (UpFromEdge p i j from to) = (let y = ap label_level to in absurd (omega arith))
        by_rung (UpToCore p j m from to) = claim_is true (rw (from, to) refl)
        by_rung (DownFromCore p j m from to) = (let y = ap label_level to in absurd (omega arith))
        by_rung (DownToEdge p i j from to) = (let y = ap label_level to in absurd (omega arith))

    -- from above to an aggregation switch
    from_core : (p : ℕ) → label_level (label_of plan.k t) ≡ 1 → label_level (label_of plan.k t) < label_level (label_of plan.k s) → LeadsDown plan t p →
        may_come plan.k t p (peer_of plan t p) there ≡ true → 1 ≤ claim may_come_by plan s port there frame
    from_core p one above d may = by_rung came_rung
      where
        by_rung : Rung plan.k s t → 1 ≤ claim may_come_by plan s port there frame
        by_rung (UpFromEdge p2 i j from to) = (let x = ap label_level from in let y = ap label_level to in absurd (omega arith))
        by_rung (UpToCore p2 j m from to) = (let y = ap label_level to in absurd (omega arith))
        by_rung (DownToEdge p2 i j from to) = (let y = ap label_level to in absurd (omega arith))
        by_rung (DownFromCore p2 j m from to) =
            let inside = leads_within plan.k t d.to.0 there.edge p2 j to (rung plan is_plan t p d.to d.at d.peer) d.lower
            (leads_there plan is_plan t there frame group p d may) in
            let all = claim_is true (rw (from, to) inside) in
            omega arith

    -- from above to an edge switch
    at_edge : (p : ℕ) → label_level (label_of plan.k t) ≡ 0 → same_edge_port (at_port t p) there ≡ true → 1 ≤ claim may_come_by plan s port there frame
    at_edge p zero_rank may = by_rung came_rung
      where
        by_rung : Rung plan.k s t → 1 ≤ claim may_come_by plan s port there frame
        by_rung (UpFromEdge p2 i j from to) = (let y = ap label_level to in absurd (omega arith))
        by_rung (UpToCore p2 j m from to) = (let y = ap label_level to in absurd (omega arith))
        by_rung (DownFromCore p2 j m from to) = (let y = ap label_level to in absurd (omega arith))
        by_rung (DownToEdge p2 i j from to) =
            let all = claim_is true (rw (from, to) (and_parts (t == there.edge) (p == there.port) may).0) in
            omega arith

    few_by : (way : Way) (number : ℕ) (source : Pmac) → GoesBy (label_level (label_of plan.k t)) (label_level (label_of plan.k s)) way →
        sum_of (λ p. claim may_come_by plan t p there frame) (group_ports v way number source) ≤ claim may_come_by plan s port there frame
    few_by Up number source less =
        let most = most_up less in
        let one = one_used plan t there frame (filter (λ p. is_usable v p && is_up (part_of v number) (id_at v p)) (range_with_len 0 v.k)) in omega arith
    few_by Down number source (inl two) =
        let most = most_at_core two in
        let test : ℕ → Bool = λ p. is_usable v p && is_down (part_of v number) (id_at v p) in
        let down : (p : ℕ) → test p ≡ true → LeadsDown plan t p = λ p passes. leads_down number p passes in
        one_only test (λ p. claim may_come_by plan t p there frame) (claim may_come_by plan s port there frame) 0 v.k
        (counts_alone plan is_plan t there frame group test (claim may_come_by plan s port there frame) down (λ p d may. omega arith))
    few_by Down number source (inr below_core) =
        let test : ℕ → Bool = λ p. is_usable v p && is_down (part_of v number) (id_at v p) in
        let down : (p : ℕ) → test p ≡ true → LeadsDown plan t p = λ p passes. leads_down number p passes in
        one_only test (λ p. claim may_come_by plan t p there frame) (claim may_come_by plan s port there frame) 0 v.k
        (counts_alone plan is_plan t there frame group test (claim may_come_by plan s port there frame) down (λ p d may. from_core p below_core.0 below_core.1 d may))
    few_by ToHosts number source zero_rank =
        let test : ℕ → Bool = λ p. is_reached v number p && not (is_source v source p) in
        one_only test (λ p. claim may_come_by plan t p there frame) (claim may_come_by plan s port there frame) 0 v.k
        (hosts_alone plan is_plan t there frame group test (claim may_come_by plan s port there frame) (λ p passes. for_hosts number p source passes)
        (λ p may. at_edge p zero_rank may))
    few_by Nowhere number source nothing = omega arith

    -- so it passes no more on
    pub group_few : peer_of plan t q ≡ Switch (record { 0 = s }) port →
        used may_come_by plan t there (forwards_group v (came_by v q) frame).acts ≤ claim may_come_by plan s port there frame
    group_few back =
        let number : ℕ = destination_group frame in
        let source : Pmac = pmac_of (source_of frame) in
        let way : Way = way_of v.place (came_by v q) in
        let by = ways v.place.level v.place.position v.place.pod (place_at v q).level (label_level (label_of plan.k t)) (label_level (label_of plan.k s)) knows.level
        (λ n is. knows.near q (record { 0 = s }) port n back is) in
        let few = few_by way number source by in
        let all = passed_used plan t there frame (no_way v (came_by v q) number) (group_ports v way number source) in
        omega arith
