-- By which ports a frame of a group goes on: it rises to a core switch, and then falls.
use Rattle.std.proofs.Common.{◌⊎◌, inl, inr, ◌≡◌, ℕ, ◌<◌, ◌+◌, ◌&&◌, Bool, true, false, List, [], ◌∷◌, refl, sym, ◌∙◌, ap, ap₂, nat_le, nat_lt, if◌then◌else◌, length, Some, subst, arith}
use Rattle.std.specs.List.{AllByRecursion, filter}
use Rattle.std.proofs.Math.ListN.{length-map}
use Rattle.std.proofs.lemmas.Option.{same_Some}
use Rattle.std.proofs.lemmas.Bool.{and_parts, cases_Bool, cond-false, cond-true, false≢true}
use Rattle.pl_pmac.specs.declared.pmac.Pmac.{Pmac}
use Rattle.pl_wiring.specs.declared.label.Label.{Label}
use Rattle.pl_wiring.specs.declared.label.Label.TheVariants.{Aggregation, Core, Edge}
use Rattle.pl_wiring.specs.declared.label.SwitchNo.{SwitchNo}
use Rattle.pl_wiring.specs.declared.link.Peer.{Peer}
use Rattle.pl_wiring.specs.declared.link.Peer.TheVariants.{HostPort, Switch}
use Rattle.pl_wiring.specs.Labels.{label_of}
use Rattle.pl_wiring.specs.Peers.{peer_of}
use Rattle.pl_wiring.specs.Plan.{IsPlan, Plan}
use Rattle.pl_journal.specs.Flights.{falls, first_of, is_good_leg, label_level, level_of, rises_and_falls}
use Rattle.pl_journal.specs.Places.{is_host_port}
use Rattle.pl_node.specs.PortRecords.{id_at, is_usable, place_at, ports_of_switch}
use Rattle.pl_node.specs.SwitchFacts.{part_of}
use Rattle.pl_node.specs.SwitchViews.{SwitchView}
use Rattle.pl_switch_rule.specs.declared.came.Way.{Way}
use Rattle.pl_switch_rule.specs.declared.came.Way.TheVariants.{Down, Nowhere, ToHosts, Up}
use Rattle.pl_switch_rule.specs.Forwarding.{came_by}
use Rattle.pl_switch_rule.specs.GroupForwarding.{at_most_one, group_ports, is_down, is_up, way_of}
use Rattle.pl_law_copies.specs.Standing.{KnowsTree}
use Rattle.pl_law_copies.proofs.Exports.{above, below, for_hosts, GoesBy, named_down, ways}
use Rattle.pl_law_counts.proofs.Exports.{Rung, rung}
use Rattle.pl_law_flights.specs.Routes.{fallen, levels, risen_or_fallen}
use Rattle.pl_law_counts.proofs.Exports.Rung.{DownFromCore, DownToEdge, UpFromEdge, UpToCore}

pub all_filtered : (P : ℕ → Type 0) (test : ℕ → Bool) → ((p : ℕ) → test p ≡ true → P p) → (ports : List ℕ) → AllByRecursion P (filter test ports)
all_filtered P test passes [] = tt
all_filtered P test passes (p ∷ ports) = elim (cases_Bool (test p)) [
  | inl is ↦ subst (λ l. AllByRecursion P l) (sym (cond-true (test p) (p ∷ filter test ports) (filter test ports) is)) (passes p is, all_filtered P test passes ports)
  | inr not_it ↦ subst (λ l. AllByRecursion P l) (sym (cond-false (test p) (p ∷ filter test ports) (filter test ports) not_it)) (all_filtered P test passes ports)
]

pub first_alone : (P : ℕ → Type 0) (ports : List ℕ) → AllByRecursion P ports → AllByRecursion P (at_most_one ports)
first_alone P [] all = tt
first_alone P (p ∷ ports) all = (all.0, tt)

-- the levels of the two ends of a link
pub data Levels (here there : ℕ) : Type 0 where
  FromEdge : here ≡ 0 → there ≡ 1 → Levels here there
  ToCore : here ≡ 1 → there ≡ 2 → Levels here there
  FromCore : here ≡ 2 → there ≡ 1 → Levels here there
  ToEdge : here ≡ 1 → there ≡ 0 → Levels here there

pub link_levels : (plan : Plan) (s q : ℕ) (t : SwitchNo) (p : ℕ) → IsPlan plan → peer_of plan s q ≡ Switch t p → Levels (level_of plan.k s) (level_of plan.k t.0)
link_levels plan s q t p is peer = by (rung plan is s q t p peer)
  where
    at : (n : ℕ) (label : Label) → label_of plan.k n ≡ label → level_of plan.k n ≡ label_level label
    at n label same = ap label_level same

    by : Rung plan.k s t.0 → Levels (level_of plan.k s) (level_of plan.k t.0)
    by (UpFromEdge a i j here there) = FromEdge (at s (Edge a i) here) (at t.0 (Aggregation a j) there)
    by (UpToCore a j m here there) = ToCore (at s (Aggregation a j) here) (at t.0 (Core j m) there)
    by (DownFromCore a j m here there) = FromCore (at s (Core j m) here) (at t.0 (Aggregation a j) there)
    by (DownToEdge a i j here there) = ToEdge (at s (Aggregation a j) here) (at t.0 (Edge a i) there)

-- the levels of a leg rise and then fall, said of the levels alone
abbrev fall_down : List ℕ → Bool
fall_down [] = true
fall_down (a ∷ []) = true
fall_down (a ∷ b ∷ rest) = nat_lt b a && fall_down (b ∷ rest)

abbrev go_up_and_down : List ℕ → Bool
go_up_and_down [] = true
go_up_and_down (a ∷ []) = true
go_up_and_down (a ∷ b ∷ rest) = if nat_lt a b then go_up_and_down (b ∷ rest) else fall_down (a ∷ b ∷ rest)

falls_by_levels : (k : ℕ) (switches : List ℕ) → falls k switches ≡ fall_down (levels k switches)
falls_by_levels k [] = refl
falls_by_levels k (s ∷ []) = refl
falls_by_levels k (s ∷ t ∷ rest) = ap (λ b. nat_lt (level_of k t) (level_of k s) && b) (falls_by_levels k (t ∷ rest))

rises_by_levels : (k : ℕ) (switches : List ℕ) → rises_and_falls k switches ≡ go_up_and_down (levels k switches)
rises_by_levels k [] = refl
rises_by_levels k (s ∷ []) = refl
rises_by_levels k (s ∷ t ∷ rest) =
    ap₂ (λ a b. if nat_lt (level_of k s) (level_of k t) then a else b) (rises_by_levels k (t ∷ rest)) (falls_by_levels k (s ∷ t ∷ rest))

-- at most five levels that rise and then fall
abbrev are_good : List ℕ → Bool
are_good ls = nat_le (length ls) 5 && true && go_up_and_down ls

good_tree_leg : (k : ℕ) (switches : List ℕ) → are_good (levels k switches) ≡ true → is_good_leg true k switches ≡ true
good_tree_leg k switches good =
    ap₂ (λ n b. nat_le n 5 && true && b) (sym (length-map switches (level_of k))) (rises_by_levels k switches) ∙ good

-- one switch more behind a leg that rose, or rose and fell, to a neighbour of that switch
pub good_by_levels : (k s t : ℕ) (leg : List ℕ) → Levels (level_of k s) (level_of k t) → levels k leg ≡ risen_or_fallen (level_of k s) (level_of k t) →
    is_good_leg true k (t ∷ leg) ≡ true
good_by_levels k s t leg link rises = good_tree_leg k (t ∷ leg) (by link)
  where
    here : (a b : ℕ) → level_of k s ≡ a → level_of k t ≡ b → levels k (t ∷ leg) ≡ b ∷ risen_or_fallen a b
    here a b is_a is_b = ap₂ (λ n l. n ∷ l) is_b (rises ∙ ap (λ n. risen_or_fallen n (level_of k t)) is_a ∙ ap (risen_or_fallen a) is_b)

    by : Levels (level_of k s) (level_of k t) → are_good (levels k (t ∷ leg)) ≡ true
    by (FromEdge is_a is_b) = ap are_good (here 0 1 is_a is_b)
    by (ToCore is_a is_b) = ap are_good (here 1 2 is_a is_b)
    by (FromCore is_a is_b) = ap are_good (here 2 1 is_a is_b)
    by (ToEdge is_a is_b) = ap are_good (here 1 0 is_a is_b)

pub starts_with : (switches : List ℕ) (s : ℕ) → first_of switches ≡ Some s → (rest : List ℕ) × (switches ≡ s ∷ rest)
starts_with [] s is = absurd (cc)
starts_with (t ∷ rest) s is = (rest, ap (λ n. n ∷ rest) (same_Some t s is))

-- where a frame with these levels behind it may go on from switch t
abbrev pub IsWayOn : Plan → ℕ → List ℕ → Peer → Type 0
IsWayOn plan t leg (Switch u r) = levels plan.k leg ≡ risen_or_fallen (level_of plan.k t) (level_of plan.k u.0)
IsWayOn plan t leg HostPort = levels plan.k leg ≡ fallen 0

abbrev pub AreWaysOn : Plan → ℕ → List ℕ → List ℕ → Type 0
AreWaysOn plan t leg ports = AllByRecursion (λ p. IsWayOn plan t leg (peer_of plan t p)) ports

-- one more switch is crossed
crosses : (leg front : List ℕ) (here next : ℕ) (a b : ℕ) → here ≡ a → next ≡ b → leg ≡ front → a ∷ front ≡ risen_or_fallen a b → here ∷ leg ≡ risen_or_fallen here next
crosses leg front here next a b is_a is_b same so =
    ap (λ n. n ∷ leg) is_a ∙ ap (λ l. a ∷ l) same ∙ so ∙ sym (ap (λ n. risen_or_fallen n next) is_a ∙ ap (risen_or_fallen a) is_b)

came : (leg : List ℕ) (before here : ℕ) (a b : ℕ) → before ≡ a → here ≡ b → leg ≡ risen_or_fallen before here → leg ≡ risen_or_fallen a b
came leg before here a b is_a is_b same = same ∙ ap (λ n. risen_or_fallen n here) is_a ∙ ap (risen_or_fallen a) is_b

-- from an edge switch a frame of its own hosts goes up
pub first_ways : (plan : Plan) (t : ℕ) (v : SwitchView) → IsPlan plan → ((q : ℕ) → is_usable v q ≡ true → is_host_port (peer_of plan t q) ≡ false) → level_of plan.k t ≡ 0 →
    (p : ℕ) (peer : Peer) → peer_of plan t p ≡ peer → is_usable v p ≡ true → IsWayOn plan t (t ∷ []) peer
first_ways plan t v is linked edge p HostPort peer usable = absurd (false≢true (sym (linked p usable) ∙ ap is_host_port peer))
first_ways plan t v is linked edge p (Switch u r) peer usable = by (link_levels plan t p u r is peer)
  where
    by : Levels (level_of plan.k t) (level_of plan.k u.0) → IsWayOn plan t (t ∷ []) (Switch u r)
    by (FromEdge here next) = crosses [] [] (level_of plan.k t) (level_of plan.k u.0) 0 1 here next refl refl
    by (ToCore here next) = absurd (omega (arith, here, edge))
    by (FromCore here next) = absurd (omega (arith, here, edge))
    by (ToEdge here next) = absurd (omega (arith, here, edge))

module _ (plan : Plan) (is_plan : IsPlan plan) (t : ℕ) (v : SwitchView) (trees : KnowsTree plan t v)
    (linked : (q : ℕ) → is_usable v q ≡ true → is_host_port (peer_of plan t q) ≡ false)
    (s q port : ℕ) (from : peer_of plan t q ≡ Switch (record { 0 = s }) port) (leg : List ℕ)
    (before : levels plan.k leg ≡ risen_or_fallen (level_of plan.k s) (level_of plan.k t)) where
  abbrev here : ℕ
  here = level_of plan.k t

  abbrev back : ℕ
  back = level_of plan.k s

  came_over : Levels here back
  came_over = link_levels plan t q (record { 0 = s }) port is_plan from

  abbrev GoesOn : Peer → Type 0
  GoesOn peer = IsWayOn plan t (t ∷ leg) peer

  -- up
  on_up : back < here → (p : ℕ) (u : SwitchNo) (r : ℕ) → peer_of plan t p ≡ Switch u r → level_of plan.k u.0 ≡ here + 1 → GoesOn (Switch u r)
  on_up less p u r peer next = by came_over
    where
      low : Levels here (level_of plan.k u.0)
      low = link_levels plan t p u r is_plan peer

      by : Levels here back → GoesOn (Switch u r)
      by (FromEdge own other) = absurd (omega (arith, own, other, less))
      by (ToCore own other) = absurd (omega (arith, own, other, less))
      by (FromCore own other) = absurd (too_high low)
        where
          too_high : Levels here (level_of plan.k u.0) → ⊥
          too_high (FromEdge a b) = omega (arith, a, b, own, next)
          too_high (ToCore a b) = omega (arith, a, b, own, next)
          too_high (FromCore a b) = omega (arith, a, b, own, next)
          too_high (ToEdge a b) = omega (arith, a, b, own, next)
      by (ToEdge own other) =
          crosses (levels plan.k leg) (0 ∷ []) here (level_of plan.k u.0) 1 2 own (omega (arith, own, next)) (came (levels plan.k leg) back here 0 1 other own before) refl

  -- down
  on_down : (here ≡ 2) ⊎ ((here ≡ 1) × (here < back)) → (u : SwitchNo) (r : ℕ) → level_of plan.k u.0 + 1 ≡ here → GoesOn (Switch u r)
  on_down way u r next = by came_over way
    where
      by : Levels here back → (here ≡ 2) ⊎ ((here ≡ 1) × (here < back)) → GoesOn (Switch u r)
      by (FromEdge own other) (inl core) = absurd (omega (arith, own, core))
      by (FromEdge own other) (inr below_core) = absurd (let one = below_core.0 in omega (arith, own, one))
      by (ToCore own other) (inl core) = absurd (omega (arith, own, core))
      by (ToCore own other) (inr below_core) =
          crosses (levels plan.k leg) (2 ∷ 1 ∷ 0 ∷ []) here (level_of plan.k u.0) 1 0 own (omega (arith, own, next)) (came (levels plan.k leg) back here 2 1 other own before) refl
      by (FromCore own other) (inl core) =
          crosses (levels plan.k leg) (1 ∷ 0 ∷ []) here (level_of plan.k u.0) 2 1 own (omega (arith, own, next)) (came (levels plan.k leg) back here 1 2 other own before) refl
      by (FromCore own other) (inr below_core) = absurd (let one = below_core.0 in omega (arith, own, one))
      by (ToEdge own other) (inl core) = absurd (omega (arith, own, core))
      by (ToEdge own other) (inr below_core) = absurd (let less = below_core.1 in omega (arith, own, other, less))

  -- to hosts
  on_hosts : here ≡ 0 → GoesOn HostPort
  on_hosts edge = by came_over
    where
      by : Levels here back → GoesOn HostPort
      by (FromEdge own other) = ap (λ n. n ∷ levels plan.k leg) own ∙ ap (λ l. 0 ∷ l) (came (levels plan.k leg) back here 1 0 other own before)
      by (ToCore own other) = absurd (omega (arith, own, edge))
      by (FromCore own other) = absurd (omega (arith, own, edge))
      by (ToEdge own other) = absurd (omega (arith, own, edge))

  up_at : (number : ℕ) → back < here → (p : ℕ) → (is_usable v p && is_up (part_of v number) (id_at v p)) ≡ true → GoesOn (peer_of plan t p)
  up_at number less p passes = by (peer_of plan t p) refl
    where
      both : (is_usable v p ≡ true) × (is_up (part_of v number) (id_at v p) ≡ true)
      both = and_parts (is_usable v p) (is_up (part_of v number) (id_at v p)) passes

      by : (peer : Peer) → peer_of plan t p ≡ peer → GoesOn peer
      by HostPort peer = absurd (false≢true (sym (linked p both.0) ∙ ap is_host_port peer))
      by (Switch u r) peer =
          on_up less p u r peer (above plan is_plan t v trees number p u r both.1 peer)

  down_at : (number : ℕ) → (here ≡ 2) ⊎ ((here ≡ 1) × (here < back)) → (p : ℕ) → (is_usable v p && is_down (part_of v number) (id_at v p)) ≡ true → GoesOn (peer_of plan t p)
  down_at number way p passes = by (peer_of plan t p) refl
    where
      both : (is_usable v p ≡ true) × (is_down (part_of v number) (id_at v p) ≡ true)
      both = and_parts (is_usable v p) (is_down (part_of v number) (id_at v p)) passes

      by : (peer : Peer) → peer_of plan t p ≡ peer → GoesOn peer
      by HostPort peer = absurd (false≢true (sym (linked p both.0) ∙ ap is_host_port peer))
      by (Switch u r) peer =
          on_down way u r (below plan is_plan t v trees number p u r (named_down plan is_plan t v trees number p both.1) peer)

  by_way : (way : Way) (number : ℕ) (source : Pmac) → GoesBy here back way → AreWaysOn plan t (t ∷ leg) (group_ports v way number source)
  by_way Up number source less = first_alone _ _ (all_filtered (λ p. GoesOn (peer_of plan t p)) _ (up_at number less) (ports_of_switch v.k))
  by_way Down number source way = all_filtered (λ p. GoesOn (peer_of plan t p)) _ (down_at number way) (ports_of_switch v.k)
  by_way ToHosts number source edge = all_filtered (λ p. GoesOn (peer_of plan t p)) _
      (λ p passes. subst GoesOn (sym (for_hosts plan is_plan t v trees number p source passes)) (on_hosts edge)) (ports_of_switch v.k)
  by_way Nowhere number source nothing = tt

  -- by whatever port it goes on
  pub ways_on : (number : ℕ) (source : Pmac) → AreWaysOn plan t (t ∷ leg) (group_ports v (way_of v.place (came_by v q)) number source)
  ways_on number source = by_way (way_of v.place (came_by v q)) number source
      (ways v.place.level v.place.position v.place.pod (place_at v q).level here back trees.level
      (λ n known. trees.near q (record { 0 = s }) port n from known))
