-- What an edge switch keeps agrees with its place, also once more of its place is known.
use Rattle.std.proofs.Common.{◌≡◌, ℕ, ◌&&◌, not, true, false, if◌then◌else◌, Option, Some, None, List, ◌++◌, refl, sym, ap, ◌∙◌, subst}
use Rattle.std.proofs.lemmas.Bool.{and_parts, and_from, both_ways, false_from_ne_true, not-true, true_from_ne_false, false≢true, true≢false}
use Rattle.std.specs.Prelude.{is_some}
use Rattle.pl_frame.specs.declared.address.SwitchId.{SwitchId}
use Rattle.pl_node.specs.declared.acts.Act.{Act}
use Rattle.pl_node.specs.declared.messages.TreePart.{TreePart}
use Rattle.pl_node.specs.declared.switch_records.Hold.{Hold}
use Rattle.pl_node.specs.PortRecords.{ports_of_switch}
use Rattle.pl_node.specs.SwitchViews.{SwitchView}
use Rattle.pl_layouts.specs.declared.place.Place.{Place}
use Rattle.pl_layouts.specs.Placement.{is_known, is_placed, nowhere}
use Rattle.pl_layouts.proofs.Exports.{known_is}
use Rattle.pl_steps.specs.Steps.{SwitchStep, does, rests}
use Rattle.pl_steps.specs.Taken.{IsTaken}
use Rattle.pl_steps.proofs.Exports.{taken_rests, taken_then}
use Rattle.pl_switch_rule.specs.Granting.{grants_remembered}
use Rattle.pl_switch_rule.specs.Levels.{changes_to, has_become_placed, settles_in}
use Rattle.pl_switch_rule.specs.Telling.{changes_told}
use Rattle.pl_migrate.specs.AddressTables.{AddressTableView, edge_at}
use Rattle.pl_position.specs.Candidacy.{Candidacy}
use Rattle.pl_ports.specs.PortsViews.{PortsView}
use Rattle.pl_edge.specs.EdgeViews.{EdgeView, edge_in, place_by, placed_at, KeepsAddressTable}
use Rattle.pl_switch_state.specs.StateViews.{state_view, is_placed_edge, HasAddressTableAt}
use Rattle.pl_switch_state.specs.Settling.{StaysKnown, PlaceGrows}

abbrev place_of : Option ℕ → Option ℕ → Option ℕ → Place
place_of level position pod = record { level = level; position = position; pod = pod }

edge_placed : (b : AddressTableView) → HasAddressTableAt (Some b) (edge_at b.pod b.position)
edge_placed b = record { booked = refl; at = refl }

-- an address table is that of a place of which no more can become known
pub kept_address_table : (b : AddressTableView) (was new : Place) → HasAddressTableAt (Some b) was → PlaceGrows was new → HasAddressTableAt (Some b) new
kept_address_table b was new h grows =
    let level : new.level ≡ Some 0 = grows.level 0 (sym (ap (λ (p : Place). p.level) h.at)) in
    let position : new.position ≡ Some b.position = grows.position b.position (sym (ap (λ (p : Place). p.position) h.at)) in
    let pod : new.pod ≡ Some b.pod = grows.pod b.pod (sym (ap (λ (p : Place). p.pod) h.at)) in
    let is : new ≡ edge_at b.pod b.position =
    ap (λ l. place_of l new.position new.pod) level ∙ ap (λ q. place_of (Some 0) q new.pod) position ∙ ap (λ p. place_of (Some 0) (Some b.position) p) pod in
    subst (HasAddressTableAt (Some b)) (sym is) (edge_placed b)

pub at_now : (address_table : Option AddressTableView) (was new : Place) → HasAddressTableAt address_table was → PlaceGrows was new → place_by address_table new ≡ new
at_now None was new h grows = refl
at_now (Some b) was new h grows = (kept_address_table b was new h grows).at

-- an edge switch that becomes placed has no address table yet
pub becomes_none : (address_table : Option AddressTableView) (was new : Place) → HasAddressTableAt address_table was → has_become_placed was new ≡ true → address_table ≡ None
becomes_none None was new h becomes = refl
becomes_none (Some b) was new h becomes =
    let placed : is_placed was ≡ true = (and_parts (is_known was.level 0) (is_placed was) (sym h.booked)).1 in
    let unplaced : is_placed was ≡ false = not-true (is_placed was) (and_parts (is_known new.level 0 && is_placed new) (not (is_placed was)) becomes).1 in
    absurd (both_ways (is_placed was) unplaced placed)

still_edge : (level position pod : Option ℕ) (new : Option ℕ) → StaysKnown level new → is_known new 0 ≡ true → is_placed (place_of level position pod) ≡ true → is_known level 0 ≡ true
still_edge None position pod new grows known placed = absurd (false≢true placed)
still_edge (Some n) position pod new grows known placed = ap (λ l. is_known l 0) (sym (grows n refl)) ∙ known

unplaced : (was new : Place) → PlaceGrows was new → is_placed_edge was ≡ false → has_become_placed was new ≡ false → is_placed_edge new ≡ false
unplaced was new grows wasnt hasnt = false_from_ne_true (is_placed_edge new) (λ is.
    let known : is_known new.level 0 ≡ true = (and_parts (is_known new.level 0) (is_placed new) is).0 in
    let was_placed : is_placed was ≡ true = true_from_ne_false (is_placed was) (λ no.
    both_ways (has_become_placed was new) hasnt (and_from (is_placed_edge new) (not (is_placed was)) is (ap not no))) in
    let was_edge : is_known was.level 0 ≡ true = still_edge was.level was.position was.pod new.level grows.level known was_placed in
    both_ways (is_placed_edge was) wasnt (and_from (is_known was.level 0) (is_placed was) was_edge was_placed))

-- a switch that has not become placed is placed as it was
pub address_table_stays : (address_table : Option AddressTableView) (was new : Place) → HasAddressTableAt address_table was → PlaceGrows was new → has_become_placed was new ≡ false → HasAddressTableAt address_table new
address_table_stays None was new h grows hasnt = record { booked = sym (unplaced was new grows (sym h.booked) hasnt); at = refl }
address_table_stays (Some b) was new h grows hasnt = kept_address_table b was new h grows

pub becomes_at : (was new : Place) (pod position : ℕ) → has_become_placed was new ≡ true → new.pod ≡ Some pod → new.position ≡ Some position → new ≡ edge_at pod position
becomes_at was new pod position becomes is_pod is_position =
    let placed = and_parts (is_known new.level 0 && is_placed new) (not (is_placed was)) becomes in
    let level : new.level ≡ Some 0 = known_is new.level 0 (and_parts (is_known new.level 0) (is_placed new) placed.0).0 in
    ap (λ l. place_of l new.position new.pod) level ∙ ap (λ q. place_of (Some 0) q new.pod) is_position ∙ ap (λ p. place_of (Some 0) (Some position) p) is_pod

no_pod_at : (position : Option ℕ) → is_placed_edge (place_of (Some 0) position None) ≡ true → ⊥
no_pod_at None is = false≢true is
no_pod_at (Some position) is = false≢true is

-- what became placed has a pod and a position
pub no_pod : (was new : Place) → has_become_placed was new ≡ true → new.pod ≡ None → ⊥
no_pod was new becomes none =
    let is : is_placed_edge new ≡ true = (and_parts (is_placed_edge new) (not (is_placed was)) becomes).0 in
    let level : new.level ≡ Some 0 = known_is new.level 0 (and_parts (is_known new.level 0) (is_placed new) is).0 in
    no_pod_at new.position
    (ap (λ p. is_placed_edge (place_of (Some 0) new.position p)) (sym none) ∙ ap (λ l. is_placed_edge (place_of l new.position new.pod)) (sym level) ∙ is)

pub no_position : (was new : Place) → has_become_placed was new ≡ true → new.position ≡ None → ⊥
no_position was new becomes none =
    let is : is_placed_edge new ≡ true = (and_parts (is_placed_edge new) (not (is_placed was)) becomes).0 in
    let level : new.level ≡ Some 0 = known_is new.level 0 (and_parts (is_known new.level 0) (is_placed new) is).0 in
    false≢true (ap (λ q. is_placed_edge (place_of (Some 0) q new.pod)) (sym none) ∙ ap (λ l. is_placed_edge (place_of l new.position new.pod)) (sym level) ∙ is)

-- the address table that a switch gets as it becomes placed is that of its place
pub address_table_new : (pod position : ℕ) (edge : EdgeView) (address_table : Option AddressTableView) → KeepsAddressTable (placed_at pod position edge).address_table address_table → HasAddressTableAt address_table (edge_at pod position)
address_table_new pod position edge None keeps = absurd keeps
address_table_new pod position edge (Some b) keeps =
    subst (HasAddressTableAt (Some b)) (ap (λ p. edge_at p b.position) keeps.0.pod ∙ ap (λ q. edge_at pod q) keeps.0.position) (edge_placed b)

-- ---- the steps

pub settled_new : (edge after : EdgeView) (was place : Place) (pod position : ℕ) (w : SwitchView) (out told : List Act) →
    w.place ≡ place → w.k ≡ edge.k → edge_in edge w ≡ w → has_become_placed was place ≡ true → place ≡ edge_at pod position →
    ((v : SwitchView) → IsTaken (grants_remembered (ports_of_switch edge.k) (record (edge_in edge v) { place = edge_at pod position })) (edge_in after v) out told) →
    IsTaken (settles_in was w) (edge_in after w) out told
settled_new edge after was place pod position w out told is_place is_k is_edge becomes is_at taken =
    let view : record (edge_in edge w) { place = edge_at pod position } ≡ w =
    ap (λ (u : SwitchView). record u { place = edge_at pod position }) is_edge ∙ ap (λ p. record w { place = p }) (sym is_at ∙ sym is_place) in
    let whole : grants_remembered (ports_of_switch edge.k) (record (edge_in edge w) { place = edge_at pod position }) ≡ settles_in was w =
    ap (λ u. grants_remembered (ports_of_switch edge.k) u) view ∙ ap (λ k. grants_remembered (ports_of_switch k) w) (sym is_k)
    ∙ ap (λ b. if◌then◌else◌ {A = SwitchStep} b (grants_remembered (ports_of_switch w.k) w) (rests w)) (sym (ap (λ p. has_become_placed was p) is_place ∙ becomes)) in
    subst (λ s. IsTaken s (edge_in after w) out told) whole (taken w)

pub settled_same : (edge : EdgeView) (was place : Place) (w : SwitchView) (out : List Act) →
    w.place ≡ place → edge_in edge w ≡ w → has_become_placed was place ≡ false → IsTaken (settles_in was w) (edge_in edge w) out out
settled_same edge was place w out is_place is_edge hasnt =
    let whole : rests w ≡ settles_in was w =
    ap (λ b. if◌then◌else◌ {A = SwitchStep} b (grants_remembered (ports_of_switch w.k) w) (rests w)) (sym (ap (λ p. has_become_placed was p) is_place ∙ hasnt)) in
    subst (λ s. IsTaken s (edge_in edge w) out out) whole (subst (λ u. IsTaken (rests w) u out out) (sym is_edge) (taken_rests w out))

-- what changed is told, and then addresses are granted
pub told_and_granted : (old w after : SwitchView) (was : Place) (out told granted : List Act) →
    was ≡ old.place → told ≡ out ++ changes_told old w → IsTaken (settles_in was w) after told granted → IsTaken (changes_to old w) after out granted
told_and_granted old w after was out told granted is_was is_told settled =
    taken_then (does w (changes_told old w)) (settles_in old.place) w after out told granted
    (record { view = refl; acts = is_told })
    (subst (λ p. IsTaken (settles_in p w) after told granted) is_was settled)

-- a switch is that which has this edge part
pub edge_is_in : (p : PortsView) (c : Candidacy) (holds : List (Option Hold)) (edge : EdgeView) (avoid : List (SwitchId × ℕ × ℕ)) (parts : List (ℕ × TreePart)) (epoch : ℕ) →
    place_by edge.address_table p.place ≡ p.place → edge_in edge (state_view p c holds edge avoid parts epoch) ≡ state_view p c holds edge avoid parts epoch
edge_is_in p c holds edge avoid parts epoch at = ap (λ q. record (state_view p c holds edge avoid parts epoch) { place = q }) at

-- the edge part becomes another one
pub edge_becomes : (p : PortsView) (c : Candidacy) (holds : List (Option Hold)) (edge after : EdgeView) (avoid : List (SwitchId × ℕ × ℕ)) (parts : List (ℕ × TreePart)) (epoch : ℕ) →
    place_by after.address_table p.place ≡ p.place → edge_in after (state_view p c holds edge avoid parts epoch) ≡ state_view p c holds after avoid parts epoch
edge_becomes p c holds edge after avoid parts epoch at = ap (λ q. record (state_view p c holds after avoid parts epoch) { place = q }) at

-- ---- without memory

pub some_kept : (address_table : Option AddressTableView) (was new : Place) → HasAddressTableAt address_table was → PlaceGrows was new → is_some address_table ≡ true → HasAddressTableAt address_table new
some_kept None was new h grows some = absurd (false≢true some)
some_kept (Some b) was new h grows some = kept_address_table b was new h grows

-- a switch that knows nothing of its place has no address table
pub anew : (address_table : Option AddressTableView) (place : Place) → is_some address_table ≡ false → place ≡ nowhere → HasAddressTableAt address_table place
anew None place none is = subst (HasAddressTableAt None) (sym is) (record { booked = refl; at = refl })
anew (Some b) place none is = absurd (true≢false none)
