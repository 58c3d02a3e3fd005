-- What the table of an edge switch does, the switch does.
use Rattle.std.proofs.Common.{◌≡◌, ℕ, ◌==◌, ◌&&◌, ◌||◌, Bool, true, false, if◌then◌else◌, List, Option, Some, None, Result, Ok, Err, IfOk, OnOk, refl, sym, ap, ◌∙◌, subst}
use Rattle.std.specs.Option.{is_some}
use Rattle.std.proofs.lemmas.Bool.{true≢false}
use Rattle.pl_lemmas.proofs.Exports.{and_false}
use Rattle.pl_frame.specs.declared.address.SwitchId.{SwitchId}
use Rattle.pl_pmac.specs.declared.pmac.Pmac.{Pmac}
use Rattle.pl_layouts.specs.declared.place.Place.{Place}
use Rattle.pl_layouts.specs.Placement.{is_known, nowhere}
use Rattle.pl_node.specs.declared.acts.Act.{Act}
use Rattle.pl_node.specs.declared.messages.TreePart.{TreePart}
use Rattle.pl_node.specs.declared.switch_records.Grant.{Grant}
use Rattle.pl_node.specs.declared.switch_records.Hold.{Hold}
use Rattle.pl_node.specs.SwitchViews.{SwitchView}
use Rattle.pl_steps.specs.Steps.{SwitchStep}
use Rattle.pl_steps.specs.Taken.{IsTaken, IsTakenUpTo}
use Rattle.pl_switch_rule.specs.Forwarding.{Choice}
use Rattle.pl_switch_rule.specs.Intake.{takes_in}
use Rattle.pl_switch_rule.specs.Granting.{grant_number, grants_at, is_granted}
use Rattle.pl_migrate.specs.AddressTables.{AddressTableView, edge_at}
use Rattle.pl_position.specs.Candidacy.{Candidacy}
use Rattle.pl_ports.specs.PortsViews.{PortsView}
use Rattle.pl_edge.specs.EdgeViews.{EdgeView, edge_in, granted_by as granted_there, grants_by, place_by, KeepsAddressTable, KeepsEdge, MayBeAt}
use Rattle.pl_edge.specs.Begun.{left_to_do}
use Rattle.pl_edge.specs.declared.edge_act.EdgeAct.{EdgeAct}
use Rattle.pl_switch_state.proofs.EdgeRows.{edge_taken}
use Rattle.pl_switch_state.proofs.Settled.{edge_becomes, edge_is_in}
use Rattle.pl_switch_state.specs.StateViews.{is_placed_edge, state_view, AreOfOne, HasAddressTableAt}

-- another table has its pod and position, or none either
pub record StandsAs (old new : EdgeView) : Type 0 where
  pub k : new.k ≡ old.k
  pub place : (place : Place) → place_by new.address_table place ≡ place_by old.address_table place

by_kept : (old new : Option AddressTableView) → KeepsAddressTable old new → (place : Place) → place_by new place ≡ place_by old place
by_kept None None kept place = refl
by_kept None (Some address_table) kept place = absurd kept
by_kept (Some address_table) None kept place = absurd kept
by_kept (Some address_table) (Some after) kept place = ap (λ p. edge_at p after.position) kept.0.pod ∙ ap (λ q. edge_at address_table.pod q) kept.0.position

pub stands : (old new : EdgeView) → KeepsEdge old new → StandsAs old new
stands old new kept = record { k = kept.k; place = by_kept old.address_table new.address_table kept.address_table }

same_booked : (old new : Option AddressTableView) → ((place : Place) → place_by new place ≡ place_by old place) → is_some new ≡ is_some old
same_booked None None same = refl
same_booked (Some address_table) (Some after) same = refl
same_booked None (Some after) same = absurd (let e : Some 0 ≡ None = ap (λ (p : Place). p.level) (same nowhere) in cc)
same_booked (Some address_table) None same = absurd (let e : None ≡ Some 0 = ap (λ (p : Place). p.level) (same nowhere) in cc)

pub same_address_table_at : (old new : EdgeView) (place : Place) → StandsAs old new → HasAddressTableAt old.address_table place → HasAddressTableAt new.address_table place
same_address_table_at old new place same has = record {
  booked = same_booked old.address_table new.address_table same.place ∙ has.booked;
  at = same.place place ∙ has.at;
}

pub same_parts : (ports : PortsView) (candidacy : Candidacy) (holds : List (Option Hold)) (old new : EdgeView) → StandsAs old new →
    AreOfOne ports candidacy holds old → AreOfOne ports candidacy holds new
same_parts ports candidacy holds old new same are = record {
  hosts = same.k ∙ are.hosts;
  votes = are.votes;
  positions = are.positions;
  holders = are.holders;
  position = are.position;
  address_table = same_address_table_at old new ports.place same are.address_table;
}

-- what the table takes up to a rest, the switch does
pub edge_up_to : (v : SwitchView) (p : PortsView) (c : Candidacy) (h : List (Option Hold)) (edge after : EdgeView) (avoid : List (SwitchId × ℕ × ℕ)) (parts : List (ℕ × TreePart)) (epoch : ℕ)
    (row rest : SwitchView → SwitchStep) (out told : List Act) →
    state_view p c h edge avoid parts epoch ≡ v → place_by edge.address_table p.place ≡ p.place → place_by after.address_table p.place ≡ p.place →
    IsTakenUpTo (rest (edge_in after (state_view p c h edge avoid parts epoch))) (row (edge_in edge (state_view p c h edge avoid parts epoch))) out told →
    IsTakenUpTo (rest (state_view p c h after avoid parts epoch)) (row v) out told
edge_up_to v p c h edge after avoid parts epoch row rest out told is at at_after taken =
    subst (λ u. IsTakenUpTo (rest (state_view p c h after avoid parts epoch)) (row u) out told) (edge_is_in p c h edge avoid parts epoch at ∙ is)
    (subst (λ w. IsTakenUpTo (rest w) (row (edge_in edge (state_view p c h edge avoid parts epoch))) out told) (edge_becomes p c h edge after avoid parts epoch at_after) taken)

pub begun_by_table : {E : Type 0} (v : SwitchView) (p : PortsView) (c : Candidacy) (h : List (Option Hold)) (edge after : EdgeView) (avoid : List (SwitchId × ℕ × ℕ)) (parts : List (ℕ × TreePart)) (epoch : ℕ)
    (port : ℕ) (frame new : List ℕ) (out told : List Act) (result : Result EdgeAct E) →
    state_view p c h edge avoid parts epoch ≡ v → HasAddressTableAt edge.address_table p.place → HasAddressTableAt after.address_table p.place → MayBeAt edge.address_table p.place →
    IfOk result (λ act. (choose : Choice) (u : SwitchView) → MayBeAt edge.address_table u.place →
    IsTakenUpTo (left_to_do choose act new (edge_in after u)) (takes_in choose port frame (edge_in edge u)) out told) →
    IfOk result (λ act. (choose : Choice) → IsTakenUpTo (left_to_do choose act new (state_view p c h after avoid parts epoch)) (takes_in choose port frame v) out told)
begun_by_table v p c h edge after avoid parts epoch port frame new out told (Err e) is at at_after may begun = begun
begun_by_table v p c h edge after avoid parts epoch port frame new out told (Ok act) is at at_after may begun = λ choose.
    edge_up_to v p c h edge after avoid parts epoch (takes_in choose port frame) (left_to_do choose act new) out told is at.at at_after.at
    (begun choose (state_view p c h edge avoid parts epoch) may)

pub taken_by_table : {E : Type 0} (v : SwitchView) (p : PortsView) (c : Candidacy) (h : List (Option Hold)) (edge after : EdgeView) (avoid : List (SwitchId × ℕ × ℕ)) (parts : List (ℕ × TreePart)) (epoch : ℕ)
    (row : SwitchView → SwitchStep) (out told : List Act) (result : Result (Unit {0}) E) →
    state_view p c h edge avoid parts epoch ≡ v → HasAddressTableAt edge.address_table p.place → HasAddressTableAt after.address_table p.place → MayBeAt edge.address_table p.place →
    OnOk result ((u : SwitchView) → MayBeAt edge.address_table u.place → IsTaken (row (edge_in edge u)) (edge_in after u) out told) →
    OnOk result (IsTaken (row v) (state_view p c h after avoid parts epoch) out told)
taken_by_table v p c h edge after avoid parts epoch row out told (Err e) is at at_after may taken = taken
taken_by_table v p c h edge after avoid parts epoch row out told (Ok done) is at at_after may taken =
    edge_taken v p c h edge after avoid parts epoch row out told is at.at at_after.at (taken (state_view p c h edge avoid parts epoch) may)

-- the same of what the table takes wherever it is
pub taken_anywhere : {E : Type 0} (v : SwitchView) (p : PortsView) (c : Candidacy) (h : List (Option Hold)) (edge after : EdgeView)
    (avoid : List (SwitchId × ℕ × ℕ)) (parts : List (ℕ × TreePart)) (epoch : ℕ)
    (row : SwitchView → SwitchStep) (out told : List Act) (result : Result (Unit {0}) E) →
    state_view p c h edge avoid parts epoch ≡ v → HasAddressTableAt edge.address_table p.place → HasAddressTableAt after.address_table p.place →
    OnOk result ((u : SwitchView) → IsTaken (row (edge_in edge u)) (edge_in after u) out told) →
    OnOk result (IsTaken (row v) (state_view p c h after avoid parts epoch) out told)
taken_anywhere v p c h edge after avoid parts epoch row out told (Err e) is at at_after taken = taken
taken_anywhere v p c h edge after avoid parts epoch row out told (Ok done) is at at_after taken =
    edge_taken v p c h edge after avoid parts epoch row out told is at.at at_after.at (taken (state_view p c h edge avoid parts epoch))

-- ---- what was granted

no_case : (edge core aggregation x : Bool) → (edge && (core || (aggregation && true) || (edge && true && true))) ≡ false → (edge && x) ≡ false
no_case false core aggregation x h = refl
no_case true true aggregation x h = absurd (true≢false h)
no_case true false true x h = absurd (true≢false h)
no_case true false false x h = absurd (true≢false h)

-- an address is local to an edge switch that is placed
nowhere_local : (level position pod : Option ℕ) (p q : ℕ) →
    is_placed_edge (record { level = level; position = position; pod = pod }) ≡ false →
    (is_known level 0 && (is_known pod p && is_known position q)) ≡ false
nowhere_local level position None p q h = and_false (is_known level 0)
nowhere_local level None (Some pod) p q h = ap (λ b. is_known level 0 && b) (and_false (pod == p)) ∙ and_false (is_known level 0)
nowhere_local level (Some position) (Some pod) p q h =
    no_case (is_known level 0) (is_known level 2) (is_known level 1) ((pod == p) && (position == q)) h

pub granted_by : (address_table : Option AddressTableView) (k : ℕ) (v : SwitchView) (address : Pmac) → HasAddressTableAt address_table v.place → v.grants ≡ grants_by address_table k →
    is_some (granted_there address_table address) ≡ is_granted v address
granted_by None k v address has grants =
    ap (λ b. is_some (if b then grant_number (grants_at v address.port) address.vmid else None))
    (sym (nowhere_local v.place.level v.place.position v.place.pod address.pod address.position (sym has.booked)))
granted_by (Some address_table) k v address has grants =
    ap (λ (gs : List (List Grant)). is_granted (record v { place = edge_at address_table.pod address_table.position; grants = gs }) address) (sym grants)
    ∙ ap (λ (place : Place). is_granted (record v { place = place }) address) has.at

first_true : (a b : Bool) (g : Option Grant) → is_some (if a && b then g else None) ≡ true → a ≡ true
first_true true b g h = refl
first_true false b g h = h

-- only an edge switch grants addresses
pub granted_edge : (v : SwitchView) (address : Pmac) → is_granted v address ≡ true → is_known v.place.level 0 ≡ true
granted_edge v address h =
    first_true (is_known v.place.level 0) (is_known v.place.pod address.pod && is_known v.place.position address.position)
    (grant_number (grants_at v address.port) address.vmid) h
