-- A host is found where one is known to be.
use Rattle.std.proofs.Common.{◌≡◌, ℕ, ◌&&◌, Bool, true, if◌then◌else◌, Option, Some, is_none, List, sym, ap, ◌∙◌, subst}
use Rattle.std.proofs.lemmas.Bool.{and_parts}
use Rattle.std.proofs.lemmas.List.{set-get_or}
use Rattle.pl_node.specs.declared.acts.Act.{Act}
use Rattle.pl_node.specs.declared.neighbour.PortRecord.{PortRecord}
use Rattle.pl_node.specs.declared.messages.TreePart.{TreePart}
use Rattle.pl_node.specs.declared.switch_records.Hold.{Hold}
use Rattle.pl_node.specs.PortRecords.{new_port, port_of, with_port}
use Rattle.pl_node.specs.SwitchViews.{SwitchView}
use Rattle.pl_frame.specs.declared.address.SwitchId.{SwitchId}
use Rattle.pl_layouts.specs.declared.place.Place.{Place}
use Rattle.pl_layouts.specs.Placement.{is_known}
use Rattle.pl_layouts.proofs.Exports.{known_is}
use Rattle.pl_steps.specs.Taken.{IsTaken}
use Rattle.pl_switch_rule.specs.Levels.{becomes_edge, changes_to, finds_host, pod_told_before}
use Rattle.pl_position.specs.Candidacy.{Candidacy}
use Rattle.pl_ports.specs.Changes.{takes_host, with_host}
use Rattle.pl_ports.specs.PortsViews.{PortsView, ports_alone, put_ports}
use Rattle.pl_ports.specs.SoundPorts.{IsSoundPlace}
use Rattle.pl_edge.specs.EdgeViews.{EdgeView}
use Rattle.pl_switch_state.specs.StateViews.{state_view}
use Rattle.pl_switch_state.specs.Settling.{PlaceGrows}
use Rattle.pl_switch_state.proofs.Growing.{grows_by_host}
use Rattle.pl_switch_state.proofs.Nothing.{nothing_changes}
use Rattle.pl_switch_state.proofs.Rows.{KeepsSelf}

same_put : (v : SwitchView) (port : ℕ) → (port_of v port).host ≡ true → with_host v port ≡ v
same_put v port host =
    ap (λ (b : Bool). with_port v port (record (port_of v port) { host = b })) (sym host)
    ∙ ap (λ (ports : List PortRecord). record v { ports = ports }) (set-get_or v.ports port new_port)

edge_itself : (v : SwitchView) → v.place.level ≡ Some 0 → becomes_edge v ≡ v
edge_itself v level =
    ap (λ l. record v { place = record v.place { level = Some 0; pod = if◌then◌else◌ {A = Option ℕ} (is_none l && is_none v.place.pod) (pod_told_before v) v.place.pod } }) level
    ∙ ap (λ (l : Option ℕ). record v { place = record v.place { level = l } }) (sym level)

pub known_host : (v : SwitchView) (port : ℕ) (out : List Act) → v.place.level ≡ Some 0 → (port_of v port).host ≡ true →
    IsTaken (finds_host v port) v out out
known_host v port out level host =
    let same : v ≡ becomes_edge (with_host v port) = sym (ap becomes_edge (same_put v port host) ∙ edge_itself v level) in
    subst (λ w. IsTaken (changes_to v w) v out out) same (nothing_changes v out)

-- ---- a host at a port where none was known

pub host_found : (p₀ p : PortsView) (c : Candidacy) (h : List (Option Hold)) (edge : EdgeView) (avoid : List (SwitchId × ℕ × ℕ)) (parts : List (ℕ × TreePart)) (epoch : ℕ) (port : ℕ) →
    takes_host (state_view p₀ c h edge avoid parts epoch) port ≡ true →
    ((v : SwitchView) → put_ports p v ≡ (if takes_host (put_ports p₀ v) port then becomes_edge (with_host (put_ports p₀ v) port) else put_ports p₀ v)) →
    becomes_edge (with_host (state_view p₀ c h edge avoid parts epoch) port) ≡ state_view p c h edge avoid parts epoch
host_found p₀ p c h edge avoid parts epoch port takes view =
    let old = state_view p₀ c h edge avoid parts epoch in
    sym (view old ∙ ap (λ b. if◌then◌else◌ {A = SwitchView} b (becomes_edge (with_host old port)) old) takes)

place_found : (p₀ p : PortsView) (w : SwitchView) (port : ℕ) → takes_host (put_ports p₀ w) port ≡ true →
    ((v : SwitchView) → put_ports p v ≡ (if takes_host (put_ports p₀ v) port then becomes_edge (with_host (put_ports p₀ v) port) else put_ports p₀ v)) →
    p.place ≡ (becomes_edge (with_host (put_ports p₀ w) port)).place
place_found p₀ p w port takes view =
    ap (λ (u : SwitchView). u.place)
    (view w ∙ ap (λ b. if◌then◌else◌ {A = SwitchView} b (becomes_edge (with_host (put_ports p₀ w) port)) (put_ports p₀ w)) takes)

pub host_grows : (p₀ p : PortsView) (w : SwitchView) (port : ℕ) → IsSoundPlace p₀.place → takes_host (put_ports p₀ w) port ≡ true →
    ((v : SwitchView) → put_ports p v ≡ (if takes_host (put_ports p₀ v) port then becomes_edge (with_host (put_ports p₀ v) port) else put_ports p₀ v)) →
    PlaceGrows p₀.place p.place
host_grows p₀ p w port sound takes view =
    subst (PlaceGrows p₀.place) (sym (place_found p₀ p w port takes view)) (grows_by_host (put_ports p₀ w) port sound takes)

pub host_at_edge : (p₀ p : PortsView) (w : SwitchView) (port : ℕ) → takes_host (put_ports p₀ w) port ≡ true →
    ((v : SwitchView) → put_ports p v ≡ (if takes_host (put_ports p₀ v) port then becomes_edge (with_host (put_ports p₀ v) port) else put_ports p₀ v)) →
    is_known p.place.level 0 ≡ true
host_at_edge p₀ p w port takes view = ap (λ (q : Place). is_known q.level 0) (place_found p₀ p w port takes view)

pub host_keeps : (p₀ p : PortsView) (w : SwitchView) (port : ℕ) → takes_host (put_ports p₀ w) port ≡ true →
    ((v : SwitchView) → put_ports p v ≡ (if takes_host (put_ports p₀ v) port then becomes_edge (with_host (put_ports p₀ v) port) else put_ports p₀ v)) →
    KeepsSelf p₀ p
host_keeps p₀ p w port takes view =
    let is : put_ports p w ≡ becomes_edge (with_host (put_ports p₀ w) port) =
    view w ∙ ap (λ b. if◌then◌else◌ {A = SwitchView} b (becomes_edge (with_host (put_ports p₀ w) port)) (put_ports p₀ w)) takes in
    record {
      id = ap (λ (u : SwitchView). u.id) is;
      k = ap (λ (u : SwitchView). u.k) is;
      position = ap (λ (u : SwitchView). u.place.position) is;
    }

-- ---- where a host is known, by the parts

pub known_by_parts : (v : SwitchView) (p : PortsView) (c : Candidacy) (h : List (Option Hold)) (edge : EdgeView) (avoid : List (SwitchId × ℕ × ℕ)) (parts : List (ℕ × TreePart)) (epoch : ℕ) (port : ℕ) (out : List Act) →
    state_view p c h edge avoid parts epoch ≡ v → (is_known p.place.level 0 && (port_of (ports_alone p) port).host) ≡ true → IsTaken (finds_host v port) v out out
known_by_parts v p c h edge avoid parts epoch port out is known =
    let both = and_parts (is_known p.place.level 0) (port_of (ports_alone p) port).host known in
    subst (λ u. IsTaken (finds_host u port) u out out) is
    (known_host (state_view p c h edge avoid parts epoch) port out (known_is p.place.level 0 both.0) both.1)

pub known_edge : (v : SwitchView) (p : PortsView) (c : Candidacy) (h : List (Option Hold)) (edge : EdgeView) (avoid : List (SwitchId × ℕ × ℕ)) (parts : List (ℕ × TreePart)) (epoch : ℕ) (port : ℕ) →
    state_view p c h edge avoid parts epoch ≡ v → (is_known p.place.level 0 && (port_of (ports_alone p) port).host) ≡ true → is_known v.place.level 0 ≡ true
known_edge v p c h edge avoid parts epoch port is known =
    ap (λ (u : SwitchView). is_known u.place.level 0) (sym is) ∙ (and_parts (is_known p.place.level 0) (port_of (ports_alone p) port).host known).0
