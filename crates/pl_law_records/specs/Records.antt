-- The manager's records are what the switches told, and each switch's avoid list and tree parts are those of the records: with what waits between
-- them in every control plane of a run, and as they stand where nothing waits.
use Rattle.std.specs.Prelude.{◌≡◌, ℕ, Bool, true, false, Some, unwrap_or, slice_get}
use Rattle.std.specs.List.{AllByRecursion, list_any}
use Rattle.std.specs.List.Sorted.{IsStrictlySortedBy}
use Rattle.std.specs.Map.{keys_of}
use Rattle.std.specs.Ordering.{nat_cmp}
use Rattle.pl_frame.specs.declared.address.SwitchId.{SwitchId}
use Rattle.pl_wiring.specs.declared.link.Peer.{Peer}
use Rattle.pl_wiring.specs.declared.link.Peer.TheVariants.{HostPort, Switch}
use Rattle.pl_wiring.specs.Peers.{peer_of}
use Rattle.pl_wiring.specs.Plan.{Plan}
use Rattle.pl_node.specs.AvoidLists.{avoid_list}
use Rattle.pl_node.specs.ManagerViews.{Members, is_told_usable, members_cmp, place_of, value_at}
use Rattle.pl_node.specs.PortRecords.{id_at, is_id, is_usable, ports_of_switch}
use Rattle.pl_node.specs.SwitchFacts.{part_of}
use Rattle.pl_node.specs.Trees.{tree_part}
use Rattle.pl_manager_rule.specs.Histories.{link_said, members_said, place_said}
use Rattle.pl_switch_rule.specs.Intake.{has_member_of}
use Rattle.pl_law_control_plane.specs.ControlPlanes.{AreAdjacent, ControlPlane}
use Rattle.pl_law_due.specs.Due.{is_silent}
use Rattle.pl_law_due.specs.Gathering.{IsNoEnd}
use Rattle.pl_law_records.specs.Words.{IsNoOrder, IsNoReport, avoid_said, last_said, part_said}

-- whether a switch has members of a group, as the manager was told last
abbrev pub has_told_members : Members → SwitchId → ℕ → Bool
has_told_members members s group = unwrap_or (value_at members_cmp members (s, group)) false

-- The last word of switch s on its place, and on its members of each group, says what it would tell now. A word that was treated before those that are
-- due is what the manager recorded.
pub record HasReported (f : ControlPlane) (s : ℕ) (id : SwitchId) : Type 0 where
  pub place : last_said place_said (place_of f.manager.told id) (f.reports s) ≡ (f.view s).place
  pub members : (group : ℕ) → last_said (members_said group) (has_told_members f.manager.members id group) (f.reports s) ≡ has_member_of (f.view s).members group

-- The last avoid list that switch s was sent, and its last part of the tree of each group, are those of the manager's records. What came before
-- those that wait is what the switch holds.
pub record HasOrders (f : ControlPlane) (s : ℕ) (id : SwitchId) : Type 0 where
  pub avoid : last_said avoid_said (f.view s).avoid (f.orders s) ≡ avoid_list f.manager.told id
  pub parts : (group : ℕ) → last_said (part_said group) (part_of (f.view s) group) (f.orders s) ≡ tree_part f.manager.told f.manager.members group id
  pub rising : IsStrictlySortedBy nat_cmp (keys_of (f.view s).parts)

-- each switch of the wiring that is not silent
abbrev pub HaveReported : ControlPlane → Type 0
HaveReported f = (s : ℕ) (id : SwitchId) → slice_get f.plan.ids s ≡ Some id → is_silent f.orders s ≡ false → HasReported f s id

-- each switch of the wiring
abbrev pub HaveOrders : ControlPlane → Type 0
HaveOrders f = (s : ℕ) (id : SwitchId) → slice_get f.plan.ids s ≡ Some id → HasOrders f s id

-- no word on records waits, no end of a report, and no order
pub record NoReportWaits (f : ControlPlane) : Type 0 where
  pub reports : (s : ℕ) → AllByRecursion IsNoReport (f.reports s)
  pub ends : (s : ℕ) → AllByRecursion IsNoEnd (f.reports s)
  pub orders : (s : ℕ) → AllByRecursion IsNoOrder (f.orders s)

-- what the manager recorded of a switch is what it would tell now, and it holds the avoid list and the tree parts of the records
pub record IsCurrent (f : ControlPlane) (s : ℕ) (id : SwitchId) : Type 0 where
  pub place : place_of f.manager.told id ≡ (f.view s).place
  pub members : (group : ℕ) → has_told_members f.manager.members id group ≡ has_member_of (f.view s).members group
  pub avoid : (f.view s).avoid ≡ avoid_list f.manager.told id
  pub parts : (group : ℕ) → part_of (f.view s) group ≡ tree_part f.manager.told f.manager.members group id

abbrev pub AreCurrent : ControlPlane → Type 0
AreCurrent f = (s : ℕ) (id : SwitchId) → slice_get f.plan.ids s ≡ Some id → IsCurrent f s id

-- At each port at which something was heard, that was the switch that the wiring has at the other end.
abbrev pub NamesNeighbours : ControlPlane → Type 0
NamesNeighbours f = (s p : ℕ) (x : SwitchId) → id_at (f.view s) p ≡ Some x → (t : ℕ) × (q : ℕ) × AreAdjacent f.plan s p t q × (slice_get f.plan.ids t ≡ Some x)

-- Port p of switch s is joined to switch t. Their ids are these.
pub record IsPair (plan : Plan) (s p t q : ℕ) (id u : SwitchId) : Type 0 where
  pub adjacent : AreAdjacent plan s p t q
  pub here : slice_get plan.ids s ≡ Some id
  pub there : slice_get plan.ids t ≡ Some u

-- The last word of a switch that is not silent on its link to another says whether its port to it is usable.
abbrev pub HaveToldLinks : ControlPlane → Type 0
HaveToldLinks f = (s p t q : ℕ) (id u : SwitchId) → IsPair f.plan s p t q id u → is_silent f.orders s ≡ false →
    last_said (link_said u) (is_told_usable f.manager.told id u) (f.reports s) ≡ is_usable (f.view s) p

-- what the manager recorded of each link is what both ends would tell now
abbrev pub LinksAreCurrent : ControlPlane → Type 0
LinksAreCurrent f = (s p t q : ℕ) (id u : SwitchId) → IsPair f.plan s p t q id u → is_told_usable f.manager.told id u ≡ is_usable (f.view s) p

-- The switch of this id is at the other end of a link of switch s.

abbrev pub is_switch_with : Plan → SwitchId → Peer → Bool
is_switch_with plan u HostPort = false
is_switch_with plan u (Switch t q) = is_id (slice_get plan.ids t.0) u

abbrev pub is_neighbour : Plan → ℕ → SwitchId → Bool
is_neighbour plan s u = list_any (λ p. is_switch_with plan u (peer_of plan s p)) (ports_of_switch plan.k)

-- No word of one says that a link to another switch is usable.
abbrev pub HaveToldNeighbours : ControlPlane → Type 0
HaveToldNeighbours f = (s : ℕ) (id u : SwitchId) → slice_get f.plan.ids s ≡ Some id → is_neighbour f.plan s u ≡ false → is_silent f.orders s ≡ false →
    last_said (link_said u) (is_told_usable f.manager.told id u) (f.reports s) ≡ false

-- what the manager recorded of a usable link is one of the wiring
abbrev pub LinksAreOfNeighbours : ControlPlane → Type 0
LinksAreOfNeighbours f = (s : ℕ) (id u : SwitchId) → slice_get f.plan.ids s ≡ Some id → is_told_usable f.manager.told id u ≡ true →
    (p t q : ℕ) × AreAdjacent f.plan s p t q × (slice_get f.plan.ids t ≡ Some u)
