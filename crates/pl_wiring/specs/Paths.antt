-- Paths over live links that go up and then down.
use Rattle.std.specs.Prelude.{◌≡◌, ◌≢◌, ℕ, ◌+◌, ◌*◌, ◌/◌, ◌<◌, ◌≤◌, List, [], ◌∷◌, ◌++◌, reverse, length, Some, slice_get, Any, AllPairs, HoldsAt}
use Rattle.pl_wiring.specs.declared.label.SwitchNo.{SwitchNo}
use Rattle.pl_wiring.specs.declared.link.Link.{Link}
use Rattle.pl_wiring.specs.Labels.{edge_count}
use Rattle.pl_wiring.specs.LiveLinks.{LivePorts, IsLive}
use Rattle.pl_wiring.specs.Plan.{Plan}

-- a live link leads up from the first switch to the second
abbrev pub Rises : List Link → (Link → Type 0) → SwitchNo → SwitchNo → Type 0
Rises links Live lower upper = Any (λ l. (l.lower ≡ lower) × (l.upper ≡ upper) × Live l) links

-- a live link leads up from each switch of the list to the next
abbrev pub Climbs : List Link → (Link → Type 0) → List SwitchNo → Type 0
Climbs links Live [] = Unit {0}
Climbs links Live (a ∷ []) = Unit {0}
Climbs links Live (a ∷ b ∷ more) = Rises links Live a b × Climbs links Live (b ∷ more)

-- from an edge switch up zero, one or two levels over live links, and down as many to an edge switch, no switch twice
pub record IsUpDownPath (k : ℕ) (links : List Link) (Live : Link → Type 0) (start end : SwitchNo) (path : List SwitchNo) : Type 0 where
  pub from_edge : start.0 < edge_count k
  pub to_edge : end.0 < edge_count k
  -- the way up to the top, the top itself, and the way down from it, which is read from its end
  pub up : List SwitchNo
  pub top : SwitchNo
  pub down : List SwitchNo
  pub whole : path ≡ up ++ top ∷ reverse down
  pub starts : slice_get (up ++ top ∷ []) 0 ≡ Some start
  pub ends : slice_get (down ++ top ∷ []) 0 ≡ Some end
  pub climbs : Climbs links Live (up ++ top ∷ [])
  pub falls : Climbs links Live (down ++ top ∷ [])
  pub as_many : length down ≡ length up
  pub two_at_most : length up ≤ 2
  pub distinct : AllPairs (λ a b. a ≢ b) path

-- the path is one over the links of a plan that are live in these states
abbrev pub IsLivePath : Plan → LivePorts → SwitchNo → SwitchNo → List SwitchNo → Type 0
IsLivePath plan states start end path = IsUpDownPath plan.k plan.links (IsLive states) start end path

abbrev pub LeadsUp : Plan → LivePorts → SwitchNo → SwitchNo → Type 0
LeadsUp plan states lower upper = Rises plan.links (IsLive states) lower upper

-- to no switch do live links lead up from both
abbrev pub NeverMeet : Plan → LivePorts → SwitchNo → SwitchNo → Type 0
NeverMeet plan states a b = (top : SwitchNo) → LeadsUp plan states a top → LeadsUp plan states b top → ⊥

-- a live link leads from the lower switch to the upper one, by this uplink of it, of those above it
abbrev pub RisesAt : Plan → (Link → Type 0) → SwitchNo → ℕ → SwitchNo → Type 0
RisesAt plan Live lower uplink upper = HoldsAt (λ l. (l.upper ≡ upper) × Live l) plan.links (lower.0 * (plan.k / 2) + uplink)

abbrev pub LeadsUpAt : Plan → LivePorts → SwitchNo → ℕ → SwitchNo → Type 0
LeadsUpAt plan states lower uplink upper = RisesAt plan (IsLive states) lower uplink upper

-- the same by one uplink of both switches
abbrev pub NeverMeetAt : Plan → LivePorts → SwitchNo → SwitchNo → ℕ → Type 0
NeverMeetAt plan states a b uplink =
    (top : SwitchNo) → LeadsUpAt plan states a uplink top → LeadsUpAt plan states b uplink top → ⊥

-- nor do they from the switches by one uplink of these two
abbrev pub NeverMeetOver : Plan → LivePorts → SwitchNo → SwitchNo → ℕ → Type 0
NeverMeetOver plan states start end uplink = (left right : SwitchNo) →
    LeadsUpAt plan states start uplink left → LeadsUpAt plan states end uplink right → NeverMeet plan states left right
