-- The world of bridges before its first line: of the links none is live but those of the tree. And what holds of it from then on.
use Rattle.std.specs.Prelude.{◌≡◌, ◌≤◌, ℕ, ◌+◌, not, Bool, true, false, if◌then◌else◌, length, List, [], ◌∷◌}
use Rattle.pl_wiring.specs.declared.link.Link.{Link}
use Rattle.pl_wiring.specs.Labels.{label_of}
use Rattle.pl_wiring.specs.LiveLinks.{LivePorts, is_live_at}
use Rattle.pl_wiring.specs.Plan.{Plan}
use Rattle.pl_world.specs.declared.event.Event.{Event}
use Rattle.pl_world.specs.declared.event.Event.TheVariants as event
use Rattle.pl_world.specs.declared.limits.Limits.{Limits}
use Rattle.pl_world.specs.Booting.{booted}
use Rattle.pl_world.specs.Flying.{IsCounted}
use Rattle.pl_world.specs.LinksAndMoves.{link_failed, with_link}
use Rattle.pl_world.specs.Runs.{Moment}
use Rattle.pl_world.specs.Runs.Moment.{Mark, Step}
use Rattle.pl_world.specs.Worlds.{WorldView}
use Rattle.pl_bridge_rule.specs.Tree.{is_tree_link}
use Rattle.pl_law_bridge.specs.Reaching.{ReachesOnce}
use Rattle.pl_law_bridge.specs.Travelling.{LeadsOverTree, TravelsOnTree}

-- no link is live but those of the tree
abbrev pub LiveIsTree : Plan → LivePorts → Type 0
LiveIsTree plan links = (s port : ℕ) → is_live_at links s port ≡ true → LeadsOverTree plan s port

-- the link is none of the tree
abbrev pub is_off_tree : ℕ → Link → Bool
is_off_tree k link = not (is_tree_link (label_of k link.lower.0) (label_of k link.upper.0))

-- of these links, those that are none of the tree fail, one after the other
abbrev pub only_tree : ℕ → LivePorts → List Link → LivePorts
only_tree k live [] = live
only_tree k live (link ∷ links) = only_tree k (if is_off_tree k link then with_link live link false else live) links

-- so it is in a world, a step for each
abbrev pub tree_from : ℕ → WorldView → List Link → WorldView
tree_from k w [] = w
tree_from k w (link ∷ links) = tree_from k (if is_off_tree k link then link_failed (record w { steps = w.steps + 1 }) link else w) links

-- The links are in the order of the labels of their lower and then of their upper ends.
abbrev pub tree_world : Plan → Limits → WorldView
tree_world plan limits = tree_from plan.k (booted plan limits) plan.links

-- the moments that lead there: of these links, those that are none of the tree fail
abbrev pub failures_of : ℕ → List Link → List Moment
failures_of k [] = []
failures_of k (link ∷ links) = if is_off_tree k link then Step (event.Fail link.lower link.upper) ∷ failures_of k links else failures_of k links

abbrev pub failures : Plan → List Moment
failures plan = failures_of plan.k plan.links

-- no more steps and entries than these lead there
pub record AllowFailures (plan : Plan) (limits : Limits) : Type 0 where
  pub steps : length plan.links ≤ limits.steps
  pub entries : length plan.links ≤ limits.entries
  pub bytes : 1 ≤ limits.bytes

-- the event repairs no link
abbrev pub IsNoRepair : Event → Type 0
IsNoRepair (event.Repair a b) = ⊥
IsNoRepair e = Unit {0}

abbrev pub RepairsNothing : Moment → Type 0
RepairsNothing (Step e) = IsNoRepair e
RepairsNothing (Mark entry) = Unit {0}

-- Of each root at most one frame reaches each switch and each port for hosts, and frames wait where the tree has them.
pub record KeepsToTree (w : WorldView) : Type 0 where
  pub counted : IsCounted w
  pub once : ReachesOnce w
  pub travels : TravelsOnTree w
  pub live : LiveIsTree w.plan w.links
