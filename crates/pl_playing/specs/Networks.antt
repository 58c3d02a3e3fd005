-- The networks that a script may be played on: the fabric, and learning bridges on the tree of its links.
use Rattle.std.specs.Prelude.{◌≡◌, ◌≤◌, ℕ, List, map, reverse, Some, slice_get}
use Rattle.std.specs.List.{AllByRecursion}
use Rattle.pl_wiring.specs.declared.host.Host.{Host}
use Rattle.pl_wiring.specs.declared.label.SwitchNo.{SwitchNo}
use Rattle.pl_wiring.specs.Labels.{label_of}
use Rattle.pl_inputs.specs.declared.words.Network.{Network}
use Rattle.pl_inputs.specs.declared.words.Network.TheVariants.{Bridges, Fabric}
use Rattle.pl_inputs.specs.Inputs.{Inputs}
use Rattle.pl_journal.specs.Flights.{ends, trail}
use Rattle.pl_journal.specs.Places.{EdgePort}
use Rattle.pl_node.specs.HostInputs.{HostRule}
use Rattle.pl_node.specs.ManagerDuties.{ManagerRule}
use Rattle.pl_node.specs.SwitchInputs.{SwitchRule}
use Rattle.pl_world.specs.Runs.{Moment, WorldRun}
use Rattle.pl_world.specs.Worlds.{WorldView}
use Rattle.pl_bridge_rule.specs.Tree.{IsWay}
use Rattle.pl_fabric.specs.Drains.{IsDrained}
use Rattle.pl_fabric.specs.Settled.{IsSettled}
use Rattle.pl_law_bridge.specs.ExactWay.{IsSure, WentBy}
use Rattle.pl_law_bridge.specs.GoingOut.{times_gone_out}
use Rattle.pl_law_bridge.specs.Reaching.{times_reached}
use Rattle.pl_law_bridge.specs.Reaching.Target.{Arrival, Crossing}
use Rattle.pl_law_bridge.specs.Travelling.{ArriveAsSent, times_on}
use Rattle.pl_law_bridge.specs.TreeWorld.{RepairsNothing, tree_world}
use Rattle.pl_law_theorem.specs.OneSwitch.{IsOneSwitch}
use Rattle.pl_script_rule.specs.Asked.{DoesAsAsked}
use Rattle.pl_script_rule.specs.OnTree.{PlaysOn}
use Rattle.pl_script_rule.specs.Scenes.{Scene}
use Rattle.pl_playing.specs.Outcomes.{Course, Play, records_of, run_limits}

-- each host did just what the script asks of it, and what the frames that arrived bring about
abbrev pub HostsDoAsAsked : HostRule → Inputs → Scene → Type 0
HostsDoAsAsked host i scene =
    (n : ℕ) (at : Host) → slice_get i.plan.hosts n ≡ Some at → DoesAsAsked host i.plan (records_of i) i.lines n at scene.world

-- What learning bridges do in a world that a script led to. Each switch is crossed at most once by a frame and its copies, and stands at most once in
-- the line of crossings of each; each such line is a path of the tree; at most one copy arrives at each port for hosts; and whatever arrives has the
-- bytes that were sent, and is for that host.
pub record IsTreeOfBridges (w : WorldView) : Type 0 where
  pub crossed : (r x : ℕ) → times_reached w.plan (reverse w.journal) r (Crossing x) ≤ 1
  pub lines : (id x : ℕ) → times_on x (trail (reverse w.journal) id) ≤ 1
  pub paths : (id : ℕ) → IsWay (map (label_of w.plan.k) (trail (reverse w.journal) id))
  pub copies : (r : ℕ) (there : EdgePort) → times_reached w.plan (reverse w.journal) r (Arrival there) ≤ 1
  pub arrived : ArriveAsSent w.plan (reverse w.journal)

module _ (switch : SwitchRule) (manager : ManagerRule) (host : HostRule) where
  -- The script of what was read is played on a network of switches, a manager and hosts, by these rules: up to its last line,
  -- or up to the first line that is stopped.
  abbrev pub PlaysTo : Network → Course
  PlaysTo network i end scene = PlaysOn network switch manager host i.plan run_limits (records_of i) i.lines end scene

  -- To its hosts the fabric is one lossy switch, and the journal is a run of that.
  pub record IsKnownOfFabric (i : Inputs) (scene : Scene) : Type 0 where
    pub behaviour : HostsDoAsAsked host i scene
    pub one_switch : IsOneSwitch switch manager host scene.world

  -- Frames keep to the tree, and one whose way is learnt, live and left alone goes just that way.
  pub record IsKnownOfBridges (i : Inputs) (scene : Scene) : Type 0 where
    pub behaviour : HostsDoAsAsked host i scene
    pub on_tree : IsTreeOfBridges scene.world
    pub exact : (before moments more : List Moment) (old new : WorldView) (id h g : ℕ) (frame : List ℕ) (way : List SwitchNo) →
        AllByRecursion RepairsNothing before → WorldRun switch manager host (tree_world i.plan run_limits) before old →
        IsSure manager host old moments new id h g frame way → 1 ≤ ends new.journal id → WorldRun switch manager host new more scene.world →
        WentBy scene.world id g frame way
    -- at most one frame of each root goes out of each port for hosts, whoever stands there and whatever becomes of it
    pub goes_out : (moments : List Moment) (run : WorldRun switch manager host (tree_world i.plan run_limits) moments scene.world) (r : ℕ) (there : EdgePort) →
        AllByRecursion RepairsNothing moments →
        times_gone_out switch manager host (tree_world i.plan run_limits) moments scene.world run r there ≤ 1

  abbrev pub on_fabric : Play
  on_fabric = record { leads = PlaysTo Fabric; known = IsKnownOfFabric; rests = IsSettled }

  abbrev pub on_bridges : Play
  on_bridges = record { leads = PlaysTo Bridges; known = IsKnownOfBridges; rests = IsDrained }
