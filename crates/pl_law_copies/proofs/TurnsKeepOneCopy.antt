-- A frame that came over a link lets no more go than came, and the turns of hosts keep it that at each port at most one frame of each root comes.
use Rattle.std.proofs.Common.{◌≡◌, ℕ, ◌≤◌, ◌||◌, not, true, false, if◌then◌else◌, List, [], ◌∷◌, map, is_none, refl, reverse, ap, arith}
use Rattle.std.proofs.lemmas.Bool.{cond_both}
use Rattle.pl_frame.specs.Ethernet.{destination_of, source_of}
use Rattle.pl_pmac.specs.Pmac.{pmac_of}
use Rattle.pl_wiring.specs.declared.label.SwitchNo.{SwitchNo}
use Rattle.pl_wiring.specs.declared.link.Peer.TheVariants.{Switch}
use Rattle.pl_wiring.specs.Peers.{peer_of}
use Rattle.pl_wiring.specs.Plan.{IsPlan, Plan}
use Rattle.pl_layouts.specs.Memberships.{is_group}
use Rattle.pl_layouts.specs.Placement.{is_placed}
use Rattle.pl_journal.specs.declared.cause.Cause.{Cause}
use Rattle.pl_journal.specs.declared.cause.Cause.TheVariants.{NotPlaced}
use Rattle.pl_journal.specs.declared.entry.Entry.{Entry}
use Rattle.pl_journal.specs.Places.{EdgePort}
use Rattle.pl_node.specs.declared.acts.Act.{Act}
use Rattle.pl_node.specs.declared.acts.Act.TheVariants as act
use Rattle.pl_node.specs.HostInputs.{HostAnswer, HostInput, HostRule}
use Rattle.pl_node.specs.PortRecords.{place_at}
use Rattle.pl_node.specs.SwitchViews.{SwitchView}
use Rattle.pl_steps.specs.Steps.{SwitchStep, does}
use Rattle.pl_switch_rule.specs.Delivering.{arrives_home, destination}
use Rattle.pl_switch_rule.specs.Forwarding.{Choice, came_by, forwards}
use Rattle.pl_switch_rule.specs.Granting.{is_local}
use Rattle.pl_switch_rule.specs.GroupForwarding.{destination_group, forwards_group, group_ports, no_way, passes_or_drops, way_of}
use Rattle.pl_switch_rule.specs.SwitchRule.{comes_from_switch}
use Rattle.pl_world.specs.declared.spoken_frame.SpokenFrame.TheVariants.{Over}
use Rattle.pl_world.specs.Changes.{noted, switch_no}
use Rattle.pl_world.specs.WorldRule.{HostTurn}
use Rattle.pl_world.specs.Worlds.{WorldView}
use Rattle.pl_world.proofs.Exports.{host_acts_left, Writes}
use Rattle.pl_law_counts.proofs.Exports.{claim, once_noted, send_one, used}
use Rattle.pl_law_copies.specs.Copies.{ComesOnce, may_come, may_come_by, to_ports}
use Rattle.pl_law_copies.specs.Standing.{KnowsTree}
use Rattle.pl_law_copies.proofs.ActsKeepOneCopy.{is_plain, IsNoCopyEntry, MakesFew, none_comes}
use Rattle.pl_law_copies.proofs.SinglePasses.{AreSingle, arrives_single, forwards_single, single_few, single_used}
use Rattle.pl_law_copies.proofs.Spreading.{group_few}

-- The frame that came over a link.

passes_few : (plan : Plan) (t : ℕ) (ports frame : List ℕ) → MakesFew plan t (map (λ p. act.Pass p frame) ports)
passes_few plan t [] frame = tt
passes_few plan t (p ∷ ports) frame = passes_few plan t ports frame

group_makes_none : (plan : Plan) (t : ℕ) (ports frame : List ℕ) (why : Cause) → MakesFew plan t (passes_or_drops ports frame why)
group_makes_none plan t [] frame why = tt
group_makes_none plan t (p ∷ ports) frame why = passes_few plan t ports frame

unicast_claim : (plan : Plan) (s port : ℕ) (there : EdgePort) (frame : List ℕ) → is_group (destination_of frame) ≡ false → claim may_come_by plan s port there frame ≡ 1
unicast_claim plan s port there frame unicast =
    ap (λ g. if◌then◌else◌ {A = ℕ} (not g || may_come plan.k s port (peer_of plan s port) there) 1 0) unicast

-- what acts let go is no more than came, and of what they make they let go one
abbrev pub LetsFew : Plan → ℕ → ℕ → ℕ → List ℕ → List Act → Type 0
LetsFew plan t s port frame acts = ((there : EdgePort) → used may_come_by plan t there acts ≤ claim may_come_by plan s port there frame) × MakesFew plan t acts

single_lets : (plan : Plan) (t s port : ℕ) (frame : List ℕ) (acts : List Act) → is_group (destination_of frame) ≡ false → AreSingle true acts → LetsFew plan t s port frame acts
single_lets plan t s port frame acts unicast single = (
  λ there. (let all = unicast_claim plan s port there frame unicast in let one = single_used plan t there true acts single in omega arith),
  single_few plan t true acts single,
)

pub over_link_few : (plan : Plan) → IsPlan plan → (t : SwitchNo) (v : SwitchView) → KnowsTree plan t.0 v → (s port q : ℕ) (frame : List ℕ) (choose : Choice) →
    peer_of plan s port ≡ Switch t q → peer_of plan t.0 q ≡ Switch (switch_no s) port → LetsFew plan t.0 s port frame (comes_from_switch choose v q frame).acts
over_link_few plan is_plan t v knows s port q frame choose peer back =
    let P : SwitchStep → Type 0 = λ step. LetsFew plan t.0 s port frame step.acts in
    cond_both (not (is_placed v.place) || is_none (place_at v q).level) (does v (act.Drop NotPlaced ∷ [])) _ P (λ unplaced. (λ there. omega arith, tt))
    (λ fine. cond_both (is_group (destination_of frame)) (forwards_group v (came_by v q) frame) _ P
    (λ group. (λ there. group_few plan is_plan t.0 v knows s port q t refl peer there frame group back, group_makes_none plan t.0 (group_ports v (way_of v.place (came_by v q)) (destination_group frame) (pmac_of (source_of frame))) frame (no_way v (came_by v q) (destination_group frame))))
    (λ unicast. cond_both (is_local v (destination frame)) (arrives_home choose v frame) (forwards choose v (came_by v q) frame) P
    (λ own. single_lets plan t.0 s port frame (arrives_home choose v frame).acts unicast (arrives_single choose v frame))
    (λ other. single_lets plan t.0 s port frame (forwards choose v (came_by v q) frame).acts unicast (forwards_single choose v (came_by v q) frame))))

-- Hosts.

abbrev pub Keeps : WorldView → WorldView → Type 0
Keeps a b = ComesOnce a → ComesOnce b

-- an entry is written with which nothing comes
pub noted_once : (w : WorldView) (e : Entry) → IsNoCopyEntry e → ComesOnce w → ComesOnce (noted w e)
noted_once w e quiet c = once_noted to_ports 0 w [] Over e (is_plain e quiet) (none_comes w.plan (reverse w.journal) e quiet) c

pub keeps_writes : Writes Keeps IsNoCopyEntry
keeps_writes = record {
  same = λ w c. c;
  on = λ a b d one next c. next (one c);
  entry = noted_once;
  dropped = λ id why. tt;
}

pub host_comes : (rule : HostRule) (w : WorldView) (h : ℕ) (input : HostInput) (answer : HostAnswer) (new : WorldView) → ComesOnce w →
    HostTurn rule w h input answer new → ComesOnce new
host_comes rule w h input answer new c turn =
    host_acts_left Keeps IsNoCopyEntry keeps_writes h (λ u frame come. send_one to_ports u h frame (λ r there. omega arith) come) rule w input answer new turn c
