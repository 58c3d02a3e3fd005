-- Hosts stand at ports of edge switches that have no link, at the beginning and after each step.
use Rattle.std.proofs.Common.{◌≡◌, ℕ, suc, ◌<◌, ◌&&◌, Bool, true, false, nat_lt, if◌then◌else◌, List, [], ◌∷◌, map, Some, None, refl, subst, arith, All, Contains}
use Rattle.std.specs.List.{AllByRecursion}
use Rattle.std.proofs.lemmas.Bool.{and_parts, ltb-true}
use Rattle.pl_wiring.specs.declared.host.Host.{Host}
use Rattle.pl_wiring.specs.declared.label.SwitchNo.{SwitchNo}
use Rattle.pl_wiring.specs.declared.link.Peer.TheVariants.{HostPort}
use Rattle.pl_wiring.specs.FatTree.{IsAt}
use Rattle.pl_wiring.specs.Labels.{edge_count, switch_count}
use Rattle.pl_wiring.specs.Peers.{peer_of}
use Rattle.pl_wiring.specs.Plan.{IsPlan, Plan}
use Rattle.pl_wiring.proofs.Exports.{IsPeer-host_port, peer_is_none, peer_says}
use Rattle.pl_journal.specs.Places.{is_host_port}
use Rattle.pl_journal.proofs.Exports.{host_port_is}
use Rattle.pl_world.specs.declared.error.StepError.TheVariants.{NoSuch}
use Rattle.pl_world.specs.Booting.{first_attachment}
use Rattle.pl_world.specs.Refusals.{has_host, has_port, has_switch, is_for_hosts, refusal_of_move, refusal_of_place}
use Rattle.pl_world.specs.Changes.{host_at}
use Rattle.pl_world.specs.Worlds.{WorldView}
use Rattle.pl_law_control_plane.specs.HostsAtEdges.{IsAtEdge}

-- a port that is there and has no link is one of an edge switch
pub free_port : (plan : Plan) (s p : ℕ) → IsPlan plan → s < switch_count plan.k → p < plan.k → peer_of plan s p ≡ HostPort → s < edge_count plan.k
free_port plan s p is there within free = IsPeer-host_port plan s p (peer_of plan s p) is there within (peer_says plan.links s p) free

-- where a host may move to
pub moves_to_edge : (w : WorldView) (h s port : ℕ) (edge : SwitchNo) → edge.0 ≡ s → IsPlan w.plan → refusal_of_move w h s port ≡ None →
    IsAtEdge w.plan (record { edge = edge; port = port })
moves_to_edge w h s port edge same is none =
    by (has_host w.plan h && is_for_hosts w.plan s port) refl none
  where
    by : (b : Bool) → (has_host w.plan h && is_for_hosts w.plan s port) ≡ b →
        (if b then refusal_of_place h (host_at w s port) else Some NoSuch) ≡ None → IsAtEdge w.plan (record { edge = edge; port = port })
    by false e none = absurd (cc)
    by true e none =
        let here = (and_parts (has_host w.plan h) (is_for_hosts w.plan s port) e).1 in
        let parts = and_parts (has_port w.plan s port) (is_host_port (peer_of w.plan s port)) here in
        let there = and_parts (has_switch w.plan s) (nat_lt port w.plan.k) parts.0 in
        let free = host_port_is (peer_of w.plan s port) parts.1 in
        let within = ltb-true port w.plan.k there.1 in
        record {
          edge = rw same (free_port w.plan s port is (ltb-true s (switch_count w.plan.k) there.0) within free);
          port = within;
          free = rw same free;
        }

-- at the beginning
first_attachments : (plan : Plan) (hosts : List Host) → ((host : Host) → Contains hosts host → IsAtEdge plan (first_attachment host)) →
    AllByRecursion (IsAtEdge plan) (map first_attachment hosts)
first_attachments plan [] all = tt
first_attachments plan (host ∷ hosts) all =
    (all host (0, omega arith, refl), first_attachments plan hosts (λ other there. all other (suc there.0, omega (arith, there.1), there.2)))

-- each host of the wiring stands at a port of an edge switch that has no link
host_at_edge : (plan : Plan) (host : Host) → IsPlan plan → Contains plan.hosts host → IsAtEdge plan (first_attachment host)
host_at_edge plan host is there =
    let at = of_all (λ (h : Host). (h.edge.0 < edge_count plan.k) × (h.port < plan.k)) plan.hosts host is.at_edges there in
    let free = of_all (λ (h : Host). All (λ l. IsAt l h.edge.0 h.port → ⊥) plan.links) plan.hosts host is.at_free_ports there in
    record { edge = at.0; port = at.1; free = (peer_is_none plan host.edge.0 host.port is).1 free }
  where
    of_all : (P : Host → Type 0) (hosts : List Host) (x : Host) → All P hosts → Contains hosts x → P x
    of_all P hosts x all there = subst P there.2 (all there.0 x there.1)

pub hosts_at_first : (plan : Plan) → IsPlan plan → AllByRecursion (IsAtEdge plan) (map first_attachment plan.hosts)
hosts_at_first plan is = first_attachments plan plan.hosts (λ host there. host_at_edge plan host is there)
