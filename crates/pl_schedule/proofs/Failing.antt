-- A world is in order while its links fail and are repaired.
use Rattle.std.proofs.Common.{◌≡◌, ℕ, ◌<◌, Contains, subst}
use Rattle.pl_wiring.specs.declared.link.Link.{Link}
use Rattle.pl_wiring.specs.FatTree.{IsTreeLink}
use Rattle.pl_wiring.specs.Labels.{switch_count}
use Rattle.pl_wiring.specs.LiveLinks.{IsFor, LivePorts}
use Rattle.pl_wiring.specs.Plan.{IsPlan, Plan}
use Rattle.pl_wiring.proofs.Exports.{tree_ends}
use Rattle.pl_world.specs.Flying.{IsFormed}
use Rattle.pl_world.specs.Worlds.{WorldView}

-- the ends of a link are ports of the tree
pub record HasItsEnds (k : ℕ) (link : Link) : Type 0 where
  pub lower : link.lower.0 < switch_count k
  pub lower_port : link.lower_port < k
  pub upper : link.upper.0 < switch_count k
  pub upper_port : link.upper_port < k

ends_of_plan : (plan : Plan) (link : Link) → IsPlan plan → Contains plan.links link → HasItsEnds plan.k link
ends_of_plan plan link is there =
    let ends = tree_ends plan.k link (subst (λ l. IsTreeLink plan.k l) there.2 (is.tree.no_other there.0 link there.1)) in
    let ports = subst (λ (l : Link). (l.lower_port < plan.k) × (l.upper_port < plan.k)) there.2 (is.tree.ports_in_range there.0 link there.1) in
    record { lower = ends.0; lower_port = ports.0; upper = ends.1; upper_port = ports.1 }

pub link_has_ends : (v w : WorldView) (link : Link) → v ≡ w → IsFormed v → Contains w.plan.links link → HasItsEnds w.plan.k link
link_has_ends v w link same formed there = ends_of_plan w.plan link (subst (λ (x : WorldView). IsPlan x.plan) same formed.plan) there

pub formed_links : (v : WorldView) (new : LivePorts) → IsFor v.plan new → IsFormed v → IsFormed (record v { links = new })
formed_links v new is_for f = record {
  plan = f.plan;
  links = is_for;
  attachments = f.attachments;
  at_ports = f.at_ports;
  heard = f.heard;
  switches = f.switches;
  ports = f.ports;
  hosts = f.hosts;
  from_hosts = f.from_hosts;
  out = f.out;
  to_manager = f.to_manager;
  from_manager = f.from_manager;
}
