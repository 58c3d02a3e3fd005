-- The world at its beginning.
use Rattle.std.specs.Prelude.{◌≡◌, All, ◌*◌, ◌/◌, ◌%◌, not, List, [], length, map, replicate, None}
use Rattle.std.specs.List.{range_with_len}
use Rattle.pl_arp.specs.declared.cache.Me.{Me}
use Rattle.pl_wiring.specs.declared.host.Host.{Host}
use Rattle.pl_wiring.specs.Labels.{switch_count}
use Rattle.pl_wiring.specs.LiveLinks.{LivePorts}
use Rattle.pl_wiring.specs.Peers.{peer_of}
use Rattle.pl_wiring.specs.Plan.{IsPlan, Plan}
use Rattle.pl_node.specs.HostViews.{boot_host}
use Rattle.pl_node.specs.ManagerViews.{booted_manager}
use Rattle.pl_journal.specs.Places.{is_host_port}
use Rattle.pl_node.specs.SwitchFacts.{switch_at_boot}
use Rattle.pl_world.specs.declared.limits.Limits.{Limits}
use Rattle.pl_world.specs.declared.attachment.AttachmentPoint.{AttachmentPoint}
use Rattle.pl_world.specs.Worlds.{WorldView}

abbrev pub me_of : Host → Me
me_of host = record { mac = host.mac; ip = host.ip }

-- the addresses of all hosts, in their order
abbrev pub host_table : Plan → List Me
host_table plan = map me_of plan.hosts

abbrev pub first_attachment : Host → AttachmentPoint
first_attachment host = record { edge = host.edge; port = host.port }

-- every link is live
abbrev pub all_live : Plan → LivePorts
all_live plan = record {
  k = plan.k;
  flags = map (λ n. not (is_host_port (peer_of plan (n / plan.k) (n % plan.k)))) (range_with_len 0 (switch_count plan.k * plan.k));
}

-- Each switch knows its id and the number of its ports, each host the hosts of the wiring. Nothing waits, and nothing was written.
abbrev pub booted : Plan → Limits → WorldView
booted plan limits = record {
  plan = plan;
  links = all_live plan;
  attachments = map first_attachment plan.hosts;
  heard = replicate (length plan.hosts) None;
  switches = map (λ id. switch_at_boot id plan.k) plan.ids;
  manager = booted_manager plan.k;
  hosts = map (λ host. boot_host (me_of host) (host_table plan)) plan.hosts;
  from_hosts = replicate (length plan.hosts) [];
  out = replicate (switch_count plan.k * plan.k) [];
  to_manager = replicate (switch_count plan.k) [];
  from_manager = replicate (switch_count plan.k) [];
  journal = [];
  begun = 0;
  steps = 0;
  limits = limits;
}

-- a wiring whose hosts have addresses of six bytes
pub record CanBegin (plan : Plan) : Type 0 where
  pub is_plan : IsPlan plan
  pub addresses : All (λ host. length host.mac.0 ≡ 6) plan.hosts
