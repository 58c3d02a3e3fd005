use Rattle.std.proofs.Common.{map, ap}
use Rattle.pl_world.proofs.Exports.{begun_counted, begun_within, parts_formed, parts_make}
use Rattle.pl_schedule.proofs.world.World.boot.Goals as goal

pub invariant_of-result : goal.invariant_of-result
invariant_of-result g c =
    parts_formed c.args.wiring c.args.limits c.in_ok-wiring_index.wiring_index c.in_ok-standing.standing.links c.in_ok-standing.standing.attachments c.in_ok-standing.standing.heard.items
    c.in_ok-devices.devices.switches.switches (g.M.ManagerLogic.view c.in_ok-devices.devices.manager)
    (map g.H.HostLogic.view c.in_ok-devices.devices.hosts.items) c.in_ok-queues.queues.from_hosts c.in_ok-devices.devices.switches.out c.in_ok-queues.queues.to_manager
    c.in_ok-queues.queues.from_manager c.new-2.result
    c.see_addresses.ensures (record {
      first_plan = c.in_ok-wiring_index.ensures;
      first_links = c.in_ok-standing.ensures.links;
      first_attachments = c.in_ok-standing.ensures.attachments;
      first_heard = c.in_ok-standing.ensures.heard;
      first_switches = ap (λ all. all.switches) c.in_ok-devices.ensures.switches;
      first_manager = c.in_ok-devices.ensures.manager;
      first_hosts = c.in_ok-devices.ensures.hosts;
      first_from_hosts = c.in_ok-queues.ensures.from_hosts;
      first_out = ap (λ all. all.out) c.in_ok-devices.ensures.switches;
      first_to_manager = c.in_ok-queues.ensures.to_manager;
      first_from_manager = c.in_ok-queues.ensures.from_manager;
      first_journal = c.new-2.ensures;
    })

pub returns-clause-booted : goal.returns-clause-booted
returns-clause-booted g c =
    parts_make c.args.wiring c.args.limits c.in_ok-wiring_index.wiring_index c.in_ok-standing.standing.links c.in_ok-standing.standing.attachments c.in_ok-standing.standing.heard.items
    c.in_ok-devices.devices.switches.switches (g.M.ManagerLogic.view c.in_ok-devices.devices.manager)
    (map g.H.HostLogic.view c.in_ok-devices.devices.hosts.items) c.in_ok-queues.queues.from_hosts c.in_ok-devices.devices.switches.out c.in_ok-queues.queues.to_manager
    c.in_ok-queues.queues.from_manager c.new-2.result
    (record {
      first_plan = c.in_ok-wiring_index.ensures;
      first_links = c.in_ok-standing.ensures.links;
      first_attachments = c.in_ok-standing.ensures.attachments;
      first_heard = c.in_ok-standing.ensures.heard;
      first_switches = ap (λ all. all.switches) c.in_ok-devices.ensures.switches;
      first_manager = c.in_ok-devices.ensures.manager;
      first_hosts = c.in_ok-devices.ensures.hosts;
      first_from_hosts = c.in_ok-queues.ensures.from_hosts;
      first_out = ap (λ all. all.out) c.in_ok-devices.ensures.switches;
      first_to_manager = c.in_ok-queues.ensures.to_manager;
      first_from_manager = c.in_ok-queues.ensures.from_manager;
      first_journal = c.new-2.ensures;
    })

pub returns-clause-orderly : goal.returns-clause-orderly
returns-clause-orderly g c = record {
  counted =
      begun_counted _ c.args.wiring c.args.limits c.see_addresses.ensures (parts_make c.args.wiring c.args.limits c.in_ok-wiring_index.wiring_index c.in_ok-standing.standing.links c.in_ok-standing.standing.attachments c.in_ok-standing.standing.heard.items
      c.in_ok-devices.devices.switches.switches (g.M.ManagerLogic.view c.in_ok-devices.devices.manager)
      (map g.H.HostLogic.view c.in_ok-devices.devices.hosts.items) c.in_ok-queues.queues.from_hosts c.in_ok-devices.devices.switches.out c.in_ok-queues.queues.to_manager
      c.in_ok-queues.queues.from_manager c.new-2.result
      (record {
        first_plan = c.in_ok-wiring_index.ensures;
        first_links = c.in_ok-standing.ensures.links;
        first_attachments = c.in_ok-standing.ensures.attachments;
        first_heard = c.in_ok-standing.ensures.heard;
        first_switches = ap (λ all. all.switches) c.in_ok-devices.ensures.switches;
        first_manager = c.in_ok-devices.ensures.manager;
        first_hosts = c.in_ok-devices.ensures.hosts;
        first_from_hosts = c.in_ok-queues.ensures.from_hosts;
        first_out = ap (λ all. all.out) c.in_ok-devices.ensures.switches;
        first_to_manager = c.in_ok-queues.ensures.to_manager;
        first_from_manager = c.in_ok-queues.ensures.from_manager;
        first_journal = c.new-2.ensures;
      }));
  hearing =
      begun_within _ c.args.wiring c.args.limits c.requires (parts_make c.args.wiring c.args.limits c.in_ok-wiring_index.wiring_index c.in_ok-standing.standing.links c.in_ok-standing.standing.attachments c.in_ok-standing.standing.heard.items
      c.in_ok-devices.devices.switches.switches (g.M.ManagerLogic.view c.in_ok-devices.devices.manager)
      (map g.H.HostLogic.view c.in_ok-devices.devices.hosts.items) c.in_ok-queues.queues.from_hosts c.in_ok-devices.devices.switches.out c.in_ok-queues.queues.to_manager
      c.in_ok-queues.queues.from_manager c.new-2.result
      (record {
        first_plan = c.in_ok-wiring_index.ensures;
        first_links = c.in_ok-standing.ensures.links;
        first_attachments = c.in_ok-standing.ensures.attachments;
        first_heard = c.in_ok-standing.ensures.heard;
        first_switches = ap (λ all. all.switches) c.in_ok-devices.ensures.switches;
        first_manager = c.in_ok-devices.ensures.manager;
        first_hosts = c.in_ok-devices.ensures.hosts;
        first_from_hosts = c.in_ok-queues.ensures.from_hosts;
        first_out = ap (λ all. all.out) c.in_ok-devices.ensures.switches;
        first_to_manager = c.in_ok-queues.ensures.to_manager;
        first_from_manager = c.in_ok-queues.ensures.from_manager;
        first_journal = c.new-2.ensures;
      }));
}
